use Rattle.std.proofs.Common.{◌∙◌, arith}
use Rattle.hr_pattern.proofs.ReadingLemmas.{after_nothing, choice_ends}
use Rattle.hr_pattern.proofs.part.read_group.Goals as goal

pub loop-placed-init : goal.loop-placed-init
loop-placed-init c = record {
  shorter = omega arith;
  so_far = rw (c.new-choices.ensures, c.new-items.ensures) (after_nothing c.args.brace c.args.signs.now);
}

pub loop-placed-preserved : goal.loop-placed-preserved
loop-placed-preserved c = record {
  shorter = omega (arith, c.in-Some.ensures.cases.1);
  so_far = rw (c.in_ok-push-in-Comma.ensures.ok, c.replace.ensures.value, c.replace.ensures.after, c.new.ensures)
      (choice_ends c.args.brace c.loop-placed.choices c.loop-placed.items _ _ _ c.in-Some.ensures.cases.0 c.in-Comma.is ∙ c.loop-placed.invariant.so_far);
}
