use Rattle.std.proofs.Common.{sym, ◌∙◌}
use Rattle.hr_periodic.specs.Item.{in_stretch}
use Rattle.hr_periodic.proofs.ReadingLemmas.{marked_more, marked_same}
use Rattle.hr_periodic.proofs.reading.Stretch.mark.Goals as goal
use Rattle.hr_periodic.proofs.reading.Stretch.mark.Goals.{then-contains, else-contains}

pub loop-number-preserved : goal.loop-number-preserved
loop-number-preserved c = elim c.if-contains.branch [
  | then-contains w ↦ marked_more (in_stretch c.args.self) c.args.numbers c.loop-number.number c.loop-number.marked c.if-contains.marked c.loop-number-test.true (sym c.contains.ensures ∙ w.if-contains.true) w.marked-is c.loop-number.invariant
  | else-contains w ↦ marked_same (in_stretch c.args.self) c.args.numbers c.loop-number.number c.loop-number.marked c.if-contains.marked (sym c.contains.ensures ∙ w.if-contains.false) w.marked-is c.loop-number.invariant
]
