use Rattle.std.proofs.Common.{◌-◌, ◌+◌, ◌≤◌, length, drop, length-drop, subst, sym, ap, ◌∙◌, arith}
use Rattle.std.specs.List.{join_with_byte}
use Rattle.std.proofs.lemmas.List.{take_rest}
use Rattle.hr_base.specs.Bytes.{Text}
use Rattle.hr_filter.proofs.NamingLemmas.{left_all, left_more, left_named, left_none}
use Rattle.hr_filter.proofs.naming.behind_leading.Goals as goal

pub returns-in_default-clause-left : goal.returns-in_default-clause-left
returns-in_default-clause-left c =
    sym (left_none (c.args.count - c.loop.counter) c.loop.left.now (sym c.first_slash.ensures ∙ c.in_default.is))
    ∙ ap (join_with_byte 47) c.loop.invariant.left

pub loop-preserved : goal.loop-preserved
loop-preserved c =
    let found = sym c.first_slash.ensures ∙ c.in-Some.is in
    let is = take_rest c.loop.left.now (c.in-Some.end + 1) in
    record {
      left = left_more c.args.count c.loop.counter c.loop.left.now _ c.in-Some.end c.loop-test.true found is ∙ c.loop.invariant.left;
      named = left_named c.loop.left.now _ c.in-Some.end c.loop.invariant.named found is;
      shorter =
          let left = length-drop (c.in-Some.end + 1) c.loop.left.now in
          let less = c.loop.invariant.shorter in
          let short : length (drop (c.in-Some.end + 1) c.loop.left.now) ≤ length c.args.name.now = omega (arith, left, less) in
          subst (λ (t : Text). length t ≤ length c.args.name.now) (sym is) short;
    }

pub returns-clause-left : goal.returns-clause-left
returns-clause-left c =
    let stop = c.loop-test.false in
    sym (left_all (c.args.count - c.loop.counter) c.loop.left.now (omega (arith, stop)))
    ∙ ap (join_with_byte 47) c.loop.invariant.left
