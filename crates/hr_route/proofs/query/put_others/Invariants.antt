-- What was put so far, and the pieces that are left.
use Rattle.std.proofs.Common.{◌≡◌, ◌++◌, length, option_copied}
use Rattle.hr_text.specs.Cutting.{pieces_left}
use Rattle.hr_route.specs.Query.{marked, others, pieces}
use Rattle.hr_route.proofs.query.put_others.Given as goal

abbrev pub invariant-loop-left : goal.invariant-loop-left
invariant-loop-left l =
    l.out.items ++ marked l.mark (others l.key (pieces_left 38 (option_copied l.left)))
    ≡ l.initial.out.items ++ marked 63 (others l.key (pieces l.query))

abbrev pub decreases-loop-left : goal.decreases-loop-left
decreases-loop-left l = length (pieces_left 38 (option_copied l.left))
