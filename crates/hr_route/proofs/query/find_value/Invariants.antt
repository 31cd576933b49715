-- What was found so far, and the pieces that are left.
use Rattle.std.proofs.Common.{length, option_copied}
use Rattle.hr_text.specs.Cutting.{pieces_left}
use Rattle.hr_route.specs.Query.{values_in, values_of}
use Rattle.hr_route.proofs.QueryLemmas.{IsFoundSoFar}
use Rattle.hr_route.proofs.query.find_value.Given as goal

abbrev pub invariant-loop-left : goal.invariant-loop-left
invariant-loop-left l =
    IsFoundSoFar (values_of l.key l.query) (values_in l.key (pieces_left 38 (option_copied l.left))) l.found

abbrev pub decreases-loop-left : goal.decreases-loop-left
decreases-loop-left l = length (pieces_left 38 (option_copied l.left))
