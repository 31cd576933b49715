-- The value is the first among the pieces that are left.
use Rattle.std.proofs.Common.{◌≡◌, length, option_copied}
use Rattle.hr_text.specs.Cutting.{pieces_left}
use Rattle.hr_rest.specs.Query.{value_among, value_in}
use Rattle.hr_rest.proofs.query.value_in.Given as goal

abbrev pub invariant-loop-left : goal.invariant-loop-left
invariant-loop-left l = value_among l.key (pieces_left 38 (option_copied l.left)) ≡ value_in l.key l.query

abbrev pub decreases-loop-left : goal.decreases-loop-left
decreases-loop-left l = length (pieces_left 38 (option_copied l.left))
