use Rattle.std.proofs.Common.{◌↔◌, length}
use Rattle.hr_pattern.specs.Item.{CoversBytes}
use Rattle.hr_pattern.proofs.covering.covers_bytes.Given as goal

-- what is asked covers what is left exactly where all covers all
abbrev pub invariant-loop-item : goal.invariant-loop-item
invariant-loop-item l = CoversBytes l.asked l.left ↔ CoversBytes l.items l.bytes

abbrev pub decreases-loop-item : goal.decreases-loop-item
decreases-loop-item l = length l.asked
