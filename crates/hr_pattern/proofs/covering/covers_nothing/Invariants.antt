use Rattle.std.proofs.Common.{◌↔◌, [], length}
use Rattle.hr_pattern.specs.Item.{CoversBytes}
use Rattle.hr_pattern.proofs.covering.covers_nothing.Given as goal

-- what is asked covers nothing exactly where all does
abbrev pub invariant-loop-item : goal.invariant-loop-item
invariant-loop-item l = CoversBytes l.asked [] ↔ CoversBytes l.items []

abbrev pub decreases-loop-item : goal.decreases-loop-item
decreases-loop-item l = length l.asked
