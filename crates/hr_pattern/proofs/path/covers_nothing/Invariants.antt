use Rattle.std.proofs.Common.{◌↔◌, [], length}
use Rattle.hr_pattern.specs.Item.{CoversPath}
use Rattle.hr_pattern.proofs.path.covers_nothing.Given as goal

-- what is asked covers nothing exactly where all does
abbrev pub invariant-loop-items : goal.invariant-loop-items
invariant-loop-items l = CoversPath l.asked [] ↔ CoversPath l.form []

abbrev pub decreases-loop-items : goal.decreases-loop-items
decreases-loop-items l = length l.asked
