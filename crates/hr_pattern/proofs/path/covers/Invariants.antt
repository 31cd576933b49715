use Rattle.std.proofs.Common.{◌↔◌, length}
use Rattle.hr_pattern.specs.Form.{FormCovers}
use Rattle.hr_pattern.specs.Item.{CoversPath}
use Rattle.hr_pattern.proofs.path.covers.Given as goal

-- what is asked covers what is left exactly where all covers all
abbrev pub invariant-loop-items : goal.invariant-loop-items
invariant-loop-items l = CoversPath l.asked l.left ↔ FormCovers l.text l.form

abbrev pub decreases-loop-items : goal.decreases-loop-items
decreases-loop-items l = length l.asked
