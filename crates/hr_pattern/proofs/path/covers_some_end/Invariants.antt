use Rattle.std.proofs.Common.{◌+◌, ◌*◌, length}
use Rattle.hr_pattern.specs.Item.{is_any_path, CoversBytes}
use Rattle.hr_pattern.proofs.CoversLemmas.{Walk}
use Rattle.hr_pattern.proofs.path.covers_some_end.Given as goal

abbrev pub invariant-loop-component : goal.invariant-loop-component
invariant-loop-component l = Walk is_any_path CoversBytes l.form l.text l.behind_star l.tried l.asked l.left

abbrev pub decreases-loop-component : goal.decreases-loop-component
decreases-loop-component l = length l.tried * (length l.form + 1) + length l.asked
