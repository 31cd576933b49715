use Rattle.std.proofs.Common.{length, ◌-◌, ◌≡◌, ◌≤◌, ◌++◌, drop}
use Rattle.hr_pattern.specs.Sign.{signs_from}
use Rattle.hr_pattern.proofs.sign.signs_of.Given as goal

-- the signs so far and those of what is left are all
abbrev pub invariant-loop-at : goal.invariant-loop-at
invariant-loop-at l = record {
  within : l.at ≤ length l.text;
  so_far : l.signs ++ signs_from l.at (drop l.at l.text) ≡ signs_from 0 l.text;
}

abbrev pub decreases-loop-at : goal.decreases-loop-at
decreases-loop-at l = length l.text - l.at
