use Rattle.std.proofs.Common.{◌<◌, ◌≤◌, ◌-◌, length}
use Rattle.hr_pattern.proofs.ChoiceLemmas.{Met}
use Rattle.hr_pattern.proofs.expansion.count_choices.Given as goal

-- all alternatives before the one that is met were counted
abbrev pub invariant-loop-place : goal.invariant-loop-place
invariant-loop-place l = record {
  within : l.place ≤ length l.text;
  met : Met l.text l.at l.initial.place l.place (l.count - 1);
  some : 0 < l.count;
  few : l.count ≤ l.place;
}

abbrev pub decreases-loop-place : goal.decreases-loop-place
decreases-loop-place l = length l.text - l.place
