use Rattle.std.proofs.Common.{◌≤◌, ◌<◌, ◌-◌, length}
use Rattle.hr_pattern.proofs.ChoiceLemmas.{Put}
use Rattle.hr_pattern.proofs.expansion.push_choice.Given as goal

-- the alternative that is chosen is put as far as it was met
abbrev pub invariant-loop-place : goal.invariant-loop-place
invariant-loop-place l = record {
  within : l.place ≤ length l.text;
  later : l.at < l.place;
  room : length l.form.items ≤ l.place;
  few : l.met ≤ l.place;
  put : Put l.text l.at l.initial.place l.place l.met l.choice l.fn.form.items l.form.items;
}

abbrev pub decreases-loop-place : goal.decreases-loop-place
decreases-loop-place l = length l.text - l.place
