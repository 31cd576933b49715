use Rattle.std.proofs.Common.{◌≡◌, ◌≤◌, ◌++◌, ◌-◌, None, length}
use Rattle.hr_pattern.specs.Choice.{form_at, reading_from}
use Rattle.hr_pattern.specs.Form.{reading_of}
use Rattle.hr_pattern.proofs.expansion.expand.Given as goal

-- the items so far and what is left to choose are the form
abbrev pub invariant-loop-at : goal.invariant-loop-at
invariant-loop-at l = record {
  within : l.at ≤ length l.text;
  room : length l.form.items ≤ l.at;
  sound : (reading_from l.text l.at).fault ≡ None;
  so_far : l.form.items ++ form_at l.left (reading_from l.text l.at).parts ≡ form_at l.fn.number (reading_of l.text).parts;
}

abbrev pub decreases-loop-at : goal.decreases-loop-at
decreases-loop-at l = length l.text - l.at
