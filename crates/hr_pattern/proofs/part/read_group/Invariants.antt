use Rattle.std.proofs.Common.{length, ◌≡◌, ◌≤◌}
use Rattle.hr_pattern.specs.Reading.{inside}
use Rattle.hr_pattern.proofs.ReadingLemmas.{after_choices}
use Rattle.hr_pattern.proofs.part.read_group.Given as goal

-- the alternatives so far and what is left read as all does
abbrev pub invariant-loop-placed : goal.invariant-loop-placed
invariant-loop-placed l = record {
  shorter : length l.left ≤ length l.signs;
  so_far : after_choices l.choices l.items (inside l.brace l.left) ≡ inside l.brace l.signs;
}

abbrev pub decreases-loop-placed : goal.decreases-loop-placed
decreases-loop-placed l = length l.left
