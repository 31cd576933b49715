use Rattle.std.proofs.Common.{length, ◌≡◌}
use Rattle.hr_pattern.specs.Reading.{outside}
use Rattle.hr_pattern.proofs.ReadingLemmas.{after_parts}
use Rattle.hr_pattern.proofs.part.read_parts.Given as goal

-- the parts so far and what is left read as all does
abbrev pub invariant-loop-placed : goal.invariant-loop-placed
invariant-loop-placed l = after_parts l.parts (outside l.left) ≡ outside l.signs

abbrev pub decreases-loop-placed : goal.decreases-loop-placed
decreases-loop-placed l = length l.left
