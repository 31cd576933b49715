use Rattle.std.proofs.Common.{◌≡◌, ℕ, ◌||◌, length}
use Rattle.hr_text.specs.Cutting.{split_at_byte}
use Rattle.hr_periodic.specs.Field.{holds}
use Rattle.hr_periodic.specs.Reading.{comma, are_items, have}
use Rattle.hr_periodic.proofs.reading.Limits.list.Given as goal

-- what is left is a list where the text is one, and its numbers and those so far are the text's
abbrev pub invariant-loop-numbers : goal.invariant-loop-numbers
invariant-loop-numbers l =
    (are_items l.self (split_at_byte comma l.left) ≡ are_items l.self (split_at_byte comma l.fn.text))
    × ((k : ℕ) → (holds l.numbers k || have l.self (split_at_byte comma l.left) k) ≡ have l.self (split_at_byte comma l.fn.text) k)

abbrev pub decreases-loop-numbers : goal.decreases-loop-numbers
decreases-loop-numbers l = length l.left
