-- The expanded forms of a pattern by their numbers. (Our own.)
use Rattle.std.specs.Prelude.{ℕ, ◌/◌, ◌%◌, List, [], ◌∷◌, ◌++◌, length, drop, slice_index_or}
use Rattle.hr_base.specs.Bytes.{Text}
use Rattle.hr_pattern.specs.declared.item.Item.{Item}
use Rattle.hr_pattern.specs.declared.part.Part.{Part}
use Rattle.hr_pattern.specs.declared.part.Reading.{Reading}
use Rattle.hr_pattern.specs.Reading.{outside}
use Rattle.hr_pattern.specs.Sign.{signs_from}

-- What a text reads as from a place on.
abbrev pub reading_from : Text → ℕ → Reading
reading_from text at = outside (signs_from at (drop at text))

-- The alternatives of the first part, or none where there is no part.
abbrev pub first_choices : List Part → List (List Item)
first_choices [] = []
first_choices (part ∷ parts) = part.choices

-- What follows the first part of a reading.
abbrev pub behind_first : Reading → Reading
behind_first reading = record { parts = drop 1 reading.parts; fault = reading.fault }

-- The expanded form of a number: its remainder by the count of a part's alternatives chooses one
-- of them, and its quotient chooses among those of the parts behind.
abbrev pub form_at : ℕ → List Part → List Item
form_at number [] = []
form_at number (part ∷ parts) =
    slice_index_or part.choices (number % length part.choices) []
    ++ form_at (number / length part.choices) parts
