-- What a pattern's text reads as: its parts and its first fault. (Our own.)
use Rattle.std.specs.Prelude.{⊤, ℕ, List, [], ◌∷◌, Some, None}
use Rattle.std.specs.List.{onto_first}
use Rattle.hr_pattern.specs.declared.item.Item.{Item}
use Rattle.hr_pattern.specs.declared.item.Item.TheVariants.{Byte}
use Rattle.hr_pattern.specs.declared.part.Part.{Part}
use Rattle.hr_pattern.specs.declared.part.Reading.{Reading}
use Rattle.hr_pattern.specs.declared.refusal.PatternRefused.{PatternRefused}
use Rattle.hr_pattern.specs.declared.refusal.PatternRefused.TheVariants.{At, Memory}
use Rattle.hr_pattern.specs.declared.refusal.Why.TheVariants.{Nested, Unclosed, Stray}
use Rattle.hr_pattern.specs.declared.sign.Placed.{Placed}
use Rattle.hr_pattern.specs.declared.sign.Sign.TheVariants.{Stands, Open, Comma, Close, Wrong}

-- A fact holds, but where memory ran out.
abbrev pub UnlessMemory : PatternRefused → Type 0 → Type 0
UnlessMemory Memory P = ⊤
UnlessMemory (At at why) P = P

-- What reads as a fault, with no part before it.
abbrev pub stopped : PatternRefused → Reading
stopped fault = record { parts = []; fault = Some fault }

-- A part, and then what follows it.
abbrev pub with_part : Part → Reading → Reading
with_part part rest = record { parts = part ∷ rest.parts; fault = rest.fault }

-- What follows the `{` of a group: a fault before its end, or its alternatives and what the signs
-- behind its `}` read as.
pub data Group : Type 0 where
  Broken : PatternRefused → Group
  Whole : List (List Item) → Reading → Group

-- An item outside a group, as the first part.
abbrev pub with_lone : ℕ → Item → Reading → Reading
with_lone at item rest = with_part (record { at = at; choices = (item ∷ []) ∷ [] }) rest

-- The group whose `{` stands at a place, as the first part.
abbrev pub with_group : ℕ → Group → Reading
with_group at (Broken fault) = stopped fault
with_group at (Whole choices rest) = with_part (record { at = at; choices = choices }) rest

-- An item at the front of the first alternative of a group.
abbrev pub with_item : Item → Group → Group
with_item item (Broken fault) = Broken fault
with_item item (Whole choices rest) = Whole (onto_first item choices) rest

-- An empty alternative before the first of a group.
abbrev pub with_choice : Group → Group
with_choice (Broken fault) = Broken fault
with_choice (Whole choices rest) = Whole ([] ∷ choices) rest

abbrev mutual
  -- What signs read as that begin outside a group.
  pub outside : List Placed → Reading
  outside [] = record { parts = []; fault = None }
  outside (placed ∷ signs) =
      elim (placed.sign) [
        | Stands item ↦ with_lone placed.at item (outside signs)
        | Comma ↦ with_lone placed.at (Byte 44) (outside signs)
        | Open ↦ with_group placed.at (inside placed.at signs)
        | Close ↦ stopped (At placed.at Stray)
        | Wrong why ↦ stopped (At placed.at why)
      ]

  -- What signs read as that begin within a group, whose `{` stands at a place.
  pub inside : ℕ → List Placed → Group
  inside brace [] = Broken (At brace Unclosed)
  inside brace (placed ∷ signs) =
      elim (placed.sign) [
        | Stands item ↦ with_item item (inside brace signs)
        | Comma ↦ with_choice (inside brace signs)
        | Close ↦ Whole ([] ∷ []) (outside signs)
        | Open ↦ Broken (At placed.at Nested)
        | Wrong why ↦ Broken (At placed.at why)
      ]
