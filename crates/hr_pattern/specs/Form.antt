-- The expanded forms of a pattern, and which texts fit them. (Our own.)
use Rattle.std.specs.Prelude.{◌≡◌, ℕ, ◌*◌, nat_lt, if◌then◌else◌, List, [], ◌∷◌, ◌++◌, length, map, Option, Some, None, Any}
use Rattle.std.specs.List.{flat_map, slice_split}
use Rattle.std.specs.Option.{option_or}
use Rattle.hr_base.specs.Bytes.{Text}
use Rattle.hr_pattern.specs.declared.form.TheConstants.{FORMS_LIMIT}
use Rattle.hr_pattern.specs.declared.item.Item.{Item}
use Rattle.hr_pattern.specs.declared.part.Part.{Part}
use Rattle.hr_pattern.specs.declared.part.Reading.{Reading}
use Rattle.hr_pattern.specs.declared.pattern.TheConstants.{LIMIT}
use Rattle.hr_pattern.specs.declared.refusal.PatternRefused.{PatternRefused}
use Rattle.hr_pattern.specs.declared.refusal.PatternRefused.TheVariants.{At}
use Rattle.hr_pattern.specs.declared.refusal.Why.TheVariants.{Long, Many}
use Rattle.hr_pattern.specs.Component.{components}
use Rattle.hr_pattern.specs.Item.{CoversPath, is_slash}
use Rattle.hr_pattern.specs.Reading.{outside}
use Rattle.hr_pattern.specs.Sign.{signs_from}

-- What a text reads as.
abbrev pub reading_of : Text → Reading
reading_of text = outside (signs_from 0 text)

-- Each of some fronts with each of some backs behind it.
abbrev pub combined : List (List Item) → List (List Item) → List (List Item)
combined fronts backs = flat_map (λ front. map (λ back. front ++ back) backs) fronts

-- The expanded forms of parts: one alternative is chosen in each.
abbrev pub forms : List Part → List (List Item)
forms [] = [] ∷ []
forms (part ∷ parts) = combined part.choices (forms parts)

-- The first part with which the forms pass the limit, where so many stand before the parts.
abbrev pub too_many : ℕ → List Part → Option PatternRefused
too_many count [] = None
too_many count (part ∷ parts) =
    if nat_lt FORMS_LIMIT (count * length part.choices) then Some (At part.at Many) else
    too_many (count * length part.choices) parts

-- The first fault of a text: its length; then a group with which the forms pass the limit, which
-- is met at its end and so before any fault behind it; then the fault at which the reading stopped.
unfoldable pub fault_of : Text → Option PatternRefused
fault_of text =
    if nat_lt LIMIT (length text) then Some (At LIMIT Long) else
    option_or (too_many 1 (reading_of text).parts) (reading_of text).fault

-- The expanded forms of a pattern's text.
unfoldable pub forms_of : Text → List (List Item)
forms_of text = forms (reading_of text).parts

-- An expanded form covers a text component by component, both cut at the byte `/`.
abbrev pub FormCovers : Text → List Item → Type 0
FormCovers text form = CoversPath (slice_split is_slash form) (components text)

-- A text fits a pattern where one of the pattern's expanded forms covers it.
abbrev pub Fits : Text → Text → Type 0
Fits pattern text = Any (FormCovers text) (forms_of pattern)

-- A text has no fault, and so many expanded forms.
pub record IsRead (text : Text) (count : ℕ) : Type 0 where
  pub sound : fault_of text ≡ None
  pub forms : count ≡ length (forms_of text)
