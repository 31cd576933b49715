-- What the text of a schedule stands for: six fields separated by one space. (Our own, after the
-- fields of cron.)
use Rattle.std.specs.Prelude.{◌≡◌, ⊤, ℕ, suc, ◌==◌, Bool, true, false, not, ◌||◌, if◌then◌else◌, List, [], ◌∷◌, Option, Some, None, is_some}
use Rattle.std.specs.List.{list_any, list_all}
use Rattle.std.specs.Option.{option_map_or}
use Rattle.hr_base.specs.Bytes.{Text}
use Rattle.hr_text.specs.Cutting.{split_at_byte}
use Rattle.hr_periodic.specs.declared.field.Field.{Field}
use Rattle.hr_periodic.specs.declared.reading.Limits.{Limits}
use Rattle.hr_periodic.specs.declared.cron.Cron.{Cron}
use Rattle.hr_periodic.specs.declared.cron.CronRefused.{CronRefused}
use Rattle.hr_periodic.specs.declared.cron.CronRefused.TheVariants.{Field as BadField, Memory}
use Rattle.hr_periodic.specs.Field.{has}
use Rattle.hr_periodic.specs.Item.{item_of, in_stretch, whole}

-- The byte between the fields of a schedule.
abbrev pub space : ℕ
space = 32

-- The byte between the items of a field.
abbrev pub comma : ℕ
comma = 44

-- Whether each of some texts is an item.
abbrev pub are_items : Limits → List Text → Bool
are_items limits items = list_all (λ item. is_some (item_of limits item)) items

-- Whether one of some items has a number.
abbrev pub have : Limits → List Text → ℕ → Bool
have limits items number =
    list_any (λ item. option_map_or (λ s. in_stretch s number) (item_of limits item) false) items

-- Whether a text is `*` or `?`.
abbrev pub is_any : Text → Bool
is_any (x ∷ []) = (x == 42) || (x == 63)
is_any _ = false

-- Whether a text is a field: `*`, `?`, or items joined by commas.
abbrev pub is_field : Limits → Text → Bool
is_field limits text = is_any text || are_items limits (split_at_byte comma text)

-- Whether the text of a field stands for a number.
abbrev pub numbers_of : Limits → Text → ℕ → Bool
numbers_of limits text number =
    if is_any text then in_stretch (whole limits) number else have limits (split_at_byte comma text) number

-- A text is that of a field, which has the numbers that the text stands for, and no others.
pub record IsField (limits : Limits) (text : Text) (field : Field) : Type 0 where
  pub good : is_field limits text ≡ true
  pub restricted : field.restricted ≡ not (is_any text)
  pub numbers : (number : ℕ) → has field number ≡ numbers_of limits text number

-- Each of some texts is that of a field.
abbrev pub AreFields : List Limits → List Text → List Field → Type 0
AreFields [] [] [] = ⊤
AreFields (limits ∷ more) (text ∷ texts) (field ∷ fields) =
    IsField limits text field × AreFields more texts fields
AreFields _ _ _ = ⊥

-- The number of the first text that is no field, is missing, or is one too many.
abbrev pub first_fault : List Limits → ℕ → List Text → Option ℕ
first_fault [] number [] = None
first_fault [] number (text ∷ texts) = Some number
first_fault (limits ∷ more) number [] = Some number
first_fault (limits ∷ more) number (text ∷ texts) =
    if is_field limits text then first_fault more (suc number) texts else Some number

-- The limits from one number to another.
abbrev pub limits_of : ℕ → ℕ → Limits
limits_of low high = record { low = low; high = high }

-- The limits of second, minute, hour, day of the month, month, and day of the week from Sunday.
abbrev pub six : List Limits
six =
    limits_of 0 59 ∷ limits_of 0 59 ∷ limits_of 0 23 ∷ limits_of 1 31 ∷ limits_of 1 12
    ∷ limits_of 0 6 ∷ []

-- The six fields of a schedule, in order.
abbrev pub fields_of : Cron → List Field
fields_of cron =
    cron.second ∷ cron.minute ∷ cron.hour ∷ cron.day ∷ cron.month ∷ cron.weekday ∷ []

-- A text is that of a schedule.
abbrev pub StandsFor : Text → Cron → Type 0
StandsFor text cron = AreFields six (split_at_byte space text) (fields_of cron)

-- The number of the first field of a text that is bad or missing, and 7 where there is a seventh.
abbrev pub fault_of : Text → Option ℕ
fault_of text = first_fault six 1 (split_at_byte space text)

-- A text is refused for its first fault, and never for want of memory.
abbrev pub HasFault : Text → CronRefused → Type 0
HasFault text (BadField number) = fault_of text ≡ Some number
HasFault text Memory = ⊥
