-- Members of JSON objects, each with the values that it may have (RFC 8259, section 4).
use Rattle.std.specs.Prelude.{◌&&◌, ℕ, nat_le, Bool, List, length, Option, Some, None, is_some, option_and_then, if◌then◌else◌}
use Rattle.std.specs.Option.{option_map_or}
use Rattle.std.specs.Str.{is_utf8}
use Rattle.serde_json.specs.Data.{Data}
use Rattle.serde_json.specs.Find.{as_number, as_object, as_str, as_u64, get}
use Rattle.hr_base.specs.Bytes.{Text}
use Rattle.hr_json.specs.Node.{items_in}

-- a member that must be there, as its reader reads it
abbrev pub must : {A : Type 0} → (Data → Option A) → Text → Data → Option A
must reader name value = option_and_then reader (get name value)

-- a member that has a default where it isn't there
abbrev pub may : {A : Type 0} → A → (Data → Option A) → Text → Data → Option A
may default reader name value = option_map_or reader (get name value) (Some default)

-- what passes a test, and nothing else
abbrev pub passing : {A : Type 0} → (A → Bool) → A → Option A
passing test x = if test x then Some x else None

-- a value that is an object
abbrev pub object_in : Data → Option Data
object_in value = passing (λ v. is_some (as_object v)) value

-- a whole number within these limits
abbrev pub whole_in : ℕ → ℕ → Data → Option ℕ
whole_in low high value = option_and_then (passing (λ n. nat_le low n && nat_le n high)) (option_and_then as_u64 (as_number value))

-- a text, which in a document that was read is always in UTF-8
abbrev pub text_in : Data → Option Text
text_in value = option_and_then (passing is_utf8) (as_str value)

-- a text of at most so many bytes
abbrev pub short_text_in : ℕ → Data → Option Text
short_text_in high value = option_and_then (passing (λ text. nat_le (length text) high)) (text_in value)

-- a list of at most so many items
abbrev pub list_in : ℕ → Data → Option (List Data)
list_in high value = option_and_then (passing (λ items. nat_le (length items) high)) (items_in value)
