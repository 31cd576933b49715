-- The numbers of paths and queries: decimal digits, without a sign, and without a zero in front of
-- others. (Our own.)
use Rattle.std.specs.Prelude.{ℕ, min, Bool, ◌&&◌, nat_le, if◌then◌else◌, Option, Some, None, option_map, option_and_then}
use Rattle.std.specs.Char.{is_ascii_digit}
use Rattle.std.specs.List.{list_all}
use Rattle.std.specs.Str.Parse.{digits_value}
use Rattle.hr_base.specs.Bytes.{Text}
use Rattle.hr_setting.specs.Member.{passing}
use Rattle.hr_text.specs.Number.{begins_number}
use Rattle.hr_rest.specs.declared.number.TheConstants.{LAST_NUMBER, PAGE_LIMIT}

-- whether a text writes a number
abbrev pub is_number : Text → Bool
is_number text = begins_number text && list_all is_ascii_digit text

-- the number that a text writes, however great
abbrev pub number_in : Text → Option ℕ
number_in text = if is_number text then Some (digits_value 10 text) else None

-- the number of a job, an execution or a policy
abbrev pub id_in : Text → Option ℕ
id_in text = option_and_then (passing (λ n. nat_le 1 n && nat_le n LAST_NUMBER)) (number_in text)

-- the number of a page, from 1; one past the last number that an execution can have counts as that
abbrev pub page_in : Text → Option ℕ
page_in text =
    option_map (λ n. min n LAST_NUMBER)
    (option_and_then (passing (λ n. nat_le 1 n)) (number_in text))

-- how many items a page has
abbrev pub size_in : Text → Option ℕ
size_in text = option_and_then (passing (λ n. nat_le 1 n && nat_le n PAGE_LIMIT)) (number_in text)
