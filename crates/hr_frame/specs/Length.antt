-- The length that a `Content-Length` says (RFC 9110, section 8.6).
use Rattle.std.specs.Prelude.{ℕ, ◌^◌, Bool, ◌&&◌, nat_le, nat_lt, length, Option, Some, None, if◌then◌else◌}
use Rattle.std.specs.Str.{all_ascii_digits}
use Rattle.std.specs.Str.Parse.{digits_value}
use Rattle.hr_base.specs.Bytes.{Text}

-- whether a value is 1 to 19 decimal digits of a number below 2^63
abbrev pub is_length : Text → Bool
is_length value =
    nat_lt 0 (length value) && (nat_le (length value) 19
    && (all_ascii_digits value && nat_lt (digits_value 10 value) (2 ^ 63)))

-- the number that such a value writes
abbrev pub length_of : Text → Option ℕ
length_of value = if is_length value then Some (digits_value 10 value) else None
