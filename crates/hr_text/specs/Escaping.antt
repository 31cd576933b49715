-- Which texts stand in a string of JSON as they are (RFC 8259, section 7, "Strings").
use Rattle.std.specs.Prelude.{◌≡◌, ◌==◌, ◌||◌, nat_lt, ℕ, Bool, false}
use Rattle.std.specs.List.{All}
use Rattle.hr_base.specs.Bytes.{Text}

-- a byte that JSON escapes in a string: 0 to 31, the double quote, or the backslash
abbrev pub is_escaped : ℕ → Bool
is_escaped byte = nat_lt byte 32 || (byte == 34 || byte == 92)

-- the text has no byte that JSON escapes in a string
abbrev pub IsUnescaped : Text → Type 0
IsUnescaped text = All (λ byte. is_escaped byte ≡ false) text
