-- Lower-case hexadecimal. (Our own; RFC 4648, section 8, "Base 16 Encoding", has the upper case.)
use Rattle.std.specs.Prelude.{◌≡◌, ◌%◌, ◌&&◌, ◌||◌, nat_le, ℕ, Bool, length}
use Rattle.std.specs.Char.{is_ascii_digit}
use Rattle.std.specs.List.{AllPass}
use Rattle.hex.specs.Hex.{IsBytes, encode_lower}
use Rattle.hr_base.specs.Bytes.{ByteList, Text}

-- a digit of lower-case hexadecimal: `0` to `9`, or `a` to `f`
abbrev pub is_lower_hex : ℕ → Bool
is_lower_hex byte = is_ascii_digit byte || (nat_le 97 byte && nat_le byte 102)

-- a text of pairs of digits of lower-case hexadecimal, of which there may be none
pub record IsHexadecimal (text : Text) : Type 0 where
  pub even : length text % 2 ≡ 0
  pub digits : AllPass is_lower_hex text

-- the text spells these bytes in lower-case hexadecimal, two digits each
pub record Spells (text : Text) (bytes : ByteList) : Type 0 where
  pub whole : IsBytes bytes
  pub spelled : encode_lower bytes ≡ text
