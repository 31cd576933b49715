-- Media types that a header can carry without parameters (RFC 9110, section 8.3.1).
use Rattle.std.specs.Prelude.{◌≢◌, ◌≤◌, ◌&&◌, ◌==◌, ℕ, Bool, not, nat_le, [], length}
use Rattle.std.specs.List.{AllPass}
use Rattle.hr_base.specs.Bytes.{Media}

-- a visible byte of ASCII that is not `;`
abbrev pub is_header_byte : ℕ → Bool
is_header_byte byte = nat_le 33 byte && nat_le byte 126 && not (byte == 59)

-- a media type of 1 to 255 bytes, each of which fits a header (how many there may be is our own)
pub record FitsHeader (media : Media) : Type 0 where
  pub some : media ≢ []
  pub each : AllPass is_header_byte media
  pub short : length media ≤ 255
