-- The bytes of names and tags (OCI Distribution 1.1, "Pulling manifests").
use Rattle.std.specs.Prelude.{ℕ, Bool, ◌||◌, ◌==◌}
use Rattle.std.specs.Char.{is_ascii_lowercase, is_ascii_digit, is_ascii_alphabetic}

-- a byte of a run: a lower-case letter or a digit
abbrev pub stands_in_run : ℕ → Bool
stands_in_run byte = is_ascii_lowercase byte || is_ascii_digit byte

-- a byte that a tag begins with: a letter, a digit or `_`
abbrev pub begins_tag : ℕ → Bool
begins_tag byte = (is_ascii_alphabetic byte || is_ascii_digit byte) || byte == 95

-- a byte of a tag behind its first: a letter, a digit, `_`, `.` or `-`
abbrev pub goes_on_tag : ℕ → Bool
goes_on_tag byte = begins_tag byte || (byte == 46 || byte == 45)
