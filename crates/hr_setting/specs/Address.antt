-- Base addresses of registries (RFC 9110, section 4.2.1; the URL Standard, section 4.4).
use Rattle.std.specs.Prelude.{◌==◌, ◌&&◌, not, nat_lt, ℕ, Bool, true, codes, take, drop, length, bytes_eq, Option, Some, None, is_ok}
use Rattle.std.specs.List.{list_all}
use Rattle.std.specs.Str.{is_utf8}
use Rattle.url.specs.Parser.{parse_url}
use Rattle.hr_base.specs.Bytes.{Text}
use Rattle.hr_text.specs.Cutting.{cut_at}

-- a byte that a host or a port may have: no blank, no control byte, and none of `#`, `?`, `@`, `\`
abbrev pub stands_in_authority : ℕ → Bool
stands_in_authority byte = nat_lt 32 byte && not (byte == 35) && not (byte == 63) && not (byte == 64) && not (byte == 92)

-- the path of an address, from behind its first `/`, is empty or `/`
abbrev pub is_root : Option Text → Bool
is_root None = true
is_root (Some path) = length path == 0

-- what follows the scheme of an address: bytes of a host and a port, and an empty path or `/`
abbrev pub is_bare : Text → Bool
is_bare rest = list_all stands_in_authority (cut_at 47 rest).0 && is_root (cut_at 47 rest).1

-- `http://` and what may follow it
abbrev pub are_base_bytes : Text → Bool
are_base_bytes text = bytes_eq (take 7 text) (codes "http://") && is_bare (drop 7 text)

-- a URL, so that its host and its port are sound
abbrev pub is_url : Text → Bool
is_url text = is_ok (parse_url None text)

-- a base address: a text of these bytes alone that is a URL
abbrev pub is_base : Text → Bool
is_base text = are_base_bytes text && (is_utf8 text && is_url text)
