-- The media type that a `Content-Type` says (RFC 9110, section 8.3).
use Rattle.std.specs.Prelude.{◌-◌, ◌&&◌, nat_le, nat_lt, Bool, List, [], ◌∷◌, length, take, drop, Option, Some, None, if◌then◌else◌}
use Rattle.std.specs.Char.{is_ascii_whitespace}
use Rattle.std.specs.List.{list_all, prefix_len, suffix_len}
use Rattle.hr_adapter.specs.Media.{is_header_byte}
use Rattle.hr_base.specs.Bytes.{Media, Text}
use Rattle.hr_text.specs.Cutting.{cut_at}
use Rattle.hr_wire.specs.declared.media.TheConstants.{MEDIA_LIMIT}

-- a text without the blanks at its front
abbrev pub front_trimmed : Text → Text
front_trimmed text = drop (prefix_len is_ascii_whitespace text) text

-- a text without the blanks at its end
abbrev pub end_trimmed : Text → Text
end_trimmed text = take (length text - suffix_len is_ascii_whitespace text) text

-- what a value says before its parameters, without the blanks at its ends
abbrev pub type_said : Text → Media
type_said value = end_trimmed (front_trimmed (cut_at 59 value).0)

-- whether a media type is one that a header can carry without parameters
abbrev pub is_plain : Media → Bool
is_plain media =
    nat_lt 0 (length media) && (nat_le (length media) MEDIA_LIMIT && list_all is_header_byte media)

-- the media type that a value says, where it is plain
abbrev pub plain_said : Text → Option Media
plain_said value = if is_plain (type_said value) then Some (type_said value) else None

-- the plain media type by the values of `Content-Type`, of which there is one
abbrev pub media_asked : List Text → Option Media
media_asked [] = None
media_asked (value ∷ []) = plain_said value
media_asked (value ∷ other ∷ values) = None
