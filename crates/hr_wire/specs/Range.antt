-- Ranges of bytes, as uploads write them (OCI Distribution 1.1, "Pushing a blob in chunks"): the
-- places of the first and of the last byte, from 0.
use Rattle.std.specs.Prelude.{⊤, ◌==◌, ◌&&◌, ◌+◌, ◌-◌, ◌<◌, ◌^◌, nat_le, ℕ, List, [], ◌∷◌, ◌++◌, length, decimal, Option, Some, None, option_map, if◌then◌else◌}
use Rattle.hr_base.specs.Bytes.{ByteList, Text}
use Rattle.hr_frame.specs.Length.{length_of}
use Rattle.hr_route.specs.Part.{both}
use Rattle.hr_text.specs.Cutting.{cut_at}

-- the text of a range
abbrev pub range_text : ℕ → ℕ → Text
range_text first last = decimal first ++ 45 ∷ decimal last

-- the places that a text before a `-` and the one behind it write
abbrev pub places_of : Text → Option Text → Option (ℕ × ℕ)
places_of first None = None
places_of first (Some last) = both (length_of first) (length_of last)

-- the places of the first and of the last byte that a text writes
abbrev pub range_of : Text → Option (ℕ × ℕ)
range_of text = places_of (cut_at 45 text).0 (cut_at 45 text).1

-- the place of the first byte, where so many bytes fill the range
abbrev pub first_of : ℕ → Option (ℕ × ℕ) → Option ℕ
first_of len None = None
first_of len (Some (first, last)) =
    if nat_le first last && ((last - first) + 1 == len) then Some first else None

-- how many bytes an upload session has before a chunk of this length, where the values of
-- `Content-Range` tell it; none where they are bad
abbrev pub from_asked : ℕ → List Text → Option (Option ℕ)
from_asked len [] = Some None
from_asked len (value ∷ []) = option_map Some (first_of len (range_of value))
from_asked len (value ∷ other ∷ values) = None

-- a chunk whose place is told has bytes, and the place behind it is below 2^63
abbrev pub FitsRange : Option ℕ → ByteList → Type 0
FitsRange None bytes = ⊤
FitsRange (Some from) bytes = (0 < length bytes) × (from + length bytes < 2 ^ 63)
