-- The lines of a text and the words of a line. (Our own.)
use Rattle.std.specs.Prelude.{◌==◌, ◌+◌, ℕ, Bool, false, not, List, [], ◌∷◌, length, Option, Some, None}
use Rattle.hr_base.specs.Bytes.{Text}
use Rattle.hr_text.specs.Cutting.{pieces_left, split_at_byte}

-- the words of a line: what stands between single spaces
abbrev pub words_of : Text → List Text
words_of line = split_at_byte 32 line

-- the words of what is left of a line, which is nothing behind its last word
abbrev pub words_left : Option Text → List Text
words_left left = pieces_left 32 left

-- how much is left of a line, which is more than nothing where its last word is left
abbrev pub length_left : Option Text → ℕ
length_left None = 0
length_left (Some text) = length text + 1

-- the pieces without a last empty one: a line feed at the end of a text ends its last line and
-- begins no other
abbrev pub without_last_empty : List Text → List Text
without_last_empty [] = []
without_last_empty ([] ∷ []) = []
without_last_empty ((b ∷ bs) ∷ []) = (b ∷ bs) ∷ []
without_last_empty (line ∷ next ∷ lines) = line ∷ without_last_empty (next ∷ lines)

-- the lines of a text: what stands between line feeds
abbrev pub lines_of : Text → List Text
lines_of text = without_last_empty (split_at_byte 10 text)

-- whether a line is read: it is not empty, and has another first byte than `#`
abbrev pub is_read : Text → Bool
is_read [] = false
is_read (b ∷ bs) = not (b == 35)
