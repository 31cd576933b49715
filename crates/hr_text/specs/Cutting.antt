-- A text that is cut at a byte. (Our own.)
use Rattle.std.specs.Prelude.{◌==◌, ℕ, if◌then◌else◌, List, [], ◌∷◌, Option, Some, None}
use Rattle.std.specs.List.{slice_split}
use Rattle.hr_base.specs.Bytes.{Text}

-- the text before the first such byte, and the text behind that byte where there is one
abbrev pub cut_at : ℕ → Text → Text × Option Text
cut_at byte [] = ([], None)
cut_at byte (x ∷ xs) =
    if x == byte then ([], Some xs) else (x ∷ (cut_at byte xs).0, (cut_at byte xs).1)

-- the pieces of a text between any two such bytes, of which there is at least one
abbrev pub split_at_byte : ℕ → Text → List Text
split_at_byte byte text = slice_split (λ b. b == byte) text

-- the pieces of what a cut leaves of a text, and none where it leaves no text
abbrev pub pieces_left : ℕ → Option Text → List Text
pieces_left byte None = []
pieces_left byte (Some text) = split_at_byte byte text
