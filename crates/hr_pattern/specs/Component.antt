-- The components of a text and of an expanded form, which `/` separates. (Our own.)
use Rattle.std.specs.Prelude.{Bool, List, [], Option, Some, None}
use Rattle.std.specs.List.{slice_split}
use Rattle.hr_base.specs.Bytes.{Text}
use Rattle.hr_text.specs.Cutting.{split_at_byte}

-- The components of a text between its bytes `/`, of which there is at least one.
abbrev pub components : Text → List Text
components text = split_at_byte 47 text

-- The components of a list between the things that separate them, and none where there is no list
-- left.
abbrev pub components_left : {T : Type 0} → (T → Bool) → Option (List T) → List (List T)
components_left is_slash None = []
components_left is_slash (Some whole) = slice_split is_slash whole
