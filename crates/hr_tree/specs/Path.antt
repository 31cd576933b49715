-- The paths of files. (Our own.)
use Rattle.std.specs.Prelude.{Bool, not, nat_eq, ◌==◌, ◌&&◌, codes, length, IsTrue}
use Rattle.std.specs.List.{list_all, slice_split}
use Rattle.std.specs.Cmp.Lexicographic.{pointwise}
use Rattle.hr_base.specs.Bytes.{Text}

-- whether a folder can have something of this name: it is not empty, `.` or `..`
unfoldable pub is_item : Text → Bool
is_item name =
    (not (length name == 0) && not (pointwise nat_eq name (codes ".")))
    && not (pointwise nat_eq name (codes ".."))

-- whether a text is a path: names with `/` between them, each of which a folder can have
abbrev pub is_path : Text → Bool
is_path text = list_all is_item (slice_split (λ byte. byte == 47) text)

-- a path
abbrev pub IsPath : Text → Type 0
IsPath text = IsTrue (is_path text)
