-- What contracts know of files, and what a reading of one answers. (Our own.)
use Rattle.std.specs.Prelude.{◌≡◌, ◌<◌, ◌≤◌, ⊤, ℕ, List, [], ◌∷◌, length, Option, Some, IfSome, option_map, Result, Ok, Err}
use Rattle.std.specs.Map.{lookup}
use Rattle.std.specs.BTreeMap.{insert_entry, is_at}
use Rattle.std.specs.Cmp.Lexicographic.{slice_cmp}
use Rattle.std.specs.Ordering.{nat_cmp}
use Rattle.hr_base.specs.Bytes.{ByteList, Text}
use Rattle.hr_tree.specs.declared.fault.TreeFault.{TreeFault}
use Rattle.hr_tree.specs.declared.fault.TreeFault.TheVariants.{Failed, TooLong, Memory}

-- files, each a path and its bytes, in byte order of their paths
abbrev pub Files : Type 0
Files = List (Text × ByteList)

-- the file at a path
unfoldable pub file_at : Files → Text → Option ByteList
file_at files path = lookup (is_at (slice_cmp nat_cmp path)) files

-- the files with one more, which replaces that at its path
abbrev pub with_file : Files → Text → ByteList → Files
with_file files path bytes = insert_entry (slice_cmp nat_cmp) files path bytes

-- the files after more of them were put one after another
abbrev pub files_of : Files → List (Text × ByteList) → Files
files_of files [] = files
files_of files (file ∷ more) = files_of (with_file files file.0 file.1) more

-- the fault is the tree's own
abbrev pub IsFailed : TreeFault → Type 0
IsFailed Failed = ⊤
IsFailed (TooLong len) = ⊥
IsFailed Memory = ⊥

-- the fault names no length
abbrev pub NamesNoLength : TreeFault → Type 0
NamesNoLength Failed = ⊤
NamesNoLength (TooLong len) = ⊥
NamesNoLength Memory = ⊤

-- a file has a length above a limit
abbrev pub IsTooLong : Option ByteList → ℕ → ℕ → Type 0
IsTooLong file limit len = (option_map length file ≡ Some len) × (limit < len)

-- a reading answers by the files: with the file at the path, or none where none stands there; or
-- that it is longer than the limit, with its length
abbrev pub ReadsFile : Files → Text → ℕ → Result (Option ByteList) TreeFault → Type 0
ReadsFile files path limit (Ok found) = found ≡ file_at files path
ReadsFile files path limit (Err (TooLong len)) = IsTooLong (file_at files path) limit len
ReadsFile files path limit (Err Failed) = ⊤
ReadsFile files path limit (Err Memory) = ⊤

-- a reading answers at most as many bytes as the limit says, and a length only above it
abbrev pub IsWithin : ℕ → Result (Option ByteList) TreeFault → Type 0
IsWithin limit (Ok found) = IfSome found (λ bytes. length bytes ≤ limit)
IsWithin limit (Err (TooLong len)) = limit < len
IsWithin limit (Err Failed) = ⊤
IsWithin limit (Err Memory) = ⊤
