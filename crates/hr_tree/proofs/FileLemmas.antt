-- Lemmas on files by their paths.
use Rattle.std.proofs.Common.{◌≡◌, Option, ap, ◌∙◌}
use Rattle.std.specs.Map.{lookup}
use Rattle.std.specs.BTreeMap.{is_at}
use Rattle.std.specs.Cmp.Lexicographic.{slice_cmp}
use Rattle.std.specs.Ordering.{nat_cmp}
use Rattle.hr_base.specs.Bytes.{ByteList, Text}
use Rattle.hr_tree.specs.Tree.{file_at, Files}

-- what a look-up by an equal path finds is the file at the path
pub found_at : (files : Files) (path key : Text) (found : Option ByteList) → found ≡ lookup (is_at (slice_cmp nat_cmp key)) files → key ≡ path
    → found ≡ file_at files path
unfolding file_at
found_at files path key found looked same = looked ∙ ap (λ (k : Text). lookup (is_at (slice_cmp nat_cmp k)) files) same
