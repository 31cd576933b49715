-- A walk as contracts see it, by its fields. (Our own.)
use Rattle.std.specs.Prelude.{ℕ, List, reverse}
use Rattle.hr_digest.specs.declared.digest.Digest.{Digest}
use Rattle.hr_graph.specs.declared.need.Need.{Need}
use Rattle.hr_graph.specs.declared.opened.Opened.{Opened}
use Rattle.hr_graph.specs.declared.opened.Finished.{Finished}
use Rattle.hr_graph.specs.Walk.{View}

-- A walk by its fields; the newest open manifest is the last of the vector.
abbrev pub view_of : Digest → List Opened → List (Digest × ℕ) → List (Digest × Finished) → Need
    → View
view_of root opened blobs manifests need = record {
  root = root;
  opened = reverse opened;
  blobs = blobs;
  manifests = manifests;
  need = need;
}
