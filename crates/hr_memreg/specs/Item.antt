-- What one call stores in a repository (OCI Distribution 1.1, "Pushing blobs", "Pushing
-- Manifests").
use Rattle.std.specs.Prelude.{Some}
use Rattle.std.specs.BTreeMap.{insert_entry}
use Rattle.std.specs.Cmp.Lexicographic.{slice_cmp}
use Rattle.std.specs.Ordering.{nat_cmp}
use Rattle.hr_digest.specs.Order.{digest_cmp}
use Rattle.hr_adapter.specs.Content.{Repo}
use Rattle.hr_memreg.specs.declared.repository.Item.{Item}
use Rattle.hr_memreg.specs.declared.repository.Item.TheVariants.{Blob, Manifest, Tag}

-- a repository with one blob or manifest stored, or one tag made to name a digest
abbrev pub with_item : Item → Repo → Repo
with_item (Blob d bytes) held = record held { blobs = insert_entry digest_cmp held.blobs d bytes }
with_item (Manifest d stored) held =
    record held { manifests = insert_entry digest_cmp held.manifests d stored }
with_item (Tag tag d) held =
    record held { tags = insert_entry (slice_cmp nat_cmp) held.tags tag (Some d) }
