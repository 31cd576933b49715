-- When nothing that a registry holds is lost: each blob keeps its length, and each manifest its
-- bytes and its children. (Our own.)
use Rattle.std.specs.Prelude.{◌≡◌, ℕ, List, length, Option, Some, option_map}
use Rattle.hr_digest.specs.declared.digest.Digest.{Digest}
use Rattle.hr_event.specs.declared.reference.Fetched.{Fetched}
use Rattle.hr_manifest.specs.Reading.{Reads}
use Rattle.hr_manifest.specs.declared.child.Child.{Child}
use Rattle.hr_name.specs.Name.{RepoName}
use Rattle.hr_adapter.specs.Content.{Content, blob_at, manifest_at}

-- what is there now has the bytes of a manifest, and is readable with its children where that was
pub record KeepsManifest (before : Fetched) (now : Option Fetched) : Type 0 where
  pub stored : Fetched
  pub there : now ≡ Some stored
  pub bytes : stored.bytes ≡ before.bytes
  pub reads : (kids : List Child) → Reads before.media before.bytes kids
      → Reads stored.media stored.bytes kids

-- the second content has all that the first has
pub record Grows (b c : Content) : Type 0 where
  pub blobs : (repo : RepoName) (d : Digest) (len : ℕ)
      → option_map length (blob_at b repo d) ≡ Some len
      → option_map length (blob_at c repo d) ≡ Some len
  pub manifests : (repo : RepoName) (d : Digest) (before : Fetched)
      → manifest_at b repo d ≡ Some before → KeepsManifest before (manifest_at c repo d)
