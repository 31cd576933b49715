-- When the whole graph of a manifest stands in a repository (OCI Image 1.1, "Image Manifest" and
-- "Image Index"; how deep it goes is our own).
use Rattle.std.specs.Prelude.{◌≡◌, ◌<◌, ⊤, ℕ, zero, suc, List, length, Some, option_map}
use Rattle.std.specs.List.{AllByRecursion}
use Rattle.hr_adapter.specs.Content.{Content, blob_at, manifest_at}
use Rattle.hr_digest.specs.declared.digest.Digest.{Digest}
use Rattle.hr_event.specs.declared.reference.Fetched.{Fetched}
use Rattle.hr_manifest.specs.Reading.{Reads}
use Rattle.hr_manifest.specs.declared.child.Child.{Child}
use Rattle.hr_manifest.specs.declared.child.ChildKind.{ChildKind}
use Rattle.hr_manifest.specs.declared.child.ChildKind.TheVariants.{Manifest, Blob, Foreign}
use Rattle.hr_name.specs.Name.{RepoName}

-- a child stands in the repository with the size that its descriptor says, and P holds of its
-- digest where it is a manifest; a foreign layer need not be there
abbrev pub Stands : (Digest → Type 0) → Content → RepoName → ChildKind → Digest → ℕ → Type 0
Stands P c repo Manifest d size =
    (option_map (λ m. length m.bytes) (manifest_at c repo d) ≡ Some size) × P d
Stands P c repo Blob d size = option_map length (blob_at c repo d) ≡ Some size
Stands P c repo Foreign d size = ⊤

-- the repository has a readable manifest under a digest, and each of its children stands there
pub record Graph (P : Digest → Type 0) (c : Content) (repo : RepoName) (d : Digest) : Type 0 where
  pub stored : Fetched
  pub kids : List Child
  pub there : manifest_at c repo d ≡ Some stored
  pub reads : Reads stored.media stored.bytes kids
  pub each : AllByRecursion (λ kid. Stands P c repo kid.kind kid.digest kid.size) kids

-- the graph of a manifest stands there whole, and its manifests nest at most so many levels
abbrev pub Closed : ℕ → Content → RepoName → Digest → Type 0
Closed zero c repo d = Graph (λ _. ⊥) c repo d
Closed (suc n) c repo d = Graph (Closed n c repo) c repo d

-- the graph of a manifest stands there whole, and no deeper than a graph may be
abbrev pub StandsWhole : Content → RepoName → Digest → Type 0
StandsWhole c repo d = Closed 8 c repo d

-- a child stands in the repository; where it is a manifest its graph does, and nests fewer levels
-- than so many
abbrev pub StandsUnder : ℕ → Content → RepoName → ChildKind → Digest → ℕ → Type 0
StandsUnder n c repo Manifest d size =
    (h : ℕ) × (h < n) × Stands (Closed h c repo) c repo Manifest d size
StandsUnder n c repo Blob d size = option_map length (blob_at c repo d) ≡ Some size
StandsUnder n c repo Foreign d size = ⊤
