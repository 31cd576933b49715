-- When a tag can be copied: the graph of its manifest stands at the source whole, and within the
-- limits of a walk. (Our own, over OCI Image 1.1, "Image Manifest" and "Image Index".)
use Rattle.std.specs.Prelude.{◌≡◌, ⊤, List, Contains, Some}
use Rattle.std.specs.List.{AllByRecursion}
use Rattle.hr_digest.specs.declared.digest.Digest.{Digest}
use Rattle.hr_name.specs.Name.{RepoName}
use Rattle.hr_name.specs.Tag.{TagName}
use Rattle.hr_manifest.specs.Manifest.{Parts}
use Rattle.hr_manifest.specs.declared.child.ChildKind.{ChildKind}
use Rattle.hr_manifest.specs.declared.child.ChildKind.TheVariants as kind
use Rattle.hr_graph.specs.Reached.{AreTooMany}
use Rattle.hr_adapter.specs.Content.{Content, manifest_at, tag_at}
use Rattle.hr_journal.specs.Graph.{StandsWhole}
use Rattle.hr_line.specs.Destination.{IsReadable, stored_of}

-- the repository has this manifest under the digest, and it is readable
pub record IsHere (c : Content) (repo : RepoName) (d : Digest) (parts : Parts) : Type 0 where
  pub there : manifest_at c repo d ≡ Some (stored_of parts)
  pub reads : IsReadable parts

-- no more pairs of kind and digest are reached from a manifest, through what the repository has,
-- than a walk may meet
abbrev pub HasFewPairs : Content → RepoName → Digest → Type 0
HasFewPairs c repo root = AreTooMany (IsHere c repo) root → ⊥

-- a tag names a manifest whose graph stands there whole, with the sizes that its descriptors say, no
-- deeper than a graph may be, and with no more pairs than a walk may meet
pub record TagIsWhole (c : Content) (repo : RepoName) (tag : TagName) : Type 0 where
  pub digest : Digest
  pub named : tag_at c repo tag ≡ Some digest
  pub whole : StandsWhole c repo digest
  pub few : HasFewPairs c repo digest

-- what a manifest lists is among these blobs and manifests, which are given by their digests; foreign
-- layers don't count
abbrev pub IsAmong : List Digest → List Digest → ChildKind → Digest → Type 0
IsAmong blobs manifests kind.Manifest d = Contains manifests d
IsAmong blobs manifests kind.Blob d = Contains blobs d
IsAmong blobs manifests kind.Foreign d = ⊤

-- these blobs and manifests are all of a graph, and maybe more: its root, and all that each of the
-- manifests lists
pub record AreAllOf (c : Content) (repo : RepoName) (root : Digest) (blobs manifests : List Digest)
    : Type 0 where
  pub first : Contains manifests root
  pub each : (d : Digest) (parts : Parts) → Contains manifests d → IsHere c repo d parts
      → AllByRecursion (λ kid. IsAmong blobs manifests kid.kind kid.digest) parts.children
