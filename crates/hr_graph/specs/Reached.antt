-- What is reached from a manifest through manifests that were read, and how it shows why a walk
-- goes no further. (Our own.)
use Rattle.std.specs.Prelude.{◌≡◌, ◌≢◌, ◌<◌, ◌+◌, ℕ, zero, suc, List, length, Contains, Some, ⊤}
use Rattle.std.specs.List.{AllByRecursion, IsDistinct}
use Rattle.hr_digest.specs.declared.digest.Digest.{Digest}
use Rattle.hr_digest.specs.Order.{digest_eq}
use Rattle.hr_manifest.specs.Manifest.{Parts}
use Rattle.hr_manifest.specs.declared.child.Child.{Child}
use Rattle.hr_manifest.specs.declared.child.ChildKind.{ChildKind}
use Rattle.hr_manifest.specs.declared.child.ChildKind.TheVariants as kind
use Rattle.hr_graph.specs.declared.need.Given.{Given}
use Rattle.hr_graph.specs.declared.need.Given.TheVariants as given
use Rattle.hr_graph.specs.declared.need.Need.{Need}
use Rattle.hr_graph.specs.declared.need.Need.TheVariants as need
use Rattle.hr_graph.specs.declared.need.WalkRefused.{WalkRefused}
use Rattle.hr_graph.specs.declared.need.WalkRefused.TheVariants as refused
use Rattle.hr_graph.specs.declared.opened.Finished.{Finished}
use Rattle.hr_graph.specs.declared.opened.Opened.{Opened}
use Rattle.hr_graph.specs.declared.opened.TheConstants.{DEPTH_LIMIT, PAIR_LIMIT}
use Rattle.hr_graph.specs.Walk.{View}

-- `R digest manifest` says that this manifest was read for this digest.
module _ (R : Digest → Parts → Type 0) where
  -- A manifest that was read for this digest lists this child.
  pub record ListsChild (digest : Digest) (child : Child) : Type 0 where
    pub manifest : Parts
    pub read : R digest manifest
    pub within : Contains manifest.children child

  -- A child of this kind and digest stands so many levels below the root, through manifests that
  -- were read; the root itself stands at level 0.
  abbrev pub Reached : ℕ → Digest → ChildKind → Digest → Type 0
  Reached zero root what digest = (what ≡ kind.Manifest) × (digest ≡ root)
  Reached (suc level) root what digest = (parent : Digest)
      × Reached level root kind.Manifest parent
      × ((child : Child) × ListsChild parent child × (child.kind ≡ what) × (child.digest ≡ digest))

  -- A child of this kind and digest is reached at some level.
  abbrev pub IsReachable : Digest → ChildKind → Digest → Type 0
  IsReachable root what digest = (level : ℕ) × Reached level root what digest

  -- A manifest is reached at some level, and another one so many levels below it that both
  -- together pass the limit of depth. (What leads back to itself is as far below itself as one
  -- likes.)
  pub record IsTooDeep (root digest : Digest) : Type 0 where
    pub level : ℕ
    pub height : ℕ
    pub lowest : Digest
    pub there : Reached level root kind.Manifest digest
    pub below : Reached height digest kind.Manifest lowest
    pub deep : DEPTH_LIMIT < level + height

  -- More distinct pairs of kind and digest are reached than a walk may meet: these blobs and these
  -- manifests, no digest twice in one list.
  pub record AreTooMany (root : Digest) : Type 0 where
    pub blobs : List Digest
    pub manifests : List Digest
    pub once_blobs : IsDistinct digest_eq blobs
    pub once_manifests : IsDistinct digest_eq manifests
    pub each_blob : AllByRecursion (IsReachable root kind.Blob) blobs
    pub each_manifest : AllByRecursion (IsReachable root kind.Manifest) manifests
    pub many : PAIR_LIMIT < length blobs + length manifests

-- `R` is as above; `B digest len` says that the blob of this digest was said to have this length.
module _ (R : Digest → Parts → Type 0) (B : Digest → ℕ → Type 0) where
  -- The content of a child of this kind and digest is known to have this length.
  abbrev pub HasLen : ChildKind → Digest → ℕ → Type 0
  HasLen kind.Manifest digest len =
      (manifest : Parts) × R digest manifest × (length manifest.bytes ≡ len)
  HasLen kind.Blob digest len = B digest len
  HasLen kind.Foreign digest len = ⊥

  -- A manifest that is reached lists a child of this digest and says one size, and its content is
  -- known to have another length.
  pub record IsUnsized (root digest : Digest) (said got : ℕ) : Type 0 where
    pub parent : Digest
    pub there : IsReachable R root kind.Manifest parent
    pub child : Child
    pub listed : ListsChild R parent child
    pub digest_is : child.digest ≡ digest
    pub size_is : child.size ≡ said
    pub known_len : HasLen child.kind digest got
    pub other : said ≢ got

  -- What shows that a walk from this root is rightly refused; want of memory needs nothing.
  abbrev pub IsRefusal : Digest → WalkRefused → Type 0
  IsRefusal root (refused.TooDeep digest) = IsTooDeep R root digest
  IsRefusal root (refused.TooMany count) = (count ≡ PAIR_LIMIT + 1) × AreTooMany R root
  IsRefusal root (refused.SizeDiffers digest said got) = IsUnsized root digest said got
  IsRefusal root refused.Memory = ⊤

  -- An open manifest was read for its digest, and is reached at its level.
  pub record IsOpenedFrom (root : Digest) (o : Opened) : Type 0 where
    pub read : R o.digest o.manifest
    pub there : Reached R o.level root kind.Manifest o.digest

  -- A finished blob is reached, and was said to have its length.
  pub record IsBlobFrom (root : Digest) (entry : Digest × ℕ) : Type 0 where
    pub there : IsReachable R root kind.Blob entry.0
    pub len : B entry.0 entry.1

  -- A finished manifest is reached, was read with its length, and has something as far below it as
  -- its height says.
  pub record IsPutFrom (root : Digest) (entry : Digest × Finished) : Type 0 where
    pub there : IsReachable R root kind.Manifest entry.0
    pub len : HasLen kind.Manifest entry.0 entry.1.len
    pub lowest : Digest
    pub below : Reached R entry.1.height entry.0 kind.Manifest lowest

  -- Everything that a walk has open or finished was read.
  pub record AreFromReadings (view : View) : Type 0 where
    pub opened : AllByRecursion (IsOpenedFrom view.root) view.opened
    pub blobs : AllByRecursion (IsBlobFrom view.root) view.blobs
    pub manifests : AllByRecursion (IsPutFrom view.root) view.manifests

  -- The answer to a need is what was read: the manifest for its digest, and the blob's length.
  abbrev pub IsFromReading : Need → Given → Type 0
  IsFromReading (need.Manifest digest) (given.Manifest manifest) = R digest manifest
  IsFromReading (need.HasBlob digest) (given.Found (Some len)) = B digest len
  IsFromReading (need.CopyBlob digest) (given.Copied len) = B digest len
  IsFromReading _ _ = ⊤
