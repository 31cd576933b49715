-- A run of a walk: what it needed and what it was given, one after the other. (Our own.)
use Rattle.std.specs.Prelude.{◌≡◌, ◌⊎◌, ℕ, List, [], ◌∷◌, ◌++◌, Contains, Some, Ok, ⊤}
use Rattle.std.specs.List.{AllByRecursion, IsDistinct}
use Rattle.hr_digest.specs.declared.digest.Digest.{Digest}
use Rattle.hr_digest.specs.Digest.{digest_of}
use Rattle.hr_digest.specs.Order.{digest_eq}
use Rattle.hr_manifest.specs.Manifest.{Parts}
use Rattle.hr_manifest.specs.declared.child.ChildKind.{ChildKind}
use Rattle.hr_manifest.specs.declared.child.ChildKind.TheVariants as kind
use Rattle.hr_graph.specs.declared.need.Given.{Given}
use Rattle.hr_graph.specs.declared.need.Given.TheVariants as given
use Rattle.hr_graph.specs.declared.need.Need.{Need}
use Rattle.hr_graph.specs.declared.need.Need.TheVariants as need
use Rattle.hr_graph.specs.Step.{begun, outcome}
use Rattle.hr_graph.specs.Walk.{Answers, View}

-- An exchange is a need of a walk with the answer that it got.
pub record Exchange : Type 0 where
  pub asked : Need
  pub answer : Given

-- The exchange of this need and this answer.
abbrev pub exchanged : Need → Given → Exchange
exchanged asked answer = record { asked = asked; answer = answer }

-- The digest of the blob that an exchange finishes, if it finishes one.
abbrev pub blob_done : Need → Given → List Digest
blob_done (need.HasBlob digest) (given.Found (Some len)) = digest ∷ []
blob_done (need.CopyBlob digest) (given.Copied len) = digest ∷ []
blob_done _ _ = []

-- The digest of the manifest that an exchange puts, if it puts one.
abbrev pub manifest_done : Need → Given → List Digest
manifest_done (need.PutManifest digest) given.Put = digest ∷ []
manifest_done _ _ = []

-- The blobs that were finished in a run, in their order; exchanges stand with the newest first.
abbrev pub blobs_done : List Exchange → List Digest
blobs_done [] = []
blobs_done (e ∷ before) = blobs_done before ++ blob_done e.asked e.answer

-- The manifests that were put in a run, in their order; exchanges stand with the newest first.
abbrev pub manifests_done : List Exchange → List Digest
manifests_done [] = []
manifests_done (e ∷ before) = manifests_done before ++ manifest_done e.asked e.answer

-- A child of this kind and digest was finished in a run, where it isn't foreign.
abbrev pub WasFinished : List Exchange → ChildKind → Digest → Type 0
WasFinished run kind.Manifest digest = Contains (manifests_done run) digest
WasFinished run kind.Blob digest = Contains (blobs_done run) digest
WasFinished run kind.Foreign digest = ⊤

-- This length of a blob was told in a run.
abbrev pub WasTold : List Exchange → Digest → ℕ → Type 0
WasTold run digest len =
    Contains run (exchanged (need.HasBlob digest) (given.Found (Some len)))
    ⊎ Contains run (exchanged (need.CopyBlob digest) (given.Copied len))

module _ (root : Digest) (manifest : Parts) where
  -- A walk from this root and its manifest stands at this view after a run of right answers that
  -- were taken; exchanges stand with the newest first.
  abbrev pub HasRun : List Exchange → View → Type 0
  HasRun [] view = (digest_of manifest.bytes ≡ root) × (begun root manifest ≡ Ok view)
  HasRun (e ∷ before) view = (old : View) × HasRun before old × (old.need ≡ e.asked)
      × Answers old.need e.answer × (outcome old e.answer ≡ Ok view)

  -- This manifest was given for this digest in a run, or is the root's.
  abbrev pub WasGiven : List Exchange → Digest → Parts → Type 0
  WasGiven run digest given_one = ((digest ≡ root) × (given_one ≡ manifest))
      ⊎ Contains run (exchanged (need.Manifest digest) (given.Manifest given_one))

  -- One manifest was given for this digest before, and all that it lists was finished before.
  pub record ComesAfterAll (digest : Digest) (before : List Exchange) : Type 0 where
    pub manifest_is : Parts
    pub given_before : WasGiven before digest manifest_is
    pub alone : (other : Parts) → WasGiven before digest other → other ≡ manifest_is
    pub each : AllByRecursion (λ child. WasFinished before child.kind child.digest)
        manifest_is.children

  -- An exchange that puts a manifest comes after all that the manifest lists.
  abbrev pub IsInOrder : Need → Given → List Exchange → Type 0
  IsInOrder (need.PutManifest digest) given.Put before = ComesAfterAll digest before
  IsInOrder _ _ before = ⊤

  -- Each manifest that was put in a run came after all that it lists.
  abbrev pub AreInOrder : List Exchange → Type 0
  AreInOrder [] = ⊤
  AreInOrder (e ∷ before) = IsInOrder e.asked e.answer before × AreInOrder before

  -- A run finishes each pair of kind and digest at most once, and each manifest after all that it
  -- lists.
  pub record IsOrderly (run : List Exchange) : Type 0 where
    pub once_blobs : IsDistinct digest_eq (blobs_done run)
    pub once_manifests : IsDistinct digest_eq (manifests_done run)
    pub in_order : AreInOrder run

  -- A run that is done put each manifest that it was given, and its root last.
  pub record IsWholeRun (run : List Exchange) : Type 0 where
    pub orderly : IsOrderly run
    pub each_put : (digest : Digest) (given_one : Parts) → WasGiven run digest given_one
        → Contains (manifests_done run) digest
    pub before : List Exchange
    pub last : run ≡ exchanged (need.PutManifest root) given.Put ∷ before
