-- What holds of a walk at every moment. (Our own.)
use Rattle.std.specs.Prelude.{◌≡◌, ℕ, ◌+◌, ◌≤◌, ◌<◌, false, List, [], ◌∷◌, length, map, slice_get, take, Contains, Some, None, ◌↔◌, ⊤}
use Rattle.std.specs.List.{AllByRecursion, IsDistinct}
use Rattle.std.specs.Map.{keys_of}
use Rattle.hr_digest.specs.declared.digest.Digest.{Digest}
use Rattle.hr_digest.specs.Digest.{digest_of}
use Rattle.hr_digest.specs.Order.{digest_eq}
use Rattle.hr_manifest.specs.declared.child.Child.{Child}
use Rattle.hr_manifest.specs.declared.child.ChildKind.{ChildKind}
use Rattle.hr_manifest.specs.declared.child.ChildKind.TheVariants as kind
use Rattle.hr_graph.specs.declared.need.Need.{Need}
use Rattle.hr_graph.specs.declared.need.Need.TheVariants as need
use Rattle.hr_graph.specs.declared.opened.Opened.{Opened}
use Rattle.hr_graph.specs.declared.opened.Finished.{Finished}
use Rattle.hr_graph.specs.declared.opened.TheConstants.{DEPTH_LIMIT, PAIR_LIMIT}
use Rattle.hr_graph.specs.Walk.{View, known, is_open, met_count}
use Rattle.hr_graph.specs.Step.{height_of}

-- The next child of an open manifest is of this kind, and has this digest.
pub record Lists (o : Opened) (what : ChildKind) (digest : Digest) : Type 0 where
  pub child : Child
  pub listed : slice_get o.manifest.children o.next ≡ Some child
  pub kind : child.kind ≡ what
  pub digest_is : child.digest ≡ digest

-- An open manifest is the next child of another one, with the size that its descriptor says, and
-- stands one level below it.
pub record IsChildOf (o below : Opened) : Type 0 where
  pub child : Child
  pub listed : slice_get below.manifest.children below.next ≡ Some child
  pub kind : child.kind ≡ kind.Manifest
  pub digest : child.digest ≡ o.digest
  pub size : child.size ≡ length o.manifest.bytes
  pub level : o.level ≡ below.level + 1

-- An open manifest is the root, at level 0, where no other is open, and else the next child of the
-- newest of the others.
abbrev pub StandsOver : Digest → Opened → List Opened → Type 0
StandsOver root o [] = (o.digest ≡ root) × (o.level ≡ 0)
StandsOver root o (p ∷ below) = IsChildOf o p

-- An open manifest stands over others: its bytes have its digest, and it isn't too deep.
pub record IsOpen (root : Digest) (o : Opened) (below : List Opened) : Type 0 where
  pub over : StandsOver root o below
  pub digest : digest_of o.manifest.bytes ≡ o.digest
  pub depth : o.level ≤ DEPTH_LIMIT

-- Each open manifest stands over the older ones.
abbrev pub IsChain : Digest → List Opened → Type 0
IsChain root [] = ⊤
IsChain root (o ∷ below) = IsOpen root o below × IsChain root below

-- A child that is a manifest was put with the size that its descriptor says, and nothing below it
-- stands too deep where it is at this level.
pub record IsPut (manifests : List (Digest × Finished)) (level : ℕ) (child : Child) : Type 0 where
  pub height : ℕ
  pub there : known child.digest manifests ≡ Some (record { len = child.size; height = height })
  pub depth : level + height ≤ DEPTH_LIMIT

module _ (blobs : List (Digest × ℕ)) (manifests : List (Digest × Finished)) where
  -- A child of this kind was finished where it isn't foreign, with its size.
  abbrev pub IsPassedAs : ChildKind → ℕ → Child → Type 0
  IsPassedAs kind.Foreign level child = ⊤
  IsPassedAs kind.Blob level child = known child.digest blobs ≡ Some child.size
  IsPassedAs kind.Manifest level child = IsPut manifests level child

  -- A child at this level was finished where it isn't foreign, with its size.
  abbrev pub IsPassed : ℕ → Child → Type 0
  IsPassed level child = IsPassedAs child.kind level child

  -- The children of an open manifest before its next one were finished.
  pub record HasPassed (o : Opened) : Type 0 where
    pub within : o.next ≤ length o.manifest.children
    pub each : AllByRecursion (IsPassed (o.level + 1)) (take o.next o.manifest.children)

-- The newest open manifest has this digest, and none of its children is left.
abbrev pub IsReady : Digest → List Opened → Type 0
IsReady digest [] = ⊥
IsReady digest (o ∷ below) = (o.digest ≡ digest) × (o.next ≡ length o.manifest.children)

module _ (blobs : List (Digest × ℕ)) (manifests : List (Digest × Finished)) where
  -- One more pair may be met.
  abbrev pub HasRoom : List Opened → Type 0
  HasRoom opened = met_count opened blobs manifests < PAIR_LIMIT

  -- This blob is the next child of the newest open manifest, isn't finished, and is not a pair too
  -- many.
  abbrev pub AsksBlob : Digest → List Opened → Type 0
  AsksBlob digest [] = ⊥
  AsksBlob digest (o ∷ below) =
      Lists o kind.Blob digest × (known digest blobs ≡ None) × HasRoom (o ∷ below)

  -- This manifest is the next child of the newest open one, is neither finished nor open, and is
  -- neither too deep nor a pair too many.
  abbrev pub AsksManifest : Digest → List Opened → Type 0
  AsksManifest digest [] = ⊥
  AsksManifest digest (o ∷ below) =
      Lists o kind.Manifest digest × (known digest manifests ≡ None)
      × (is_open digest (o ∷ below) ≡ false) × (o.level + 1 ≤ DEPTH_LIMIT) × HasRoom (o ∷ below)

  -- A need is about the newest open manifest, and a walk that is done has nothing open.
  abbrev pub Asks : Need → List Opened → Type 0
  Asks (need.Manifest digest) opened = AsksManifest digest opened
  Asks (need.HasBlob digest) opened = AsksBlob digest opened
  Asks (need.CopyBlob digest) opened = AsksBlob digest opened
  Asks (need.PutManifest digest) opened = IsReady digest opened
  Asks need.Done opened = opened ≡ []

-- What holds of what is open and finished.
pub record IsSteady (view : View) : Type 0 where
  pub chain : IsChain view.root view.opened
  -- Every child that was passed over is finished.
  pub passed : AllByRecursion (HasPassed view.blobs view.manifests) view.opened
  -- Nothing is open twice, or finished and open, or finished twice.
  pub once_open : IsDistinct digest_eq (map (λ o. o.digest) view.opened)
  pub not_put : AllByRecursion (λ o. known o.digest view.manifests ≡ None) view.opened
  pub once_put : IsDistinct digest_eq (keys_of view.manifests)
  pub once_copied : IsDistinct digest_eq (keys_of view.blobs)
  -- No finished manifest is higher than the limit of depth.
  pub low : AllByRecursion (λ e. e.1.height ≤ DEPTH_LIMIT) view.manifests
  -- Not more pairs were met than may be.
  pub few : met_count view.opened view.blobs view.manifests ≤ PAIR_LIMIT
  -- Once nothing is open, the root was put.
  pub root_put : view.opened ≡ [] → (done : Finished) × (known view.root view.manifests ≡ Some done)

-- What holds of a walk at every moment, its need among it.
pub record IsSound (view : View) : Type 0 where
  pub steady : IsSteady view
  pub asks : Asks view.blobs view.manifests view.need view.opened

-- The next child of the newest open manifest is among its children or after the last of them, and
-- its level is within the limit of depth.
abbrev pub IsPlaced : List Opened → Type 0
IsPlaced [] = ⊤
IsPlaced (o ∷ below) = (o.next ≤ length o.manifest.children) × (o.level ≤ DEPTH_LIMIT)

module _ (blobs : List (Digest × ℕ)) (manifests : List (Digest × Finished)) (height : ℕ) where
  -- A child of this kind, of a manifest of this height, was finished with its size where it isn't
  -- foreign; one that is a manifest is lower.
  abbrev pub IsBelowAs : ChildKind → Child → Type 0
  IsBelowAs kind.Foreign child = ⊤
  IsBelowAs kind.Blob child = known child.digest blobs ≡ Some child.size
  IsBelowAs kind.Manifest child = (done : Finished)
      × (known child.digest manifests ≡ Some done) × (done.len ≡ child.size) × (done.height < height)

  -- A child of a manifest of this height was finished with its size where it isn't foreign; one
  -- that is a manifest is lower.
  abbrev pub IsBelow : Child → Type 0
  IsBelow child = IsBelowAs child.kind child

-- A height is one more than that of some child that is a manifest and was put.
pub record IsAttained (manifests : List (Digest × Finished)) (children : List Child) (height : ℕ)
    : Type 0 where
  pub child : Child
  pub within : Contains children child
  pub kind : child.kind ≡ kind.Manifest
  pub done : Finished
  pub there : known child.digest manifests ≡ Some done
  pub above : height ≡ done.height + 1

-- The newest open manifest has this digest and comes after all that it lists; it is the root
-- exactly where no other is open.
pub record ComesLast (view : View) (digest : Digest) : Type 0 where
  pub newest : Opened
  pub below : List Opened
  pub opened : view.opened ≡ newest ∷ below
  pub named : newest.digest ≡ digest
  pub each : AllByRecursion
      (IsBelow view.blobs view.manifests (height_of view.manifests newest.manifest.children))
      newest.manifest.children
  pub oldest : (below ≡ []) ↔ (digest ≡ view.root)
