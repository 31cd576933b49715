-- What contracts see of a walk over the graph of a manifest. (Our own.)
use Rattle.std.specs.Prelude.{◌≡◌, ℕ, ◌+◌, ◌*◌, ◌-◌, Bool, List, [], ◌∷◌, length, drop, slice_get, Option, Some, None, option_map, ⊤}
use Rattle.std.specs.List.{list_any}
use Rattle.std.specs.Map.{lookup}
use Rattle.hr_digest.specs.declared.digest.Digest.{Digest}
use Rattle.hr_digest.specs.Digest.{digest_of}
use Rattle.hr_digest.specs.Order.{digest_eq}
use Rattle.hr_manifest.specs.Manifest.{Parts}
use Rattle.hr_manifest.specs.declared.child.Child.{Child}
use Rattle.hr_graph.specs.declared.need.Given.{Given}
use Rattle.hr_graph.specs.declared.need.Given.TheVariants as given
use Rattle.hr_graph.specs.declared.need.Need.{Need}
use Rattle.hr_graph.specs.declared.need.Need.TheVariants as need
use Rattle.hr_graph.specs.declared.opened.Opened.{Opened}
use Rattle.hr_graph.specs.declared.opened.Finished.{Finished}
use Rattle.hr_graph.specs.declared.opened.TheConstants.{PAIR_LIMIT}

-- A walk has a root, open manifests, finished blobs and manifests, and a need; what is finished has
-- its digest as key, and stands in the order of finishing.
pub record View : Type 0 where
  -- The digest of the manifest that it began with.
  pub root : Digest
  -- The manifests whose children are gone through, the newest first.
  pub opened : List Opened
  -- The lengths in bytes of the blobs that were found or copied.
  pub blobs : List (Digest × ℕ)
  -- The manifests that were put.
  pub manifests : List (Digest × Finished)
  -- What it needs to go on.
  pub need : Need

-- What stands under a digest among finished blobs or manifests.
abbrev pub known : {X : Type 0} → Digest → List (Digest × X) → Option X
known digest entries = lookup (digest_eq digest) entries

-- A manifest of this digest is open.
abbrev pub is_open : Digest → List Opened → Bool
is_open digest opened = list_any (λ o. digest_eq o.digest digest) opened

-- The children of an open manifest that were not passed over yet; the need is about the first.
abbrev pub rest_of : Opened → List Child
rest_of o = drop o.next o.manifest.children

-- How many pairs of kind and digest are finished or open.
abbrev pub met_count : List Opened → List (Digest × ℕ) → List (Digest × Finished) → ℕ
met_count opened blobs manifests = length blobs + length manifests + length opened

-- One where a blob is being copied, and else none.
abbrev pub copying : Need → ℕ
copying (need.CopyBlob digest) = 1
copying (need.Manifest digest) = 0
copying (need.HasBlob digest) = 0
copying (need.PutManifest digest) = 0
copying need.Done = 0

-- How many answers a walk took at most: two for each finished pair, and one for each open manifest
-- and a blob that is being copied.
abbrev pub steps_of : View → ℕ
steps_of view =
    2 * (length view.blobs + length view.manifests) + length view.opened + copying view.need

-- How many more answers a walk can take at most.
abbrev pub left_of : View → ℕ
left_of view = 2 * PAIR_LIMIT - steps_of view

-- An answer is one to this need; a manifest that is given has the digest that was asked for.
abbrev pub Answers : Need → Given → Type 0
Answers (need.Manifest digest) (given.Manifest manifest) = digest_of manifest.bytes ≡ digest
Answers (need.HasBlob digest) (given.Found len) = ⊤
Answers (need.CopyBlob digest) (given.Copied len) = ⊤
Answers (need.PutManifest digest) given.Put = ⊤
Answers _ _ = ⊥

-- The manifest that is to be put, where one is.
abbrev pub newest_manifest : Need → List Opened → Option Parts
newest_manifest (need.PutManifest digest) (o ∷ below) = Some o.manifest
newest_manifest _ _ = None

-- The size that a child's descriptor says, and 0 for no child.
abbrev pub said_by : Option Child → ℕ
said_by (Some child) = child.size
said_by None = 0

-- The size that an open manifest says of its next child, and 0 where it has none; a walk that asks
-- for a manifest always has one.
abbrev pub size_said : Opened → ℕ
size_said o = said_by (slice_get o.manifest.children o.next)

-- The size that the descriptor of the next child of the newest open manifest says, where there is
-- a next child.
abbrev pub asked_size : List Opened → Option ℕ
asked_size [] = None
asked_size (o ∷ below) = option_map (λ child. child.size) (slice_get o.manifest.children o.next)
