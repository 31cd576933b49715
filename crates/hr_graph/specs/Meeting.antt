-- How a child is met, and which need comes next. (Our own; sizes: OCI Image 1.1, "OCI Content
-- Descriptors", property `size`.)
use Rattle.std.specs.Prelude.{ℕ, ◌+◌, ◌==◌, nat_lt, nat_le, if◌then◌else◌, Bool, true, false, List, [], ◌∷◌, Option, Some, None, Result, Ok, Err}
use Rattle.hr_digest.specs.declared.digest.Digest.{Digest}
use Rattle.hr_manifest.specs.declared.child.Child.{Child}
use Rattle.hr_manifest.specs.declared.child.ChildKind.{ChildKind}
use Rattle.hr_manifest.specs.declared.child.ChildKind.TheVariants as kind
use Rattle.hr_graph.specs.declared.need.Need.{Need}
use Rattle.hr_graph.specs.declared.need.Need.TheVariants as need
use Rattle.hr_graph.specs.declared.need.WalkRefused.{WalkRefused}
use Rattle.hr_graph.specs.declared.need.WalkRefused.TheVariants.{TooDeep, TooMany, SizeDiffers}
use Rattle.hr_graph.specs.declared.meeting.Next.{Next}
use Rattle.hr_graph.specs.declared.opened.Opened.{Opened}
use Rattle.hr_graph.specs.declared.opened.Finished.{Finished}
use Rattle.hr_graph.specs.declared.opened.TheConstants.{DEPTH_LIMIT, PAIR_LIMIT}
use Rattle.hr_graph.specs.Walk.{View, known, is_open, rest_of, met_count}

-- How a child is met: it is passed over (None), or asked for, or refused.
abbrev pub Meeting : Type 0
Meeting = Result (Option Need) WalkRefused

-- A child whose content is finished with this length is passed over, where that is the size that
-- its descriptor says.
abbrev pub finished_met : Child → ℕ → Meeting
finished_met child len =
    if child.size == len then Ok None else Err (SizeDiffers child.digest child.size len)

-- A child that is met for the first time is asked for, unless that is one pair too many.
abbrev pub new_met : ℕ → Need → Meeting
new_met count asked =
    if nat_lt count PAIR_LIMIT then Ok (Some asked) else Err (TooMany (PAIR_LIMIT + 1))

-- A blob is met by its length where it is finished, and else after so many pairs.
abbrev pub blob_met : Option ℕ → ℕ → Child → Meeting
blob_met (Some len) count child = finished_met child len
blob_met None count child = new_met count (need.HasBlob child.digest)

-- A manifest is met by what is known of it where it is finished, by whether it is open, at a level,
-- and after so many pairs: too deep comes first, and one that is open leads back to itself.
abbrev pub manifest_met : Option Finished → Bool → ℕ → ℕ → Child → Meeting
manifest_met (Some done) open_now level count child =
    if nat_le (level + done.height) DEPTH_LIMIT
    then finished_met child done.len else Err (TooDeep child.digest)
manifest_met None true level count child = Err (TooDeep child.digest)
manifest_met None false level count child =
    if nat_le level DEPTH_LIMIT
    then new_met count (need.Manifest child.digest) else Err (TooDeep child.digest)

module _ (opened : List Opened) (blobs : List (Digest × ℕ)) (manifests : List (Digest × Finished)) where
  -- A child is met by its kind, at this level.
  abbrev pub kind_met : ChildKind → ℕ → Child → Meeting
  kind_met kind.Foreign level child = Ok None
  kind_met kind.Blob level child =
      blob_met (known child.digest blobs) (met_count opened blobs manifests) child
  kind_met kind.Manifest level child =
      manifest_met (known child.digest manifests) (is_open child.digest opened) level
      (met_count opened blobs manifests) child

  -- A child is met at this level, by what is open and finished.
  abbrev pub child_met : ℕ → Child → Meeting
  child_met level child = kind_met child.kind level child

-- The next need is about the child that was met at this place, or a later one where that child is
-- passed over.
abbrev pub next_at : Meeting → ℕ → Result Next WalkRefused → Result Next WalkRefused
next_at (Ok None) at later = later
next_at (Ok (Some asked)) at later = Ok (record { at = at; need = asked })
next_at (Err why) at later = Err why

-- The next need is about the first of these children, from this place on, that isn't passed over;
-- after the last of them their manifest is put.
abbrev pub next_from : (Child → Meeting) → Digest → ℕ → List Child → Result Next WalkRefused
next_from meet digest at [] = Ok (record { at = at; need = need.PutManifest digest })
next_from meet digest at (child ∷ children) =
    next_at (meet child) at (next_from meet digest (at + 1) children)

-- The next need of a walk, by the children of its newest open manifest that weren't passed over
-- yet; with nothing open it is done.
abbrev pub next_in : List Opened → List (Digest × ℕ) → List (Digest × Finished)
    → Result Next WalkRefused
next_in [] blobs manifests = Ok (record { at = 0; need = need.Done })
next_in (o ∷ below) blobs manifests =
    next_from (child_met (o ∷ below) blobs manifests (o.level + 1)) o.digest o.next (rest_of o)

-- The newest open manifest has its next child at this place.
abbrev pub moved_to : ℕ → List Opened → List Opened
moved_to at [] = []
moved_to at (o ∷ below) = record o { next = at } ∷ below

-- A walk at this next need, or why it is refused.
abbrev pub settled_by : View → Result Next WalkRefused → Result View WalkRefused
settled_by view (Ok next) =
    Ok (record view { opened = moved_to next.at view.opened; need = next.need })
settled_by view (Err why) = Err why

-- A walk at its next need, once what was given is among what is open or finished.
abbrev pub settled : View → Result View WalkRefused
settled view = settled_by view (next_in view.opened view.blobs view.manifests)
