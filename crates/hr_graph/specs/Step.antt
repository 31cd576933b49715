-- What a walk begins with, and what each answer makes of it. (Our own.)
use Rattle.std.specs.Prelude.{ℕ, ◌+◌, ◌==◌, if◌then◌else◌, max, List, [], ◌∷◌, ◌++◌, length, Option, Some, None, Result, Ok, Err}
use Rattle.hr_digest.specs.declared.digest.Digest.{Digest}
use Rattle.hr_manifest.specs.Manifest.{Parts}
use Rattle.hr_manifest.specs.declared.child.Child.{Child}
use Rattle.hr_manifest.specs.declared.child.ChildKind.{ChildKind}
use Rattle.hr_manifest.specs.declared.child.ChildKind.TheVariants as kind
use Rattle.hr_graph.specs.declared.need.Given.{Given}
use Rattle.hr_graph.specs.declared.need.Given.TheVariants as given
use Rattle.hr_graph.specs.declared.need.Need.{Need}
use Rattle.hr_graph.specs.declared.need.Need.TheVariants as need
use Rattle.hr_graph.specs.declared.need.WalkRefused.{WalkRefused}
use Rattle.hr_graph.specs.declared.need.WalkRefused.TheVariants.{SizeDiffers}
use Rattle.hr_graph.specs.declared.opened.Opened.{Opened}
use Rattle.hr_graph.specs.declared.opened.Finished.{Finished}
use Rattle.hr_graph.specs.Walk.{View, known, size_said}
use Rattle.hr_graph.specs.Meeting.{settled}

-- A walk begins with its root open, at level 0, and nothing finished.
abbrev pub with_root : Digest → Parts → View
with_root root manifest = record {
  root = root;
  opened = record { digest = root; manifest = manifest; level = 0; next = 0 } ∷ [];
  blobs = [];
  manifests = [];
  need = need.Done;
}

-- A walk from a manifest and its digest, at its first need, or why it is refused.
abbrev pub begun : Digest → Parts → Result View WalkRefused
begun root manifest = settled (with_root root manifest)

-- One more than the height of a child that is a manifest and was put, and 0 for any other.
abbrev pub height_by : ChildKind → Option Finished → ℕ
height_by kind.Manifest (Some done) = done.height + 1
height_by kind.Manifest None = 0
height_by kind.Blob _ = 0
height_by kind.Foreign _ = 0

-- The height of a manifest with these children: 0 without children that are manifests, and else
-- one more than that of the highest.
abbrev pub height_of : List (Digest × Finished) → List Child → ℕ
height_of manifests [] = 0
height_of manifests (child ∷ children) =
    max (height_by child.kind (known child.digest manifests)) (height_of manifests children)

-- What is known of an open manifest once it is put.
abbrev pub finished_of : List (Digest × Finished) → Opened → Finished
finished_of manifests o = record {
  len = length o.manifest.bytes;
  height = height_of manifests o.manifest.children;
}

-- One more manifest is open, one level below this one.
abbrev pub with_opened : View → Digest → Parts → Opened → View
with_opened view digest manifest o = record view {
  opened = record { digest = digest; manifest = manifest; level = o.level + 1; next = 0 }
      ∷ view.opened;
}

-- One more blob is finished, with this length.
abbrev pub with_blob : View → Digest → ℕ → View
with_blob view digest len = record view { blobs = view.blobs ++ (digest, len) ∷ [] }

-- The newest open manifest is finished, and those below it stay open.
abbrev pub with_put : View → Opened → List Opened → View
with_put view o below = record view {
  opened = below;
  manifests = view.manifests ++ (o.digest, finished_of view.manifests o) ∷ [];
}

-- A manifest was given: where it has the size that the newest open manifest says of it, its
-- children come next.
abbrev pub after_manifest : View → Digest → Parts → List Opened → Result View WalkRefused
after_manifest view digest manifest [] = Ok view
after_manifest view digest manifest (o ∷ below) =
    if size_said o == length manifest.bytes
    then settled (with_opened view digest manifest o)
    else Err (SizeDiffers digest (size_said o) (length manifest.bytes))

-- The newest open manifest was put.
abbrev pub after_put : View → List Opened → Result View WalkRefused
after_put view [] = Ok view
after_put view (o ∷ below) = settled (with_put view o below)

-- A blob was looked for: where it isn't there, it is to be copied.
abbrev pub after_found : View → Digest → Option ℕ → Result View WalkRefused
after_found view digest (Some len) = settled (with_blob view digest len)
after_found view digest None = Ok (record view { need = need.CopyBlob digest })

-- What an answer to this need makes of a walk, or why it is refused; what answers another need
-- changes nothing.
abbrev pub outcome_at : View → Need → Given → Result View WalkRefused
outcome_at view (need.Manifest digest) (given.Manifest manifest) =
    after_manifest view digest manifest view.opened
outcome_at view (need.HasBlob digest) (given.Found len) = after_found view digest len
outcome_at view (need.CopyBlob digest) (given.Copied len) = settled (with_blob view digest len)
outcome_at view (need.PutManifest digest) given.Put = after_put view view.opened
outcome_at view _ _ = Ok view

-- What an answer makes of a walk, or why it is refused.
abbrev pub outcome : View → Given → Result View WalkRefused
outcome view answer = outcome_at view view.need answer
