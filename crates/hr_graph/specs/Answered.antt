-- What each answer that a walk takes changes in it. (Our own.)
use Rattle.std.specs.Prelude.{◌≡◌, ℕ, List, ◌∷◌, length, Some, None, Ok}
use Rattle.hr_digest.specs.declared.digest.Digest.{Digest}
use Rattle.hr_manifest.specs.Manifest.{Parts}
use Rattle.hr_graph.specs.declared.need.Given.{Given}
use Rattle.hr_graph.specs.declared.need.Given.TheVariants as given
use Rattle.hr_graph.specs.declared.need.Need.{Need}
use Rattle.hr_graph.specs.declared.need.Need.TheVariants as need
use Rattle.hr_graph.specs.declared.opened.Opened.{Opened}
use Rattle.hr_graph.specs.Walk.{View, size_said}
use Rattle.hr_graph.specs.Meeting.{moved_to, next_in}
use Rattle.hr_graph.specs.Step.{with_opened, with_blob, with_put}

-- A walk that was at some view is at its next need: nothing else is new but the place of the next
-- child in the newest open manifest.
pub record IsSettled (view new : View) : Type 0 where
  pub at : ℕ
  pub asked : Need
  pub next : next_in view.opened view.blobs view.manifests
      ≡ Ok (record { at = at; need = asked })
  pub is : new ≡ record view { opened = moved_to at view.opened; need = asked }

-- A child manifest was opened: it has the size that the newest open manifest says of its next
-- child, and it is open above that one.
pub record ChildWasOpened (old : View) (digest : Digest) (manifest : Parts) (new : View)
    : Type 0 where
  pub parent : Opened
  pub below : List Opened
  pub opened : old.opened ≡ parent ∷ below
  pub size : size_said parent ≡ length manifest.bytes
  pub settled : IsSettled (with_opened old digest manifest parent) new

-- A blob is to be copied, and nothing else is new.
pub record BlobIsToBeCopied (old : View) (digest : Digest) (new : View) : Type 0 where
  pub is : new ≡ record old { need = need.CopyBlob digest }

-- A blob is finished, with this length.
pub record BlobWasFinished (old : View) (digest : Digest) (len : ℕ) (new : View) : Type 0 where
  pub settled : IsSettled (with_blob old digest len) new

-- A manifest was put: it was the newest that was open, and is finished.
pub record ManifestWasPut (old : View) (digest : Digest) (new : View) : Type 0 where
  pub newest : Opened
  pub below : List Opened
  pub opened : old.opened ≡ newest ∷ below
  pub named : newest.digest ≡ digest
  pub settled : IsSettled (with_put old newest below) new

-- An answer to this need was taken, and made the new view of the old one.
abbrev pub IsAnswered : View → Need → Given → View → Type 0
IsAnswered old (need.Manifest digest) (given.Manifest manifest) new =
    ChildWasOpened old digest manifest new
IsAnswered old (need.HasBlob digest) (given.Found (Some len)) new =
    BlobWasFinished old digest len new
IsAnswered old (need.HasBlob digest) (given.Found None) new = BlobIsToBeCopied old digest new
IsAnswered old (need.CopyBlob digest) (given.Copied len) new = BlobWasFinished old digest len new
IsAnswered old (need.PutManifest digest) given.Put new = ManifestWasPut old digest new
IsAnswered old _ _ new = ⊥
