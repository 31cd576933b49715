-- What a tag that was put shows, and where that was read. (Our own, over OCI Image 1.1, "Image
-- Manifest" and "Image Index".)
use Rattle.std.specs.Prelude.{◌≡◌, ℕ, List, Contains, Some}
use Rattle.std.specs.List.{AllByRecursion}
use Rattle.hr_base.specs.Bytes.{ByteList, Media}
use Rattle.hr_digest.specs.declared.digest.Digest.{Digest}
use Rattle.hr_name.specs.Name.{RepoName}
use Rattle.hr_name.specs.Tag.{TagName}
use Rattle.hr_event.specs.declared.reference.Fetched.{Fetched}
use Rattle.hr_event.specs.declared.entry.Entry.{Entry}
use Rattle.hr_event.specs.declared.entry.What.TheVariants.{ReadTag}
use Rattle.hr_manifest.specs.Reading.{Reads}
use Rattle.hr_manifest.specs.declared.child.Child.{Child}
use Rattle.hr_adapter.specs.Content.{Content, manifest_at}
use Rattle.hr_adapter.specs.Put.{Has}
use Rattle.hr_journal.specs.Graph.{Stands, Closed}

-- the repository has a readable manifest of that hash, and each of its children with its own graph
pub record IsComplete (c : Content) (repo : RepoName) (d : Digest) : Type 0 where
  pub stored : Fetched
  pub kids : List Child
  pub there : manifest_at c repo d ≡ Some stored
  pub own : Has d stored.bytes
  pub reads : Reads stored.media stored.bytes kids
  pub each : AllByRecursion
      (λ kid. Stands (Closed 7 c repo) c repo kid.kind kid.digest kid.size) kids

-- an older entry, of the same revision of the same job as this one, read a readable manifest of
-- that hash under the tag
pub record WasRead (older : List Entry) (e : Entry) (tag : TagName) (d : Digest) : Type 0 where
  pub entry : Entry
  pub media : Media
  pub bytes : ByteList
  pub kids : List Child
  pub logged : Contains older entry
  pub job : entry.job.0 ≡ e.job.0
  pub rev : entry.rev ≡ e.rev
  pub says : entry.what ≡ ReadTag tag media bytes
  pub own : Has d bytes
  pub reads : Reads media bytes kids

-- two placements, or what else is known of each revision of a job, are alike at each entry of the
-- journal
abbrev pub AreAlike : {X : Type 0} → (ℕ → ℕ → X) → (ℕ → ℕ → X) → List Entry → Type 0
AreAlike to other log =
    (e : Entry) → Contains log e → to e.job.0 e.rev ≡ other e.job.0 e.rev
