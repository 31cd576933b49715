-- What a quiet source has of all that its revision read, and of what ended it. (Our own, over OCI
-- Distribution 1.1, "Pull".)
use Rattle.std.specs.Prelude.{◌≡◌, ◌<◌, ⊤, ℕ, List, [], ◌∷◌, length, Contains, Some, None}
use Rattle.hr_base.specs.Bytes.{ByteList}
use Rattle.hr_base.specs.declared.limit.TheConstants.{MANIFEST_LIMIT}
use Rattle.hr_digest.specs.declared.digest.Digest.{Digest}
use Rattle.hr_name.specs.Tag.{TagName}
use Rattle.hr_event.specs.declared.cause.Cause.{Cause}
use Rattle.hr_event.specs.declared.cause.Cause.TheVariants as cause
use Rattle.hr_event.specs.declared.entry.Entry.{Entry}
use Rattle.hr_event.specs.declared.entry.What.{What}
use Rattle.hr_event.specs.declared.entry.What.TheVariants as what
use Rattle.hr_event.specs.declared.reference.Fetched.{Fetched}
use Rattle.hr_event.specs.declared.reference.Reference.TheVariants as by
use Rattle.hr_manifest.specs.declared.child.ChildKind.TheVariants as kind
use Rattle.hr_adapter.specs.Content.{Content, Honest, blob_at, fetch_at, manifest_at}
use Rattle.hr_adapter.specs.Put.{as_manifest}
use Rattle.hr_line.specs.Evidence.{MeasuredFor, ReachedBy, Says}
use Rattle.hr_line.specs.Orderly.{admitted_at}
use Rattle.hr_line.specs.State.{State}
use Rattle.hr_line.specs.declared.held.Admitted.{Admitted}
use Rattle.hr_whole.specs.Calm.{IsCalm}

-- a child that was reached isn't there: a manifest or a blob
pub data IsMissing (a : Admitted) (c : Content) (older : List Entry) (d : Digest) : Type 0 where
  manifest : ReachedBy a older kind.Manifest d → manifest_at c a.spec.from d ≡ None → IsMissing a c older d
  blob : ReachedBy a older kind.Blob d → blob_at c a.spec.from d ≡ None → IsMissing a c older d

-- a manifest is asked for: a tag of the task leads to it, or a child that was reached is it
pub data IsAskedFor (a : Admitted) (c : Content) (older : List Entry) (m : Fetched) : Type 0 where
  tagged : (tag : TagName) → Contains a.spec.tags tag → fetch_at c a.spec.from (by.Tag tag) ≡ Some m
      → IsAskedFor a c older m
  child : (d : Digest) → ReachedBy a older kind.Manifest d → manifest_at c a.spec.from d ≡ Some m
      → IsAskedFor a c older m

-- a manifest that is asked for is so long, which is more than a manifest may be
pub record IsTooLong (a : Admitted) (c : Content) (older : List Entry) (len : ℕ) : Type 0 where
  pub m : Fetched
  pub asked : IsAskedFor a c older m
  pub long : length m.bytes ≡ len
  pub over : MANIFEST_LIMIT < len

-- what the source has of a cause: it lacks the tag or the child, or what is asked for is too long
abbrev pub EndsFor : Admitted → Content → List Entry → Cause → Type 0
EndsFor a c older (cause.Gone (by.Tag tag)) =
    Contains a.spec.tags tag × (fetch_at c a.spec.from (by.Tag tag) ≡ None)
EndsFor a c older (cause.Gone (by.Digest d)) = IsMissing a c older d
EndsFor a c older (cause.TooLong len) = IsTooLong a c older len
EndsFor a c older _ = ⊤

-- what the source has of an entry, by those before it: a tag that was read is one of the task and
-- leads to that manifest, a child that was read was reached, and so is what ended the revision
abbrev pub IsSaid : Admitted → Content → List Entry → What → Type 0
IsSaid a c older (what.ReadTag tag media bytes) = Contains a.spec.tags tag
    × (fetch_at c a.spec.from (by.Tag tag) ≡ Some (as_manifest media bytes))
IsSaid a c older (what.ReadChild d media bytes) = ReachedBy a older kind.Manifest d
IsSaid a c older (what.Ended status (Some why)) = EndsFor a c older why
IsSaid a c older _ = ⊤

-- so it has of each entry of a revision whose two ends were opened calm
abbrev pub AreSaid : State → List Admitted → List Entry → Type 0
AreSaid opened all [] = ⊤
AreSaid opened all (e ∷ older) = ((a : Admitted) (c o : Content) → admitted_at all e.job.0 e.rev ≡ Some a
    → IsCalm opened a c o → IsSaid a c older e.what) × AreSaid opened all older

-- all that a revision read, as a source of this content has it: what tags lead to, children that were
-- reached, and blobs whose lengths are those of its texts
pub record IsFromSource (a : Admitted) (log : List Entry) (c : Content) : Type 0 where
  pub honest : Honest c
  pub tagged : (tag : TagName) (m : Fetched) → Says a log (what.ReadTag tag m.media m.bytes)
      → Contains a.spec.tags tag × (fetch_at c a.spec.from (by.Tag tag) ≡ Some m)
  pub child : (d : Digest) (m : Fetched) → Says a log (what.ReadChild d m.media m.bytes)
      → ReachedBy a log kind.Manifest d × (manifest_at c a.spec.from d ≡ Some m)
  pub lengths : (d : Digest) (len : ℕ) (bytes : ByteList) → MeasuredFor a log d len
      → blob_at c a.spec.from d ≡ Some bytes → length bytes ≡ len
