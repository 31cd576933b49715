-- What shows the cause by which a revision ended: entries of that revision, the connections of its
-- task, and what a source that tells has. (Our own.)
use Rattle.std.specs.Prelude.{◌≡◌, ◌≢◌, ◌⊎◌, ◌<◌, ◌≤◌, ◌+◌, ⊤, ℕ, List, length, Contains, Option, Some, None, IfSome, option_map}
use Rattle.hr_base.specs.declared.limit.TheConstants.{MANIFEST_LIMIT}
use Rattle.hr_base.specs.declared.number.RegNo.{RegNo}
use Rattle.hr_cause.specs.Stream.{Rose}
use Rattle.hr_digest.specs.Digest.{digest_of}
use Rattle.hr_digest.specs.declared.digest.Digest.{Digest}
use Rattle.hr_name.specs.Name.{RepoName}
use Rattle.hr_name.specs.Tag.{TagName}
use Rattle.hr_event.specs.declared.cause.Cause.{Cause}
use Rattle.hr_event.specs.declared.cause.Cause.TheVariants as cause
use Rattle.hr_event.specs.declared.entry.Entry.{Entry}
use Rattle.hr_event.specs.declared.entry.What.{What}
use Rattle.hr_event.specs.declared.entry.What.TheVariants as what
use Rattle.hr_event.specs.declared.reference.Fetched.{Fetched}
use Rattle.hr_event.specs.declared.reference.Reference.{Reference}
use Rattle.hr_event.specs.declared.reference.Reference.TheVariants as by
use Rattle.hr_manifest.specs.Manifest.{Parts}
use Rattle.hr_manifest.specs.Reading.{Reads, Refuses}
use Rattle.hr_manifest.specs.declared.child.ChildKind.{ChildKind}
use Rattle.hr_manifest.specs.declared.child.ChildKind.TheVariants as kind
use Rattle.hr_manifest.specs.declared.refusal.Unreadable.{Unreadable}
use Rattle.hr_manifest.specs.declared.refusal.Unreadable.TheVariants as form
use Rattle.hr_graph.specs.Reached.{AreTooMany, IsReachable, IsTooDeep, IsUnsized}
use Rattle.hr_graph.specs.declared.opened.TheConstants.{PAIR_LIMIT}
use Rattle.hr_adapter.specs.Content.{Content, blob_at, manifest_at}
use Rattle.hr_adapter.specs.Put.{Has}
use Rattle.hr_adapter.specs.Reg.{Reg, Row}
use Rattle.hr_line.specs.declared.held.Admitted.{Admitted}

-- some entry of a revision says this
pub record Says (a : Admitted) (log : List Entry) (said : What) : Type 0 where
  pub entry : Entry
  pub logged : Contains log entry
  pub job : entry.job ≡ a.job
  pub rev : entry.rev ≡ a.rev
  pub says : entry.what ≡ said

-- some entry of a revision read this manifest, under a tag or for a digest
pub data ReadSome (a : Admitted) (log : List Entry) (m : Fetched) : Type 0 where
  tagged : (tag : TagName) → Says a log (what.ReadTag tag m.media m.bytes) → ReadSome a log m
  child : (d : Digest) → Says a log (what.ReadChild d m.media m.bytes) → ReadSome a log m

-- some entry of a revision read this manifest, which has this digest and is readable
pub record ReadFor (a : Admitted) (log : List Entry) (d : Digest) (parts : Parts) : Type 0 where
  pub read : ReadSome a log (record { media = parts.media; bytes = parts.bytes })
  pub own : Has d parts.bytes
  pub reads : Reads parts.media parts.bytes parts.children

-- some entry of a revision says that the blob of a digest has this length
pub data MeasuredFor (a : Admitted) (log : List Entry) (d : Digest) (len : ℕ) : Type 0 where
  looked : Says a log (what.HasBlob d (Some len)) → MeasuredFor a log d len
  copied : Says a log (what.GotBlob d len) → MeasuredFor a log d len

-- a revision read a manifest of this digest under a tag
pub record IsRootOf (a : Admitted) (log : List Entry) (root : Digest) : Type 0 where
  pub tag : TagName
  pub m : Fetched
  pub says : Says a log (what.ReadTag tag m.media m.bytes)
  pub own : Has root m.bytes

-- a revision reached a child of this kind and digest from a tag that it read
pub record ReachedBy (a : Admitted) (log : List Entry) (what : ChildKind) (d : Digest) : Type 0 where
  pub root : Digest
  pub is_root : IsRootOf a log root
  pub there : IsReachable (ReadFor a log) root what d

-- ---- the causes

-- the digest of what a content has under a digest, by the kind of child
abbrev pub digest_at : Content → RepoName → ChildKind → Digest → Option Digest
digest_at c repo kind.Manifest d = option_map (λ m. digest_of m.bytes) (manifest_at c repo d)
digest_at c repo kind.Blob d = option_map digest_of (blob_at c repo d)
digest_at c repo kind.Foreign d = None

-- the length of what a content has under a digest, by the kind of child
abbrev pub length_at : Content → RepoName → ChildKind → Digest → Option ℕ
length_at c repo kind.Manifest d = option_map (λ m. length m.bytes) (manifest_at c repo d)
length_at c repo kind.Blob d = option_map length (blob_at c repo d)
length_at c repo kind.Foreign d = None

-- a registry of the task failed: its count of faults rose, and stands no lower now
pub record FaultShown (a : Admitted) (source dest : Reg) (reg : RegNo) (before after : ℕ) : Type 0 where
  pub rose : Rose before after
  pub whose : ((reg ≡ a.spec.src) × (after ≤ source.faults)) ⊎ ((reg ≡ a.spec.dst) × (after ≤ dest.faults))

-- a source that tells has something of another digest under a digest that was reached
pub record DiffersShown (a : Admitted) (log : List Entry) (source : Reg) (asked got : Digest) : Type 0 where
  pub what : ChildKind
  pub reached : ReachedBy a log what asked
  pub other : got ≢ asked
  pub told : IfSome source.told (λ c. digest_at c a.spec.from what asked ≡ Some got)

-- a source that tells lacks a child that was reached
pub record ChildGoneShown (a : Admitted) (log : List Entry) (source : Reg) (d : Digest) : Type 0 where
  pub what : ChildKind
  pub reached : ReachedBy a log what d
  pub told : IfSome source.told (λ c. digest_at c a.spec.from what d ≡ None)

-- the source lacks a tag of the task, or a child; that it lacked the tag is said of the step itself
abbrev pub GoneShown : Admitted → List Entry → Reg → Reference → Type 0
GoneShown a log source (by.Tag tag) = Contains a.spec.tags tag
GoneShown a log source (by.Digest d) = ChildGoneShown a log source d

-- a manifest is refused by its media type, as JSON, or by a member
abbrev pub IsForm : Unreadable → Type 0
IsForm form.Media = ⊤
IsForm form.NotJson = ⊤
IsForm (form.Field name) = ⊤
IsForm _ = ⊥

-- a manifest of this digest was read, and is of no kind that is read
pub record UnreadableShown (a : Admitted) (log : List Entry) (d : Digest) : Type 0 where
  pub m : Fetched
  pub read : ReadSome a log m
  pub own : Has d m.bytes
  pub why : Unreadable
  pub is_form : IsForm why
  pub refused : Refuses m.media m.bytes why

-- a descriptor that was reached says another size than is known
pub record SizeShown (a : Admitted) (log : List Entry) (d : Digest) (said got : ℕ) : Type 0 where
  pub root : Digest
  pub is_root : IsRootOf a log root
  pub unsized : IsUnsized (ReadFor a log) (MeasuredFor a log) root d said got

-- a manifest stands too deep below a tag that was read
pub record DeepShown (a : Admitted) (log : List Entry) (d : Digest) : Type 0 where
  pub root : Digest
  pub is_root : IsRootOf a log root
  pub deep : IsTooDeep (ReadFor a log) root d

-- a manifest that was read lists too many children
pub record ChildrenShown (a : Admitted) (log : List Entry) (count : ℕ) : Type 0 where
  pub m : Fetched
  pub read : ReadSome a log m
  pub refused : Refuses m.media m.bytes (Unreadable.TooMany count)

-- too many pairs of kind and digest are reached from a tag that was read
pub record PairsShown (a : Admitted) (log : List Entry) (count : ℕ) : Type 0 where
  pub root : Digest
  pub is_root : IsRootOf a log root
  pub many : AreTooMany (ReadFor a log) root
  pub is : count ≡ PAIR_LIMIT + 1

-- what is so long, where the source tells: a child that was reached, or what a tag of the task showed
pub data IsLengthOf (a : Admitted) (log : List Entry) (c : Content) (ever : List Row) (len : ℕ) : Type 0 where
  child : (what : ChildKind) (d : Digest) → ReachedBy a log what d
      → length_at c a.spec.from what d ≡ Some len → IsLengthOf a log c ever len
  tagged : (row : Row) → Contains ever row → row.repo ≡ a.spec.from → Contains a.spec.tags row.tag
      → length row.bytes ≡ len → IsLengthOf a log c ever len

-- something is longer than a manifest may be, and, where source and destination tell, stands there
pub record LengthShown (a : Admitted) (log : List Entry) (source dest : Reg) (len : ℕ) : Type 0 where
  pub over : MANIFEST_LIMIT < len
  pub told : IfSome source.told (λ c. IfSome dest.told (λ _. IsLengthOf a log c source.ever len))

-- what stands behind a cause, by its kind: want of memory needs nothing
abbrev pub IsShown : Admitted → List Entry → Reg → Reg → Cause → Type 0
IsShown a log source dest (cause.Fault reg before after) = FaultShown a source dest reg before after
IsShown a log source dest (cause.Differs asked got) = DiffersShown a log source asked got
IsShown a log source dest (cause.SizeDiffers d said got) = SizeShown a log d said got
IsShown a log source dest (cause.Gone reference) = GoneShown a log source reference
IsShown a log source dest (cause.Unreadable d) = UnreadableShown a log d
IsShown a log source dest (cause.TooDeep d) = DeepShown a log d
IsShown a log source dest (cause.TooMany count) = ChildrenShown a log count ⊎ PairsShown a log count
IsShown a log source dest (cause.TooLong len) = LengthShown a log source dest len
IsShown a log source dest cause.Memory = ⊤
