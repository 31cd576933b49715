-- What one line of a step's table does: a tag is read, a destination is looked at, or the walk gets
-- what it needs. Each is a relation between the connections and the journal before it and after it,
-- and its end. A journal is read newest first. (Our own, over OCI Distribution 1.1, "Pull", "Push".)
use Rattle.std.specs.Prelude.{◌≡◌, ◌≢◌, ⊤, ℕ, Bool, true, false, not, List, ◌∷◌, Option, Some, None, Result, Ok, Err}
use Rattle.hr_digest.specs.Digest.{digest_of}
use Rattle.hr_digest.specs.Order.{digest_eq}
use Rattle.hr_digest.specs.declared.digest.Digest.{Digest}
use Rattle.hr_name.specs.Tag.{TagName}
use Rattle.hr_event.specs.declared.cause.Cause.{Cause}
use Rattle.hr_event.specs.declared.cause.Cause.TheVariants as cause
use Rattle.hr_event.specs.declared.entry.Entry.{Entry}
use Rattle.hr_event.specs.declared.entry.How.{How}
use Rattle.hr_event.specs.declared.entry.How.TheVariants.{Put, Unsure, Same, Kept}
use Rattle.hr_event.specs.declared.entry.What.{What}
use Rattle.hr_event.specs.declared.entry.What.TheVariants as what
use Rattle.hr_event.specs.declared.reference.Fetched.{Fetched}
use Rattle.hr_event.specs.declared.reference.Reference.TheVariants as by
use Rattle.hr_manifest.specs.Manifest.{Parts}
use Rattle.hr_manifest.specs.Reading.{Reads, Refuses}
use Rattle.hr_manifest.specs.declared.refusal.Unreadable.{Unreadable}
use Rattle.hr_graph.specs.Step.{begun, outcome}
use Rattle.hr_graph.specs.Walk.{View, asked_size, newest_manifest}
use Rattle.hr_graph.specs.declared.need.Given.{Given}
use Rattle.hr_graph.specs.declared.need.Given.TheVariants as given
use Rattle.hr_graph.specs.declared.need.WalkRefused.{WalkRefused}
use Rattle.hr_adapter.specs.Calls.{Fetches, FindsBlob, Heads, PutsManifest}
use Rattle.hr_adapter.specs.Reg.{IsSound, Reg}
use Rattle.hr_adapter.specs.declared.fault.RegFault.{RegFault}
use Rattle.hr_blob.specs.Copies.{Copies}
use Rattle.hr_blob.specs.declared.outcome.NotCopied.{NotCopied}
use Rattle.hr_blob.specs.declared.outcome.NotCopied.TheVariants as copy
use Rattle.hr_line.specs.Cause.{failing_cause, fault_cause, form_cause, walk_cause}
use Rattle.hr_line.specs.declared.held.Admitted.{Admitted}
use Rattle.hr_line.specs.declared.held.Work.{Work}

-- the end of a line: the work that goes on, none where the tag is finished, or the cause that ends
-- the revision
abbrev pub LineEnd : Type 0
LineEnd = Result (Option Work) Cause

-- an entry of a revision
abbrev pub entry_of : Admitted → What → Entry
entry_of a said = record { job = a.job; rev = a.rev; what = said }

-- the line ends the revision by this cause, and writes nothing
abbrev pub EndsBy : Cause → List Entry → List Entry → LineEnd → Type 0
EndsBy why log after end = (after ≡ log) × (end ≡ Err why)

-- ---- walks

-- a manifest was read, or it was refused
abbrev pub IsReading : Fetched → Result Parts Unreadable → Type 0
IsReading m (Ok parts) = (parts.media ≡ m.media) × (parts.bytes ≡ m.bytes)
    × Reads m.media m.bytes parts.children
IsReading m (Err why) = why ≢ Unreadable.Memory → Refuses m.media m.bytes why

-- a walk began with this root, or was refused
abbrev pub IsBeginning : Digest → Parts → Result View WalkRefused → Type 0
IsBeginning root parts (Ok walk) = begun root parts ≡ Ok walk
IsBeginning root parts (Err why) = why ≢ WalkRefused.Memory → begun root parts ≡ Err why

-- a walk took this answer, or refused it
abbrev pub IsTaking : View → Given → Result View WalkRefused → Type 0
IsTaking walk answer (Ok next) = outcome walk answer ≡ Ok next
IsTaking walk answer (Err why) = why ≢ WalkRefused.Memory → outcome walk answer ≡ Err why

-- work at this walk goes on, or the walk was refused
abbrev pub walked : Bool → Result View WalkRefused → LineEnd
walked looked (Ok walk) = Ok (Some (record { looked = looked; walk = walk }))
walked looked (Err why) = Err (walk_cause why)

-- a tag's manifest was read, and its walk begins
pub record WalkBegins (root : Digest) (parts : Parts) (end : LineEnd) : Type 0 where
  pub walk : Result View WalkRefused
  pub begins : IsBeginning root parts walk
  pub is : end ≡ walked false walk

-- the work goes on by an answer
pub record WorkGoes (w : Work) (answer : Given) (end : LineEnd) : Type 0 where
  pub walk : Result View WalkRefused
  pub takes : IsTaking w.walk answer walk
  pub is : end ≡ walked w.looked walk

-- ---- a tag is read at the source

-- the manifest of a tag was read or refused: its walk begins, or the revision ends
abbrev pub RootGoes : Digest → Result Parts Unreadable → LineEnd → Type 0
RootGoes root (Ok parts) end = WalkBegins root parts end
RootGoes root (Err why) end = end ≡ Err (form_cause why root)

-- a manifest came for the tag, readable or not
pub record TagCame (a : Admitted) (tag : TagName) (m : Fetched) (log after : List Entry) (end : LineEnd)
    : Type 0 where
  pub writes : after ≡ entry_of a (what.ReadTag tag m.media m.bytes) ∷ log
  pub reading : Result Parts Unreadable
  pub reads : IsReading m reading
  pub goes : RootGoes (digest_of m.bytes) reading end

-- the source answered for the tag: a manifest came, none is there, or it failed
abbrev pub TagFetched : Admitted → TagName → Reg → Reg → List Entry → List Entry → LineEnd
    → Result (Option Fetched) RegFault → Type 0
TagFetched a tag f g log after end (Ok (Some m)) = TagCame a tag m log after end
TagFetched a tag f g log after end (Ok None) = EndsBy (cause.Gone (by.Tag tag)) log after end
TagFetched a tag f g log after end (Err fault) =
    EndsBy (fault_cause fault a.spec.src f.faults g.faults) log after end

-- read the tag at the source
pub record TagLine (a : Admitted) (tag : TagName) (f g : Reg) (log after : List Entry) (end : LineEnd)
    : Type 0 where
  pub fetched : Result (Option Fetched) RegFault
  pub asks : Fetches a.spec.from (by.Tag tag) f g fetched
  pub comes : TagFetched a tag f g log after end fetched

-- ---- the destination is looked at

-- what a look decides for a tag that is to name a digest: it does so already, or it names another
-- one that is to stay; else nothing
abbrev pub decided_by : Bool → Bool → Option How
decided_by true replaces = Some Same
decided_by false true = None
decided_by false false = Some Kept

-- what a look that found this decides for a tag that is to name a digest: another one stays, where it
-- is not to be replaced
abbrev pub decide : Option Digest → Digest → Bool → Option How
decide None root replaces = None
decide (Some d) root replaces = decided_by (digest_eq d root) replaces

-- the first look decides, or the work goes on
abbrev pub LookEnds : Admitted → TagName → Work → Option Digest → List Entry → List Entry → LineEnd
    → Option How → Type 0
LookEnds a tag w found log after end None = (after ≡ entry_of a (what.Looked tag found) ∷ log)
    × (end ≡ Ok (Some (record w { looked = true })))
LookEnds a tag w found log after end (Some how) = (after
    ≡ entry_of a (what.Show tag w.walk.root found how) ∷ entry_of a (what.Looked tag found) ∷ log)
    × (end ≡ Ok None)

-- the destination answered the look, or it failed
abbrev pub LookFound : Admitted → TagName → Work → Reg → Reg → List Entry → List Entry → LineEnd
    → Result (Option Digest) RegFault → Type 0
LookFound a tag w p q log after end (Ok found) =
    LookEnds a tag w found log after end (decide found w.walk.root a.spec.override_it)
LookFound a tag w p q log after end (Err fault) =
    EndsBy (fault_cause fault a.spec.dst p.faults q.faults) log after end

-- look at the destination
pub record LookLine (a : Admitted) (tag : TagName) (w : Work) (p q : Reg) (log after : List Entry)
    (end : LineEnd) : Type 0 where
  pub found : Result (Option Digest) RegFault
  pub asks : Heads a.spec.to (by.Tag tag) p q found
  pub finds : LookFound a tag w p q log after end found

-- ---- a child manifest

-- the manifest of a child was read or refused: the walk takes it, or the revision ends
abbrev pub ChildGoes : Work → Digest → Result Parts Unreadable → LineEnd → Type 0
ChildGoes w d (Ok parts) end = WorkGoes w (given.Manifest parts) end
ChildGoes w d (Err why) end = end ≡ Err (form_cause why d)

-- a manifest came for the child, and it has the digest
pub record ChildCame (a : Admitted) (w : Work) (d : Digest) (m : Fetched) (log after : List Entry)
    (end : LineEnd) : Type 0 where
  pub writes : after ≡ entry_of a (what.ReadChild d m.media m.bytes) ∷ log
  pub reading : Result Parts Unreadable
  pub reads : IsReading m reading
  pub goes : ChildGoes w d reading end

-- the manifest that came for the child has its digest, or another one
abbrev pub ChildCompared : Bool → Admitted → Work → Digest → Fetched → List Entry → List Entry
    → LineEnd → Type 0
ChildCompared true a w d m log after end = ChildCame a w d m log after end
ChildCompared false a w d m log after end = EndsBy (cause.Differs d (digest_of m.bytes)) log after end

-- the source answered for the child: a manifest came, none is there, or it failed
abbrev pub ChildFetched : Admitted → Work → Digest → Reg → Reg → List Entry → List Entry → LineEnd
    → Result (Option Fetched) RegFault → Type 0
ChildFetched a w d f g log after end (Ok (Some m)) =
    ChildCompared (digest_eq (digest_of m.bytes) d) a w d m log after end
ChildFetched a w d f g log after end (Ok None) = EndsBy (cause.Gone (by.Digest d)) log after end
ChildFetched a w d f g log after end (Err fault) =
    EndsBy (fault_cause fault a.spec.src f.faults g.faults) log after end

-- read a child manifest at the source
pub record ChildLine (a : Admitted) (w : Work) (d : Digest) (f g : Reg) (log after : List Entry)
    (end : LineEnd) : Type 0 where
  pub fetched : Result (Option Fetched) RegFault
  pub asks : Fetches a.spec.from (by.Digest d) f g fetched
  pub comes : ChildFetched a w d f g log after end fetched

-- ---- blobs

-- the destination said whether it has the blob
pub record BlobFound (a : Admitted) (w : Work) (d : Digest) (len : Option ℕ) (log after : List Entry)
    (end : LineEnd) : Type 0 where
  pub writes : after ≡ entry_of a (what.HasBlob d len) ∷ log
  pub goes : WorkGoes w (given.Found len) end

-- the destination answered whether it has the blob, or it failed
abbrev pub BlobAsked : Admitted → Work → Digest → Reg → Reg → List Entry → List Entry → LineEnd
    → Result (Option ℕ) RegFault → Type 0
BlobAsked a w d p q log after end (Ok len) = BlobFound a w d len log after end
BlobAsked a w d p q log after end (Err fault) =
    EndsBy (fault_cause fault a.spec.dst p.faults q.faults) log after end

-- look for a blob at the destination
pub record BlobLine (a : Admitted) (w : Work) (d : Digest) (p q : Reg) (log after : List Entry)
    (end : LineEnd) : Type 0 where
  pub found : Result (Option ℕ) RegFault
  pub asks : FindsBlob a.spec.to d p q found
  pub finds : BlobAsked a w d p q log after end found

-- a copy of a blob came out: what came, came from the source, and was stored, or may have been
abbrev pub CopyEnds : Admitted → Work → Digest → ℕ → List Entry → List Entry → LineEnd
    → Result ℕ NotCopied → Type 0
CopyEnds a w d said log after end (Ok len) =
    (after ≡ entry_of a (what.PutBlob d true) ∷ entry_of a (what.GotBlob d len) ∷ log)
    × WorkGoes w (given.Copied len) end
CopyEnds a w d said log after end (Err copy.Gone) = EndsBy (cause.Gone (by.Digest d)) log after end
CopyEnds a w d said log after end (Err (copy.Unopened f)) = EndsBy (failing_cause f a.spec.src) log after end
CopyEnds a w d said log after end (Err (copy.Unbegun f)) = EndsBy (failing_cause f a.spec.dst) log after end
CopyEnds a w d said log after end (Err (copy.Unread f)) = EndsBy (failing_cause f a.spec.src) log after end
CopyEnds a w d said log after end (Err (copy.Unwritten f)) = EndsBy (failing_cause f a.spec.dst) log after end
CopyEnds a w d said log after end (Err (copy.TooLong len)) = EndsBy (cause.TooLong len) log after end
CopyEnds a w d said log after end (Err (copy.Differs got)) = EndsBy (cause.Differs d got) log after end
CopyEnds a w d said log after end (Err (copy.SizeDiffers got)) =
    (after ≡ entry_of a (what.GotBlob d got) ∷ log) × (end ≡ Err (cause.SizeDiffers d said got))
CopyEnds a w d said log after end (Err (copy.Unsure len f)) =
    (after ≡ entry_of a (what.PutBlob d false) ∷ entry_of a (what.GotBlob d len) ∷ log)
    × (end ≡ Err (failing_cause f a.spec.dst))

-- copy a blob that the destination lacks, with the size that its descriptor says
pub record CopyLine (a : Admitted) (w : Work) (d : Digest) (f g p q : Reg) (log after : List Entry)
    (end : LineEnd) : Type 0 where
  pub said : ℕ
  pub asked : asked_size w.walk.opened ≡ Some said
  pub copied : Result ℕ NotCopied
  pub copies : Copies a.spec.from a.spec.to d said f g p q copied
  pub ends : CopyEnds a w d said log after end copied

-- ---- a child is put

-- a put came out, sure or not
abbrev pub ChildStored : Admitted → Work → Digest → Reg → Reg → List Entry → List Entry → LineEnd
    → Result ⊤ RegFault → Type 0
ChildStored a w d p q log after end (Ok done) =
    (after ≡ entry_of a (what.PutChild d true) ∷ log) × WorkGoes w given.Put end
ChildStored a w d p q log after end (Err fault) =
    (after ≡ entry_of a (what.PutChild d false) ∷ log)
    × (end ≡ Err (fault_cause fault a.spec.dst p.faults q.faults))

-- put a child manifest under its digest
pub record PutLine (a : Admitted) (w : Work) (d : Digest) (p q : Reg) (log after : List Entry)
    (end : LineEnd) : Type 0 where
  pub parts : Parts
  pub newest : newest_manifest w.walk.need w.walk.opened ≡ Some parts
  pub put : Result ⊤ RegFault
  pub puts : PutsManifest a.spec.to (by.Digest d) parts.media parts.bytes p q put
  pub stores : ChildStored a w d p q log after end put

-- ---- the root is put

-- the put of the root came out, sure or not
abbrev pub RootStored : Admitted → TagName → Digest → Option Digest → Reg → Reg → List Entry
    → List Entry → LineEnd → Result ⊤ RegFault → Type 0
RootStored a tag root found mid q log after end (Ok done) =
    (after ≡ entry_of a (what.Show tag root found Put) ∷ log) × (end ≡ Ok None)
RootStored a tag root found mid q log after end (Err fault) =
    (after ≡ entry_of a (what.Show tag root found Unsure) ∷ log)
    × (end ≡ Err (fault_cause fault a.spec.dst mid.faults q.faults))

-- the manifest of the root is put under the tag
pub record PutsRoot (a : Admitted) (tag : TagName) (w : Work) (found : Option Digest) (mid q : Reg)
    (log after : List Entry) (end : LineEnd) : Type 0 where
  pub parts : Parts
  pub newest : newest_manifest w.walk.need w.walk.opened ≡ Some parts
  pub put : Result ⊤ RegFault
  pub puts : PutsManifest a.spec.to (by.Tag tag) parts.media parts.bytes mid q put
  pub stores : RootStored a tag w.walk.root found mid q log after end put

-- the second look decides, or leads to the put
abbrev pub RootDecided : Admitted → TagName → Work → Option Digest → Reg → Reg → List Entry
    → List Entry → LineEnd → Option How → Type 0
RootDecided a tag w found mid q log after end None = PutsRoot a tag w found mid q log after end
RootDecided a tag w found mid q log after end (Some how) = (q ≡ mid)
    × (after ≡ entry_of a (what.Show tag w.walk.root found how) ∷ log) × (end ≡ Ok None)

-- the destination answered the second look, or it failed
abbrev pub RootLooked : Admitted → TagName → Work → Reg → Reg → Reg → List Entry → List Entry
    → LineEnd → Result (Option Digest) RegFault → Type 0
RootLooked a tag w p mid q log after end (Ok found) =
    RootDecided a tag w found mid q log after end (decide found w.walk.root a.spec.override_it)
RootLooked a tag w p mid q log after end (Err fault) = (q ≡ mid)
    × EndsBy (fault_cause fault a.spec.dst p.faults mid.faults) log after end

-- look once more, and put the root under its tag
pub record RootLine (a : Admitted) (tag : TagName) (w : Work) (p q : Reg) (log after : List Entry)
    (end : LineEnd) : Type 0 where
  pub mid : Reg
  pub sound : IsSound mid
  pub found : Result (Option Digest) RegFault
  pub asks : Heads a.spec.to (by.Tag tag) p mid found
  pub finds : RootLooked a tag w p mid q log after end found
