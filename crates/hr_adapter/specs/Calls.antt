-- What the calls of a connection answer, and what they leave (OCI Distribution 1.1, "Endpoints").
-- Each call has one relation between the connection before it, the one after it, and its answer.
use Rattle.std.specs.Prelude.{◌≡◌, ◌<◌, ◌≤◌, ◌⊎◌, ⊤, ℕ, Bool, true, false, IsTrue, List, [], ◌++◌, length, map, take, Option, Some, None, is_some, IfSome, option_map, option_and_then, Result, Ok, Err, IfOk, IsErrOf, OnOk}
use Rattle.std.specs.List.Sorted.{IsStrictlySortedBy}
use Rattle.std.specs.Cmp.Lexicographic.{slice_cmp}
use Rattle.std.specs.Ordering.{nat_cmp}
use Rattle.hr_base.specs.Bytes.{ByteList, Media}
use Rattle.hr_base.specs.declared.limit.TheConstants.{MANIFEST_LIMIT}
use Rattle.hr_cause.specs.Stream.{Reads, Rose}
use Rattle.hr_digest.specs.declared.digest.Digest.{Digest}
use Rattle.hr_name.specs.Name.{RepoName}
use Rattle.hr_event.specs.declared.reference.Fetched.{Fetched}
use Rattle.hr_event.specs.declared.reference.Reference.{Reference}
use Rattle.hr_adapter.specs.Content.{Content, blob_at, fetch_at, head_at, with_blob}
use Rattle.hr_adapter.specs.Listing.{repos_of, tags_of, tags_shown}
use Rattle.hr_adapter.specs.Plan.{Plan, fails_next, lands_next, went_on}
use Rattle.hr_adapter.specs.Put.{Has, manifest_alone, put_under}
use Rattle.hr_adapter.specs.Reg.{Reg, Reading, Retagged, Writing, BothOrNeither, changed, end_fails, end_lands}
use Rattle.hr_adapter.specs.declared.fault.RegFault.{RegFault}
use Rattle.hr_adapter.specs.declared.fault.RegFault.TheVariants as why
use Rattle.hr_adapter.specs.declared.listed.Tagged.{Tagged}
use Rattle.hr_adapter.specs.declared.listed.TagNow.{TagNow}
use Rattle.hr_adapter.specs.declared.registry.TheConstants.{BLOB_LIMIT, LIST_LIMIT}

-- ---- what every call leaves

-- the count of faults stays, but at `Failed`
abbrev pub CountStays : {T : Type 0} → ℕ → ℕ → Result T RegFault → Type 0
CountStays before after (Err why.Failed) = ⊤
CountStays before after _ = after ≡ before

-- what every call leaves, by its answer: `Failed` has its cause in the count of faults, and a
-- registry in memory counts nothing else
pub record Leaves {T : Type 0} (before after : Reg) (result : Result T RegFault) : Type 0 where
  pub later : before.faults ≤ after.faults
  pub failed : IsErrOf result RegFault.Failed → Rose before.faults after.faults
  pub steady : IfSome before.plan (λ _. CountStays before.faults after.faults result)
  pub sure : IsTrue before.sure → IsTrue after.sure × (after.faults ≡ before.faults)
  pub never : IsTrue before.sure → IsErrOf result RegFault.Failed → ⊥
  pub quiet : IsTrue before.quiet → IsTrue after.quiet

-- a registry in memory fails where that was planned, and nowhere else; want of memory may come first
abbrev pub FailsAsPlanned : {T : Type 0} → Bool → Result T RegFault → Type 0
FailsAsPlanned planned (Err why.Memory) = ⊤
FailsAsPlanned planned (Err why.Failed) = planned ≡ true
FailsAsPlanned planned _ = planned ≡ false

-- the tags were moved that a plan moves, or some of them
pub record Moved (before after : Reg) : Type 0 where
  pub told : BothOrNeither Retagged before.told after.told
  pub quiet : IsTrue before.quiet → after.told ≡ before.told

-- the content that an operation found: the changes that were planned for it came first. Without
-- memory for all of them some may have been made
abbrev pub Found : {T : Type 0} → Reg → Reg → Result T RegFault → Type 0
Found before after (Err why.Memory) = Moved before after
Found before after _ = after.told ≡ before.coming

-- an operation that asks, and whose fault comes at once: it changes nothing but by the plan
pub record Asks {T : Type 0} (before after : Reg) (result : Result T RegFault) : Type 0 where
  pub left : Leaves before after result
  pub counts : after.plan ≡ option_map went_on before.plan
  pub planned : IfSome before.plan (λ p. FailsAsPlanned (fails_next p) result)
  pub found : Found before after result
  pub ever : after.ever ≡ before.ever

-- the blobs that are open stay as they are
pub record KeepsOpen (before after : Reg) : Type 0 where
  pub reading : after.reading ≡ before.reading
  pub writing : after.writing ≡ before.writing

-- what a call leaves that is no operation: the content, as it is and as it will be found
pub record Stays (before after : Reg) : Type 0 where
  pub told : after.told ≡ before.told
  pub coming : after.coming ≡ before.coming
  pub ever : after.ever ≡ before.ever
  pub plan : after.plan ≡ before.plan

-- rows are added to those that were ever shown
abbrev pub Grew : Reg → Reg → Type 0
Grew before after = take (length before.ever) after.ever ≡ before.ever

-- ---- lists

-- `repos`: the names of all repositories, in byte order
pub record ListsRepos (before after : Reg) (result : Result (List RepoName) RegFault) : Type 0 where
  pub asks : Asks before after result
  pub kept : KeepsOpen before after
  pub short : IfOk result (λ names. length names ≤ LIST_LIMIT)
  pub ordered : IfOk result (λ names. IsStrictlySortedBy (slice_cmp nat_cmp) names)
  pub told : IfOk result (λ names. IfSome after.told (λ c. names ≡ repos_of c))
  pub too_long : (len : ℕ) → IsErrOf result (RegFault.TooLong len)
      → (LIST_LIMIT < len) × IfSome after.told (λ c. length (repos_of c) ≡ len)

-- `tags`: all tags of a repository with their labels, in byte order
pub record ListsTags (repo : RepoName) (before after : Reg) (result : Result (List Tagged) RegFault)
    : Type 0 where
  pub asks : Asks before after result
  pub kept : KeepsOpen before after
  pub short : IfOk result (λ tags. length tags ≤ LIST_LIMIT)
  pub ordered : IfOk result (λ tags. IsStrictlySortedBy (slice_cmp nat_cmp) (map (λ t. t.tag) tags))
  pub told : IfOk result (λ tags. IfSome after.told (λ c. tags ≡ tags_of c repo))
  pub too_long : (len : ℕ) → IsErrOf result (RegFault.TooLong len)
      → (LIST_LIMIT < len) × IfSome after.told (λ c. length (tags_of c repo) ≡ len)

-- the tags that a registry with this plan shows of a content: all where it is one in memory
abbrev pub shown_by : Option Plan → Option Content → List TagNow
shown_by (Some p) (Some c) = tags_shown c
shown_by _ _ = []

-- what `shown` gives: all tags of a registry in memory, none of any other
abbrev pub shown_of : Reg → List TagNow
shown_of reg = shown_by reg.plan reg.told

-- ---- manifests

-- `head`: the digest of the manifest that a reference leads to
pub record Heads (repo : RepoName) (reference : Reference) (before after : Reg)
    (result : Result (Option Digest) RegFault) : Type 0 where
  pub asks : Asks before after result
  pub kept : KeepsOpen before after
  pub told : IfOk result (λ found. IfSome after.told (λ c. found ≡ head_at c repo reference))
  pub too_long : (len : ℕ) → IsErrOf result (RegFault.TooLong len)
      → (MANIFEST_LIMIT < len) × (after.told ≡ None)

-- `manifest`: the manifest that a reference leads to
pub record Fetches (repo : RepoName) (reference : Reference) (before after : Reg)
    (result : Result (Option Fetched) RegFault) : Type 0 where
  pub asks : Asks before after result
  pub kept : KeepsOpen before after
  pub short : IfOk result (λ found. IfSome found (λ m. length m.bytes ≤ MANIFEST_LIMIT))
  pub told : IfOk result (λ found. IfSome after.told (λ c. found ≡ fetch_at c repo reference))
  pub too_long : (len : ℕ) → IsErrOf result (RegFault.TooLong len) → (MANIFEST_LIMIT < len)
      × IfSome after.told (λ c. option_map (λ m. length m.bytes) (fetch_at c repo reference) ≡ Some len)

-- the content after a put under a reference that may have failed: where the registry tells its plan,
-- as planned; else as it was, or with the manifest alone, or with all of it
abbrev pub MayStand : Option Bool → RepoName → Reference → Media → ByteList → Option Content → Option Content → Type 0
MayStand (Some true) repo reference media bytes found after =
    after ≡ changed (put_under repo reference media bytes) found
MayStand (Some false) repo reference media bytes found after = after ≡ found
MayStand None repo reference media bytes found after = (after ≡ found)
    ⊎ ((after ≡ changed (manifest_alone repo reference media bytes) found)
    ⊎ (after ≡ changed (put_under repo reference media bytes) found))

-- the content after a put under a reference, by its answer
abbrev pub StandsAfter : RepoName → Reference → Media → ByteList → Reg → Reg → Result Unit RegFault → Type 0
StandsAfter repo reference media bytes before after (Ok done) =
    after.told ≡ changed (put_under repo reference media bytes) before.coming
StandsAfter repo reference media bytes before after (Err why.Failed) =
    MayStand (option_map lands_next before.plan) repo reference media bytes before.coming after.told
StandsAfter repo reference media bytes before after (Err (why.TooLong len)) = after.told ≡ before.coming
StandsAfter repo reference media bytes before after (Err why.Memory) = Moved before after
    ⊎ MayStand None repo reference media bytes before.coming after.told

-- `put_manifest`: a manifest under its digest and, where the reference is a tag, the tag that names
-- it. The labels of the tag stay
pub record PutsManifest (repo : RepoName) (reference : Reference) (media : Media) (bytes : ByteList)
    (before after : Reg) (result : Result Unit RegFault) : Type 0 where
  pub left : Leaves before after result
  pub counts : after.plan ≡ option_map went_on before.plan
  pub planned : IfSome before.plan (λ p. FailsAsPlanned (fails_next p) result)
  pub kept : KeepsOpen before after
  pub grew : Grew before after
  pub short : OnOk result (length bytes ≤ MANIFEST_LIMIT)
  pub content : StandsAfter repo reference media bytes before after result
  pub too_long : (len : ℕ) → IsErrOf result (RegFault.TooLong len)
      → (MANIFEST_LIMIT < len) × (len ≡ length bytes)

-- ---- blobs

-- `has_blob`: the length of a blob
pub record FindsBlob (repo : RepoName) (d : Digest) (before after : Reg)
    (result : Result (Option ℕ) RegFault) : Type 0 where
  pub asks : Asks before after result
  pub kept : KeepsOpen before after
  pub short : IfOk result (λ found. IfSome found (λ len. len ≤ BLOB_LIMIT))
  pub told : IfOk result (λ found. IfSome after.told (λ c. found ≡ option_map length (blob_at c repo d)))
  pub too_long : (len : ℕ) → IsErrOf result (RegFault.TooLong len)
      → (BLOB_LIMIT < len) × (after.told ≡ None)

-- the reading that is open after a look for a blob
abbrev pub opened : RepoName → Digest → Reg → Result Bool RegFault → Option Reading
opened repo d after (Ok true) = Some (option_and_then (λ c. blob_at c repo d) after.told)
opened repo d after _ = None

-- `open_blob`: one operation. It answers whether the blob is there, which is then open to be read
pub record OpensBlob (repo : RepoName) (d : Digest) (before after : Reg) (result : Result Bool RegFault)
    : Type 0 where
  pub asks : Asks before after result
  pub told : IfOk result (λ found. IfSome after.told (λ c. found ≡ is_some (blob_at c repo d)))
  pub short : IfOk result (λ found. IfSome after.told
      (λ c. IfSome (blob_at c repo d) (λ bytes. length bytes ≤ BLOB_LIMIT)))
  pub reading : after.reading ≡ opened repo d after result
  pub writing : after.writing ≡ before.writing
  pub too_long : (len : ℕ) → IsErrOf result (RegFault.TooLong len)
      → (BLOB_LIMIT < len) × (after.told ≡ None)

-- a read from an open blob, as a device that bytes come from is read
abbrev pub ReadsOpen : Option Reading → ByteList → ℕ → Option Reading → Type 0
ReadsOpen (Some before) buf count (Some after) = Reads before buf count after
ReadsOpen (Some before) buf count None = ⊥
ReadsOpen None buf count after = ⊥

-- what is open to be read after a read: an error closes it
abbrev pub GoesOnOpen : Option Reading → ByteList → Option Reading → Result ℕ RegFault → Type 0
GoesOnOpen before buf after (Ok count) = ReadsOpen before buf count after
GoesOnOpen before buf after (Err fault) = after ≡ None

-- `read_blob` into a buffer, which is then filled: no operation
pub record ReadsBlob (buf : ByteList) (before after : Reg) (result : Result ℕ RegFault) : Type 0 where
  pub left : Leaves before after result
  pub stays : Stays before after
  pub planned : IfSome before.plan (λ p. FailsAsPlanned false result)
  pub reading : GoesOnOpen before.reading buf after.reading result
  pub writing : after.writing ≡ before.writing
  pub too_long : (len : ℕ) → IsErrOf result (RegFault.TooLong len)
      → (BLOB_LIMIT < len) × (before.told ≡ None)

-- the number of the newest operation, where the registry tells it
abbrev pub newest : Reg → Option ℕ
newest reg = option_map (λ p. p.operations) reg.plan

-- the writing that a begin leaves
abbrev pub begun : RepoName → Option ℕ → Result Unit RegFault → Option Writing
begun repo operation (Ok done) =
    Some (record { repo = repo; bytes = []; broken = false; operation = operation })
begun repo operation (Err fault) = None

-- `begin_put`: one operation, whose planned fault comes at its end
pub record BeginsPut (repo : RepoName) (before after : Reg) (result : Result Unit RegFault) : Type 0 where
  pub left : Leaves before after result
  pub counts : after.plan ≡ option_map went_on before.plan
  pub planned : IfSome before.plan (λ p. FailsAsPlanned false result)
  pub found : Found before after result
  pub ever : after.ever ≡ before.ever
  pub reading : after.reading ≡ before.reading
  pub writing : after.writing ≡ begun repo (newest after) result
  pub too_long : (len : ℕ) → IsErrOf result (RegFault.TooLong len) → ⊥

-- a writing that can go on: one was begun, and no piece of it failed
abbrev pub IsOpen : Option Writing → Type 0
IsOpen (Some w) = w.broken ≡ false
IsOpen None = ⊥

-- a writing after one piece more: an error breaks it
abbrev pub with_piece : ByteList → Result Unit RegFault → Writing → Writing
with_piece piece (Ok done) w = record w { bytes = w.bytes ++ piece }
with_piece piece (Err fault) w = record w { broken = true }

-- `write_put`: no operation
pub record WritesPut (piece : ByteList) (before after : Reg) (result : Result Unit RegFault) : Type 0 where
  pub left : Leaves before after result
  pub stays : Stays before after
  pub planned : IfSome before.plan (λ p. FailsAsPlanned false result)
  pub reading : after.reading ≡ before.reading
  pub writing : after.writing ≡ option_map (with_piece piece result) before.writing
  pub too_long : (len : ℕ) → IsErrOf result (RegFault.TooLong len)
      → (BLOB_LIMIT < len) × IfSome before.writing (λ w. len ≡ length (w.bytes ++ piece))

-- a writing that may be ended under a digest: its bytes have it, and no piece of it failed
pub record IsComplete (d : Digest) (w : Writing) : Type 0 where
  pub whole : w.broken ≡ false
  pub own : Has d w.bytes

-- there is a writing, which may be ended under that digest
abbrev pub IsReady : Digest → Option Writing → Type 0
IsReady d (Some w) = IsComplete d w
IsReady d None = ⊥

-- the content after a put of a blob that may have failed: where the registry tells its plan, as
-- planned; else as it was, or with the blob
abbrev pub MayHold : Option Bool → (Content → Content) → Option Content → Option Content → Type 0
MayHold (Some true) put found after = after ≡ changed put found
MayHold (Some false) put found after = after ≡ found
MayHold None put found after = (after ≡ found) ⊎ (after ≡ changed put found)

-- the content with the blob of a writing
abbrev pub with_written : Digest → Writing → Content → Content
with_written d w c = with_blob c w.repo d w.bytes

-- the content after the end of a writing, by its answer. It acts on the content as it stands
abbrev pub HoldsAfter : Digest → Reg → Reg → Result Unit RegFault → Writing → Type 0
HoldsAfter d before after (Ok done) w = after.told ≡ changed (with_written d w) before.told
HoldsAfter d before after (Err why.Failed) w =
    MayHold (option_map (λ p. end_lands p before.writing) before.plan) (with_written d w) before.told after.told
HoldsAfter d before after (Err fault) w = MayHold None (with_written d w) before.told after.told

-- `end_put` under a digest: no operation of its own
pub record EndsPut (d : Digest) (before after : Reg) (result : Result Unit RegFault) : Type 0 where
  pub left : Leaves before after result
  pub counts : after.plan ≡ before.plan
  pub planned : IfSome before.plan (λ p. FailsAsPlanned (end_fails p before.writing) result)
  pub grew : Grew before after
  pub reading : after.reading ≡ before.reading
  pub writing : after.writing ≡ None
  pub content : IfSome before.writing (HoldsAfter d before after result)
  pub too_long : (len : ℕ) → IsErrOf result (RegFault.TooLong len) → ⊥
