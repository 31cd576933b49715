-- What the copy of one blob, from one connection to another, answers and leaves (OCI Distribution
-- 1.1, "Pulling blobs" and "Pushing blobs"). The states of the source are s0 and s1, those of the
-- destination d0 and d1.
use Rattle.std.specs.Prelude.{◌≡◌, ◌≢◌, ◌<◌, ◌≤◌, ℕ, Bool, true, false, IsTrue, length, Some, None, IfSome, option_map, Result, Ok, Err}
use Rattle.hr_base.specs.Bytes.{ByteList}
use Rattle.hr_cause.specs.Stream.{Rose}
use Rattle.hr_digest.specs.Digest.{digest_of}
use Rattle.hr_digest.specs.declared.digest.Digest.{Digest}
use Rattle.hr_name.specs.Name.{RepoName}
use Rattle.hr_adapter.specs.Calls.{CountStays, FailsAsPlanned, Found, Grew, MayHold}
use Rattle.hr_adapter.specs.Content.{Content, blob_at, with_blob}
use Rattle.hr_adapter.specs.Plan.{fails_next, lands_next, went_on}
use Rattle.hr_adapter.specs.Put.{Has}
use Rattle.hr_adapter.specs.Reg.{Reg, changed}
use Rattle.hr_adapter.specs.declared.fault.RegFault.{RegFault}
use Rattle.hr_adapter.specs.declared.fault.RegFault.TheVariants as fault
use Rattle.hr_adapter.specs.declared.registry.TheConstants.{BLOB_LIMIT}
use Rattle.hr_blob.specs.declared.outcome.Failing.{Failing}
use Rattle.hr_blob.specs.declared.outcome.NotCopied.{NotCopied}
use Rattle.hr_blob.specs.declared.outcome.NotCopied.TheVariants as why

-- ---- the error of a call

-- the answer of a call, without the counts of faults around it
abbrev pub uncounted : {T : Type 0} → Result T Failing → Result T RegFault
uncounted (Ok x) = Ok x
uncounted (Err failing) = Err failing.fault

-- a call between two states answered an error: the counts are those just before it and just after,
-- and a fault has its cause in them
pub record Blames (failing : Failing) (before after : Reg) : Type 0 where
  pub later : before.faults ≤ failing.before
  pub now : failing.after ≡ after.faults
  pub rose : failing.fault ≡ RegFault.Failed → Rose failing.before failing.after
  pub never : IsTrue before.sure → failing.fault ≡ RegFault.Failed → ⊥

-- where the registry has a plan, an error is not a fault: none is planned for such a call
abbrev pub IsUnplanned : Failing → Reg → Type 0
IsUnplanned failing before = IfSome before.plan (λ _. failing.fault ≢ RegFault.Failed)

-- an error by a length comes only above the limit, and never where the content is told
abbrev pub PassesLimit : Failing → Reg → Type 0
PassesLimit failing after = (len : ℕ) → failing.fault ≡ RegFault.TooLong len
    → (BLOB_LIMIT < len) × (after.told ≡ None)

-- an error is not one by a length
abbrev pub IsNoLength : Failing → Type 0
IsNoLength failing = (len : ℕ) → failing.fault ≢ RegFault.TooLong len

-- a source that opened a blob did not give a piece of it
pub record ReadFails (failing : Failing) (before after : Reg) : Type 0 where
  pub blames : Blames failing before after
  pub unplanned : IsUnplanned failing before
  pub too_long : PassesLimit failing after

-- a destination did not begin to write a blob, or did not take a piece of it
pub record WriteFails (failing : Failing) (before after : Reg) : Type 0 where
  pub blames : Blames failing before after
  pub unplanned : IsUnplanned failing before
  pub no_length : IsNoLength failing

-- ---- the two connections

-- what one operation with this answer left, and calls after it that are none: the counts of faults
-- and of operations
pub record Went {T : Type 0} (before after : Reg) (answer : Result T RegFault) : Type 0 where
  pub later : before.faults ≤ after.faults
  pub steady : IfSome before.plan (λ _. CountStays before.faults after.faults answer)
  pub sure : IsTrue before.sure → IsTrue after.sure × (after.faults ≡ before.faults)
  pub quiet : IsTrue before.quiet → IsTrue after.quiet
  pub counts : after.plan ≡ option_map went_on before.plan

-- what the source answered when it was asked to open the blob
abbrev pub opening : Result ℕ NotCopied → Result Bool RegFault
opening (Err why.Gone) = Ok false
opening (Err (why.Unopened failing)) = Err failing.fault
opening _ = Ok true

-- the source after a copy, by what it answered when it was asked to open the blob
pub record LeavesSource (s0 s1 : Reg) (answer : Result Bool RegFault) : Type 0 where
  pub went : Went s0 s1 answer
  pub planned : IfSome s0.plan (λ p. FailsAsPlanned (fails_next p) answer)
  pub found : Found s0 s1 answer
  pub ever : s1.ever ≡ s0.ever
  pub writing : s1.writing ≡ s0.writing

-- the destination after a copy that stored nothing, by what it answered when it was asked to begin
pub record LeavesBegun (d0 d1 : Reg) (answer : Result Unit RegFault) : Type 0 where
  pub went : Went d0 d1 answer
  pub found : Found d0 d1 answer
  pub ever : d1.ever ≡ d0.ever
  pub reading : d1.reading ≡ d0.reading

-- the destination after a copy that came to its end, by what it answered then
pub record LeavesEnded (d0 d1 : Reg) (answer : Result Unit RegFault) : Type 0 where
  pub went : Went d0 d1 answer
  pub planned : IfSome d0.plan (λ p. FailsAsPlanned (fails_next p) answer)
  pub grew : Grew d0 d1
  pub reading : d1.reading ≡ d0.reading
  pub writing : d1.writing ≡ None

-- ---- the blob

-- these are all bytes of the blob, so many: where the source tells, those that it has
pub record IsAllOf (from : RepoName) (d : Digest) (s1 : Reg) (bytes : ByteList) (len : ℕ)
    : Type 0 where
  pub told : IfSome s1.told (λ c. blob_at c from d ≡ Some bytes)
  pub long : length bytes ≡ len
  pub short : len ≤ BLOB_LIMIT

-- the content with these bytes under the digest
abbrev pub with_copy : RepoName → Digest → ByteList → Content → Content
with_copy to d bytes c = with_blob c to d bytes

-- the content of the destination after the end of a copy, by its answer: where it failed, as was
-- planned, or, where the registry has no plan, as it was found or with the blob
abbrev pub HoldsCopy : RepoName → Digest → ByteList → Reg → Reg → Result Unit RegFault → Type 0
HoldsCopy to d bytes d0 d1 (Ok done) = d1.told ≡ changed (with_copy to d bytes) d0.coming
HoldsCopy to d bytes d0 d1 (Err fault.Failed) =
    MayHold (option_map lands_next d0.plan) (with_copy to d bytes) d0.coming d1.told
HoldsCopy to d bytes d0 d1 (Err other) =
    MayHold None (with_copy to d bytes) d0.coming d1.told

-- all bytes came, with the digest and the length that was said, and the destination was asked to
-- store them, with this answer
pub record Stores (from to : RepoName) (d : Digest) (said len : ℕ) (s1 d0 d1 : Reg)
    (answer : Result Unit RegFault) : Type 0 where
  pub bytes : ByteList
  pub all : IsAllOf from d s1 bytes len
  pub own : Has d bytes
  pub as_said : len ≡ said
  pub ended : LeavesEnded d0 d1 answer
  pub content : HoldsCopy to d bytes d0 d1 answer

-- all bytes came, and have another digest
pub record HasOtherDigest (from : RepoName) (d got : Digest) (s1 : Reg) : Type 0 where
  pub bytes : ByteList
  pub len : ℕ
  pub all : IsAllOf from d s1 bytes len
  pub is : digest_of bytes ≡ got
  pub other : got ≢ d

-- all bytes came, and have the digest, and another length than was said
pub record HasOtherLength (from : RepoName) (d : Digest) (said got : ℕ) (s1 : Reg) : Type 0 where
  pub bytes : ByteList
  pub all : IsAllOf from d s1 bytes got
  pub own : Has d bytes
  pub other : got ≢ said

-- ---- the copy

-- how a copy ended, and what that left at the destination
abbrev pub Ends : RepoName → RepoName → Digest → ℕ → Reg → Reg → Reg → Reg
    → Result ℕ NotCopied → Type 0
Ends from to d said s0 s1 d0 d1 (Ok len) = Stores from to d said len s1 d0 d1 (Ok tt)
Ends from to d said s0 s1 d0 d1 (Err why.Gone) =
    (d1 ≡ d0) × IfSome s1.told (λ c. blob_at c from d ≡ None)
Ends from to d said s0 s1 d0 d1 (Err (why.Unopened failing)) =
    (d1 ≡ d0) × Blames failing s0 s1 × PassesLimit failing s1
Ends from to d said s0 s1 d0 d1 (Err (why.Unbegun failing)) =
    LeavesBegun d0 d1 (Err failing.fault) × WriteFails failing d0 d1 × (d1.writing ≡ None)
Ends from to d said s0 s1 d0 d1 (Err (why.Unread failing)) =
    LeavesBegun d0 d1 (Ok tt) × ReadFails failing s0 s1
Ends from to d said s0 s1 d0 d1 (Err (why.Unwritten failing)) =
    LeavesBegun d0 d1 (Ok tt) × WriteFails failing d0 d1
Ends from to d said s0 s1 d0 d1 (Err (why.TooLong len)) =
    LeavesBegun d0 d1 (Ok tt) × (BLOB_LIMIT < len) × (s1.told ≡ None)
Ends from to d said s0 s1 d0 d1 (Err (why.Differs got)) =
    LeavesBegun d0 d1 (Ok tt) × HasOtherDigest from d got s1
Ends from to d said s0 s1 d0 d1 (Err (why.SizeDiffers got)) =
    LeavesBegun d0 d1 (Ok tt) × HasOtherLength from d said got s1
Ends from to d said s0 s1 d0 d1 (Err (why.Unsure len failing)) =
    Stores from to d said len s1 d0 d1 (Err failing.fault) × Blames failing d0 d1
    × IsNoLength failing

-- the copy of a blob from one repository to another, under its digest and with the length that was
-- said
pub record Copies (from to : RepoName) (d : Digest) (said : ℕ) (s0 s1 d0 d1 : Reg)
    (result : Result ℕ NotCopied) : Type 0 where
  pub source : LeavesSource s0 s1 (opening result)
  pub ends : Ends from to d said s0 s1 d0 d1 result
