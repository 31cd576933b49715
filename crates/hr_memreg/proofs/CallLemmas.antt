-- Lemmas on the calls of a registry in memory, each from how its operation went.
use Rattle.std.proofs.Common.{◌≡◌, ◌≤◌, ◌<◌, ◌+◌, ◌-◌, ◌^◌, ◌⊎◌, ◌++◌, inl, inr, ℕ, Bool, true, false, min, refl, sym, ap, subst, ◌∙◌, List, [], map, Option, Some, None, take, length, IsTrue, arith}
use Rattle.std.specs.Prelude.{not, IfOk, IfSome, OnErr, OnOk, Result, Ok, Err, IsErrOf, is_some, option_map}
use Rattle.std.specs.List.Sorted.{IsStrictlySortedBy}
use Rattle.std.specs.Cmp.Lexicographic.{slice_cmp}
use Rattle.std.specs.Ordering.{nat_cmp}
use Rattle.hr_base.specs.Bytes.{ByteList, Media}
use Rattle.hr_base.specs.declared.limit.TheConstants.{MANIFEST_LIMIT}
use Rattle.hr_base.specs.declared.memory.Memory.{Memory}
use Rattle.hr_cause.specs.Stream.{Reads}
use Rattle.hr_digest.specs.declared.digest.Digest.{Digest}
use Rattle.hr_name.specs.Name.{RepoName}
use Rattle.hr_event.specs.declared.reference.Fetched.{Fetched}
use Rattle.hr_event.specs.declared.reference.Reference.{Reference}
use Rattle.hr_adapter.specs.Calls.{Asks, BeginsPut, EndsPut, FailsAsPlanned, Fetches, FindsBlob, Heads, HoldsAfter, KeepsOpen, ListsRepos, ListsTags, MayHold, MayStand, Moved, OpensBlob, PutsManifest, ReadsBlob, ReadsOpen, StandsAfter, WritesPut, opened, with_piece, with_written}
use Rattle.hr_adapter.specs.Content.{Content, blob_at, fetch_at, head_at, with_blob}
use Rattle.hr_adapter.specs.Listing.{repos_of, tags_of}
use Rattle.hr_adapter.specs.Plan.{Plan, fails_at, fails_next, lands_at, lands_next, moved_next, next_operation, went_on, will_fail, will_move}
use Rattle.hr_adapter.specs.Put.{manifest_alone, put_under}
use Rattle.hr_adapter.specs.Reg.{Reg, Row, Writing, changed, end_fails, end_lands}
use Rattle.hr_adapter.specs.declared.fault.RegFault.{RegFault}
use Rattle.hr_adapter.specs.declared.fault.RegFault.TheVariants as why
use Rattle.hr_adapter.specs.declared.listed.Tagged.{Tagged}
use Rattle.hr_adapter.specs.declared.registry.TheConstants.{BLOB_LIMIT, LIST_LIMIT}
use Rattle.hr_memreg.specs.declared.standing.Fate.{Fate}
use Rattle.hr_memreg.specs.declared.standing.Fate.TheVariants.{Done, Lost, Landed}
use Rattle.hr_memreg.specs.Answer.{GivesList, GivesManifest}
use Rattle.hr_memreg.specs.Mem.{Holds, Mem, after_fault, after_operation, seen_of}
use Rattle.hr_memreg.specs.Operation.{Begins, HasFailed, IsAsked, IsRead, IsStuck, Opens, Operates, ReadsOn, StoresBlob, StoresManifest, WritesOn}
use Rattle.hr_memreg.specs.Standing.{fate_at, fate_of}
use Rattle.hr_memreg.proofs.PlanLemmas.{fails_on, fails_to_come, is_sure, quiet_on, sure_of_parts, sure_on, sure_parts}
use Rattle.hr_memreg.proofs.SeenLemmas.{IsNoFault, Open, after_front, as_planned, asks_calm, asks_err, done_is, found_all, keeps_open, landed_is, leaves_calm, leaves_failed, lost_is, moved_all, moved_front, no_fault, no_fault_long, no_fault_memory, not_long, not_sure, open_err, with_reading}

-- ---- an operation that asks, once it began

-- what holds of a registry whose changes were made holds of one that was asked
asked_along : (P : Mem → Type 0) (m n : Mem) (done : Unit) → IsAsked m n (Ok done)
    → (fails_next m.plan ≡ false → P (after_operation m)) → P n
asked_along P m n done h k = subst P (sym h.0) (k h.1)

same_long : {T : Type 0} (k len : ℕ) (P : ℕ → Type 0) → IsErrOf {T = T} (Err (RegFault.TooLong k)) (RegFault.TooLong len)
    → P k → P len
same_long {T = T} k len P is h = let same : k ≡ len = cc in subst P same h

-- ---- lists

pub repos_err : (m n : Mem) (fault : RegFault) → IsAsked m n (Err fault) → ListsRepos (seen_of m) (seen_of n) (Err fault)
repos_err m n fault h = record {
  asks = asks_err m n m.reading fault h;
  kept = keeps_open m n (open_err m n m.reading fault h);
  short = tt;
  ordered = tt;
  told = tt;
  too_long = λ len is. absurd (not_long {T = List RepoName} m n fault h len is);
}

repos_of_all : (m : Mem) (result : Result (List RepoName) RegFault) → fails_next m.plan ≡ false
    → GivesList (repos_of (moved_next m.plan m.content)) result
    → IsStrictlySortedBy (slice_cmp nat_cmp) (repos_of (moved_next m.plan m.content))
    → ListsRepos (seen_of m) (seen_of (after_operation m)) result
repos_of_all m (Ok names) fails h sorted = record {
  asks = asks_calm m m.reading (Ok names) fails (no_fault names);
  kept = record { reading = refl; writing = refl };
  short = h.1;
  ordered = subst (λ (l : List RepoName). IsStrictlySortedBy (slice_cmp nat_cmp) l) (sym h.0) sorted;
  told = h.0;
  too_long = λ len is. cc is;
}
repos_of_all m (Err why.Failed) fails h sorted = absurd h
repos_of_all m (Err (why.TooLong k)) fails h sorted = record {
  asks = asks_calm m m.reading (Err (RegFault.TooLong k)) fails (no_fault_long {T = List RepoName} k);
  kept = record { reading = refl; writing = refl };
  short = tt;
  ordered = tt;
  told = tt;
  too_long = λ len is. same_long {T = List RepoName} k len
      (λ l. (LIST_LIMIT < l) × (length (repos_of (moved_next m.plan m.content)) ≡ l)) is h;
}
repos_of_all m (Err why.Memory) fails h sorted = record {
  asks = asks_calm m m.reading (Err RegFault.Memory) fails (no_fault_memory {T = List RepoName});
  kept = record { reading = refl; writing = refl };
  short = tt;
  ordered = tt;
  told = tt;
  too_long = λ len is. cc is;
}

pub repos_by : (m n : Mem) (done : Unit) (result : Result (List RepoName) RegFault) → IsAsked m n (Ok done)
    → GivesList (repos_of n.content) result → IsStrictlySortedBy (slice_cmp nat_cmp) (repos_of n.content)
    → ListsRepos (seen_of m) (seen_of n) result
repos_by m n done result h =
    asked_along (λ x. GivesList (repos_of x.content) result → IsStrictlySortedBy (slice_cmp nat_cmp) (repos_of x.content)
    → ListsRepos (seen_of m) (seen_of x) result) m n done h (λ fails. repos_of_all m result fails)

pub tags_err : (repo : RepoName) (m n : Mem) (fault : RegFault) → IsAsked m n (Err fault)
    → ListsTags repo (seen_of m) (seen_of n) (Err fault)
tags_err repo m n fault h = record {
  asks = asks_err m n m.reading fault h;
  kept = keeps_open m n (open_err m n m.reading fault h);
  short = tt;
  ordered = tt;
  told = tt;
  too_long = λ len is. absurd (not_long {T = List Tagged} m n fault h len is);
}

tags_of_all : (repo : RepoName) (m : Mem) (result : Result (List Tagged) RegFault) → fails_next m.plan ≡ false
    → GivesList (tags_of (moved_next m.plan m.content) repo) result
    → IsStrictlySortedBy (slice_cmp nat_cmp) (map (λ t. t.tag) (tags_of (moved_next m.plan m.content) repo))
    → ListsTags repo (seen_of m) (seen_of (after_operation m)) result
tags_of_all repo m (Ok tags) fails h sorted = record {
  asks = asks_calm m m.reading (Ok tags) fails (no_fault tags);
  kept = record { reading = refl; writing = refl };
  short = h.1;
  ordered = subst (λ (l : List Tagged). IsStrictlySortedBy (slice_cmp nat_cmp) (map (λ t. t.tag) l)) (sym h.0) sorted;
  told = h.0;
  too_long = λ len is. cc is;
}
tags_of_all repo m (Err why.Failed) fails h sorted = absurd h
tags_of_all repo m (Err (why.TooLong k)) fails h sorted = record {
  asks = asks_calm m m.reading (Err (RegFault.TooLong k)) fails (no_fault_long {T = List Tagged} k);
  kept = record { reading = refl; writing = refl };
  short = tt;
  ordered = tt;
  told = tt;
  too_long = λ len is. same_long {T = List Tagged} k len
      (λ l. (LIST_LIMIT < l) × (length (tags_of (moved_next m.plan m.content) repo) ≡ l)) is h;
}
tags_of_all repo m (Err why.Memory) fails h sorted = record {
  asks = asks_calm m m.reading (Err RegFault.Memory) fails (no_fault_memory {T = List Tagged});
  kept = record { reading = refl; writing = refl };
  short = tt;
  ordered = tt;
  told = tt;
  too_long = λ len is. cc is;
}

pub tags_by : (repo : RepoName) (m n : Mem) (done : Unit) (result : Result (List Tagged) RegFault) → IsAsked m n (Ok done)
    → GivesList (tags_of n.content repo) result
    → IsStrictlySortedBy (slice_cmp nat_cmp) (map (λ t. t.tag) (tags_of n.content repo))
    → ListsTags repo (seen_of m) (seen_of n) result
tags_by repo m n done result h =
    asked_along (λ x. GivesList (tags_of x.content repo) result
    → IsStrictlySortedBy (slice_cmp nat_cmp) (map (λ t. t.tag) (tags_of x.content repo))
    → ListsTags repo (seen_of m) (seen_of x) result) m n done h (λ fails. tags_of_all repo m result fails)

-- ---- manifests

pub heads_err : (repo : RepoName) (reference : Reference) (m n : Mem) (fault : RegFault) → IsAsked m n (Err fault)
    → Heads repo reference (seen_of m) (seen_of n) (Err fault)
heads_err repo reference m n fault h = record {
  asks = asks_err m n m.reading fault h;
  kept = keeps_open m n (open_err m n m.reading fault h);
  told = tt;
  too_long = λ len is. absurd (not_long {T = Option Digest} m n fault h len is);
}

pub heads_by : (repo : RepoName) (reference : Reference) (m n : Mem) (done : Unit) (found : Option Digest)
    → IsAsked m n (Ok done) → found ≡ head_at n.content repo reference
    → Heads repo reference (seen_of m) (seen_of n) (Ok found)
heads_by repo reference m n done found h =
    asked_along (λ x. found ≡ head_at x.content repo reference → Heads repo reference (seen_of m) (seen_of x) (Ok
    found)) m n done h
    (λ fails is. record {
      asks = asks_calm m m.reading (Ok found) fails (no_fault found);
      kept = record { reading = refl; writing = refl };
      told = is;
      too_long = λ len is. cc is;
    })

pub fetches_err : (repo : RepoName) (reference : Reference) (m n : Mem) (fault : RegFault) → IsAsked m n (Err fault)
    → Fetches repo reference (seen_of m) (seen_of n) (Err fault)
fetches_err repo reference m n fault h = record {
  asks = asks_err m n m.reading fault h;
  kept = keeps_open m n (open_err m n m.reading fault h);
  short = tt;
  told = tt;
  too_long = λ len is. absurd (not_long {T = Option Fetched} m n fault h len is);
}

fetches_all : (repo : RepoName) (reference : Reference) (m : Mem) (result : Result (Option Fetched) RegFault)
    → fails_next m.plan ≡ false → GivesManifest (fetch_at (moved_next m.plan m.content) repo reference) result
    → Fetches repo reference (seen_of m) (seen_of (after_operation m)) result
fetches_all repo reference m (Ok found) fails h = record {
  asks = asks_calm m m.reading (Ok found) fails (no_fault found);
  kept = record { reading = refl; writing = refl };
  short = h.1;
  told = h.0;
  too_long = λ len is. cc is;
}
fetches_all repo reference m (Err why.Failed) fails h = absurd h
fetches_all repo reference m (Err (why.TooLong k)) fails h = record {
  asks = asks_calm m m.reading (Err (RegFault.TooLong k)) fails (no_fault_long {T = Option Fetched} k);
  kept = record { reading = refl; writing = refl };
  short = tt;
  told = tt;
  too_long = λ len is. same_long {T = Option Fetched} k len
      (λ l. (MANIFEST_LIMIT < l)
      × (option_map (λ (x : Fetched). length x.bytes) (fetch_at (moved_next m.plan m.content) repo reference) ≡ Some l)) is h;
}
fetches_all repo reference m (Err why.Memory) fails h = record {
  asks = asks_calm m m.reading (Err RegFault.Memory) fails (no_fault_memory {T = Option Fetched});
  kept = record { reading = refl; writing = refl };
  short = tt;
  told = tt;
  too_long = λ len is. cc is;
}

pub fetches_by : (repo : RepoName) (reference : Reference) (m n : Mem) (done : Unit) (result : Result (Option Fetched) RegFault)
    → IsAsked m n (Ok done) → GivesManifest (fetch_at n.content repo reference) result
    → Fetches repo reference (seen_of m) (seen_of n) result
fetches_by repo reference m n done result h =
    asked_along (λ x. GivesManifest (fetch_at x.content repo reference) result
    → Fetches repo reference (seen_of m) (seen_of x) result) m n done h (λ fails. fetches_all repo reference m result fails)

-- ---- blobs that are read

pub finds_err : (repo : RepoName) (d : Digest) (m n : Mem) (fault : RegFault) → IsAsked m n (Err fault)
    → FindsBlob repo d (seen_of m) (seen_of n) (Err fault)
finds_err repo d m n fault h = record {
  asks = asks_err m n m.reading fault h;
  kept = keeps_open m n (open_err m n m.reading fault h);
  short = tt;
  told = tt;
  too_long = λ len is. absurd (not_long {T = Option ℕ} m n fault h len is);
}

pub finds_by : (repo : RepoName) (d : Digest) (m n : Mem) (done : Unit) (found : Option ℕ)
    → IsAsked m n (Ok done) → found ≡ option_map length (blob_at n.content repo d) → IfSome found (λ len. len ≤ BLOB_LIMIT)
    → FindsBlob repo d (seen_of m) (seen_of n) (Ok found)
finds_by repo d m n done found h =
    asked_along (λ x. found ≡ option_map length (blob_at x.content repo d) → IfSome found (λ len. len ≤ BLOB_LIMIT)
    → FindsBlob repo d (seen_of m) (seen_of x) (Ok found)) m n done h
    (λ fails is small. record {
      asks = asks_calm m m.reading (Ok found) fails (no_fault found);
      kept = record { reading = refl; writing = refl };
      short = small;
      told = is;
      too_long = λ len is. cc is;
    })

-- an operation that was asked of a registry whose reading was closed first
abbrev IsAskedClosed : Mem → Mem → Mem → Result Unit RegFault → Type 0
IsAskedClosed m c n result = (c ≡ with_reading None m) × IsAsked c n result

closed : (m c n : Mem) (result : Result Unit RegFault) → IsAskedClosed m c n result → IsAsked (with_reading None m) n result
closed m c n result h = subst (λ (x : Mem). IsAsked x n result) h.0 h.1

opens_err_closed : (repo : RepoName) (d : Digest) (m n : Mem) (fault : RegFault) → IsAsked (with_reading None m) n (Err fault)
    → OpensBlob repo d (seen_of m) (seen_of n) (Err fault)
opens_err_closed repo d m n fault h = record {
  asks = asks_err m n None fault h;
  told = tt;
  short = tt;
  reading = ap (option_map Some) (open_err m n None fault h).0;
  writing = (open_err m n None fault h).1;
  too_long = λ len is. absurd (not_long {T = Bool} (with_reading None m) n fault h len is);
}

pub opens_err : (repo : RepoName) (d : Digest) (m c n : Mem) (fault : RegFault) → c ≡ with_reading None m → IsAsked c n (Err fault)
    → OpensBlob repo d (seen_of m) (seen_of n) (Err fault)
opens_err repo d m c n fault is h = opens_err_closed repo d m n fault (closed m c n (Err fault) (is, h))

opened_is : (repo : RepoName) (d : Digest) (m : Mem) (found : Bool) (there : Option ByteList) → found ≡ is_some there
    → blob_at (moved_next m.plan m.content) repo d ≡ there
    → option_map Some there ≡ opened repo d (seen_of (record (after_operation m) { reading = there })) (Ok found)
opened_is repo d m true (Some bytes) is at = ap Some (sym at)
opened_is repo d m false (Some bytes) is at = cc
opened_is repo d m true None is at = cc
opened_is repo d m false None is at = refl

pub opens_by : (repo : RepoName) (d : Digest) (m c n k : Mem) (done : Unit) (found : Bool)
    → c ≡ with_reading None m → IsAsked c n (Ok done) → Opens repo d n k (Ok found)
    → OpensBlob repo d (seen_of m) (seen_of k) (Ok found)
opens_by repo d m c n k done found same asked =
    let h = closed m c n (Ok done) (same, asked) in
    asked_along (λ x. Opens repo d x k (Ok found) → OpensBlob repo d (seen_of m) (seen_of k) (Ok found))
    (with_reading None m) n done h
    (λ fails opens. subst (λ (y : Mem). OpensBlob repo d (seen_of m) (seen_of y) (Ok found)) (sym opens.0)
    (record {
      asks = asks_calm m (blob_at (moved_next m.plan m.content) repo d) (Ok found) fails (no_fault found);
      told = opens.1;
      short = opens.2;
      reading = opened_is repo d m found (blob_at (moved_next m.plan m.content) repo d) opens.1 refl;
      writing = refl;
      too_long = λ len is. cc is;
    }))

pub opens_memory : (repo : RepoName) (d : Digest) (m c n k : Mem) (done : Unit) (memory : Memory)
    → c ≡ with_reading None m → IsAsked c n (Ok done) → Opens repo d n k (Err memory)
    → OpensBlob repo d (seen_of m) (seen_of k) (Err RegFault.Memory)
opens_memory repo d m c n k done memory same asked =
    let h = closed m c n (Ok done) (same, asked) in
    asked_along (λ x. Opens repo d x k (Err memory) → OpensBlob repo d (seen_of m) (seen_of k) (Err RegFault.Memory))
    (with_reading None m) n done h
    (λ fails opens. subst (λ (y : Mem). OpensBlob repo d (seen_of m) (seen_of y) (Err RegFault.Memory)) (sym opens)
    (record {
      asks = asks_calm m None (Err RegFault.Memory) fails (no_fault_memory {T = Bool});
      told = tt;
      short = tt;
      reading = refl;
      writing = refl;
      too_long = λ len is. cc is;
    }))

read_along : (buf : ByteList) (count : ℕ) (before after : Option ByteList) → IsRead before buf count after
    → ReadsOpen (option_map Some before) buf count (option_map Some after)
read_along buf count (Some before) (Some after) h = h
read_along buf count (Some before) None h = h
read_along buf count None after h = h

pub reads_by : (buf : ByteList) (count : ℕ) (m n : Mem) → ReadsOn buf count m n
    → ReadsBlob buf (seen_of m) (seen_of n) (Ok count)
reads_by buf count m n h =
    subst (λ (x : Mem). ReadsBlob buf (seen_of m) (seen_of x) (Ok count)) (sym h.0)
    (record {
      left = leaves_calm m (record m { reading = n.reading }) (Ok count) refl (no_fault count) (λ s. s) (λ q. q);
      stays = record { told = refl; coming = refl; ever = refl; plan = refl };
      planned = refl;
      reading = read_along buf count m.reading n.reading h.1;
      writing = refl;
      too_long = λ len is. cc is;
    })
