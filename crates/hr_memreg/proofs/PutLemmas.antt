-- Lemmas on the puts of a registry in memory, each from how its operation went.
use Rattle.std.proofs.Common.{◌≡◌, ◌≤◌, ◌<◌, ◌+◌, ◌-◌, ◌^◌, ◌⊎◌, ◌++◌, inl, inr, ℕ, Bool, true, false, min, refl, sym, ap, subst, ◌∙◌, List, [], Option, Some, None, take, length, IsTrue, arith}
use Rattle.std.proofs.Math.Seq.{take-length}
use Rattle.std.specs.Prelude.{not, IfSome, OnErr, OnOk, Result, Ok, Err, IsErrOf, option_map}
use Rattle.hr_base.specs.Bytes.{ByteList, Media}
use Rattle.hr_base.specs.declared.limit.TheConstants.{MANIFEST_LIMIT}
use Rattle.hr_base.specs.declared.memory.Memory.{Memory}
use Rattle.hr_digest.specs.declared.digest.Digest.{Digest}
use Rattle.hr_name.specs.Name.{RepoName}
use Rattle.hr_event.specs.declared.reference.Reference.{Reference}
use Rattle.hr_adapter.specs.Calls.{BeginsPut, EndsPut, FailsAsPlanned, Found, HoldsAfter, MayHold, MayStand, PutsManifest, StandsAfter, WritesPut, begun, newest, with_piece, with_written}
use Rattle.hr_adapter.specs.Content.{Content, with_blob}
use Rattle.hr_adapter.specs.Plan.{Plan, fails_at, fails_next, lands_at, lands_next, moved_next, next_operation, went_on, will_fail, will_move}
use Rattle.hr_adapter.specs.Put.{manifest_alone, put_under}
use Rattle.hr_adapter.specs.Reg.{Reg, Row, Writing, changed, end_fails, end_lands}
use Rattle.hr_adapter.specs.declared.fault.RegFault.{RegFault}
use Rattle.hr_adapter.specs.declared.fault.RegFault.TheVariants as why
use Rattle.hr_memreg.specs.declared.standing.Fate.{Fate}
use Rattle.hr_memreg.specs.declared.standing.Fate.TheVariants.{Done, Lost, Landed}
use Rattle.hr_memreg.specs.Mem.{Holds, Mem, after_fault, after_operation, seen_of}
use Rattle.hr_memreg.specs.Operation.{Begins, HasFailed, IsStuck, Operates, StoresBlob, StoresManifest, WritesOn}
use Rattle.hr_memreg.specs.Standing.{fate_at}
use Rattle.hr_memreg.proofs.PlanLemmas.{fails_on, fails_to_come, is_sure, quiet_on, sure_of_parts, sure_on, sure_parts}
use Rattle.hr_memreg.proofs.SeenLemmas.{IsNoFault, after_front, as_planned, done_is, found_all, landed_is, leaves_calm, leaves_failed, lost_is, moved_all, moved_front, no_fault, no_fault_long, no_fault_memory, not_sure}

-- ---- manifests

-- a registry after an operation that came to hold a content, with rows that it ever showed
abbrev put_to : Mem → Content → List Row → Mem
put_to m c rows = record (after_operation m) { content = c; ever = rows }

abbrev Puts : RepoName → Reference → Media → ByteList → Mem → Mem → Result Unit RegFault → Type 0
Puts repo reference media bytes m n result = PutsManifest repo reference media bytes (seen_of m) (seen_of n) result

abbrev Stands : RepoName → Reference → Media → ByteList → Mem → Mem → Result Unit RegFault → Type 0
Stands repo reference media bytes m n result = StandsAfter repo reference media bytes (seen_of m) (seen_of n) result

puts_calm : (repo : RepoName) (reference : Reference) (media : Media) (bytes : ByteList) (m : Mem) (c : Content) (rows : List Row)
    (result : Result Unit RegFault) → IsNoFault result → FailsAsPlanned (fails_next m.plan) result
    → take (length m.ever) rows ≡ m.ever → OnOk result (length bytes ≤ MANIFEST_LIMIT)
    → Stands repo reference media bytes m (put_to m c rows) result
    → ((len : ℕ) → IsErrOf result (RegFault.TooLong len) → (MANIFEST_LIMIT < len) × (len ≡ length bytes))
    → Puts repo reference media bytes m (put_to m c rows) result
puts_calm repo reference media bytes m c rows result none planned grew short stands long = record {
  left = leaves_calm m (put_to m c rows) result refl none (sure_on m.plan m.writing) (quiet_on m.plan);
  counts = refl;
  planned = planned;
  kept = record { reading = refl; writing = refl };
  grew = grew;
  short = short;
  content = stands;
  too_long = long;
}

puts_failed : (repo : RepoName) (reference : Reference) (media : Media) (bytes : ByteList) (m : Mem) (c : Content) (rows : List Row)
    → fails_next m.plan ≡ true → m.faults ≤ min (m.faults + 1) (2 ^ 64 - 1) → take (length m.ever) rows ≡ m.ever
    → MayStand (Some (lands_next m.plan)) repo reference media bytes (Some (moved_next m.plan m.content)) (Some c)
    → Puts repo reference media bytes m (after_fault (put_to m c rows)) (Err RegFault.Failed)
puts_failed repo reference media bytes m c rows fails later grew stands = record {
  left = leaves_failed m (after_fault (put_to m c rows)) refl later (not_sure m.plan m.writing fails) (quiet_on m.plan);
  counts = refl;
  planned = fails;
  kept = record { reading = refl; writing = refl };
  grew = grew;
  short = tt;
  content = stands;
  too_long = λ len is. cc is;
}

-- an operation whose fate is known
pub fated : (m n : Mem) (fate to : Fate) → fate ≡ to → Operates m n (Ok fate) → Operates m n (Ok to)
fated m n fate to is h = subst (λ (x : Fate). Operates m n (Ok x)) is h

-- rows that are all those of before
all_taken : (rows : List Row) → take (length rows) rows ≡ rows
all_taken rows = take-length rows

-- without memory for the changes
pub puts_stuck : (repo : RepoName) (reference : Reference) (media : Media) (bytes : ByteList) (m n : Mem) (memory : Memory)
    → Operates m n (Err memory) → Puts repo reference media bytes m n (Err RegFault.Memory)
puts_stuck repo reference media bytes m n memory h =
    subst (λ (x : Mem). Puts repo reference media bytes m x (Err RegFault.Memory)) (sym h.1)
    (record {
      left = leaves_calm m (after_front h.0 m) (Err RegFault.Memory) refl (no_fault_memory {T = Unit}) (sure_on
          m.plan m.writing) (quiet_on m.plan);
      counts = refl;
      planned = tt;
      kept = record { reading = refl; writing = refl };
      grew = all_taken m.ever;
      short = tt;
      content = inl (moved_front m h.0 m.reading m.writing);
      too_long = λ len is. cc is;
    })

-- a manifest that is too long
pub puts_long : (repo : RepoName) (reference : Reference) (media : Media) (bytes : ByteList) (m n : Mem) (len : ℕ)
    → Operates m n (Ok Done) → len ≡ length bytes → MANIFEST_LIMIT < len
    → Puts repo reference media bytes m n (Err (RegFault.TooLong len))
puts_long repo reference media bytes m n len h is long =
    subst (λ (x : Mem). Puts repo reference media bytes m x (Err (RegFault.TooLong len))) (sym h.0)
    (puts_calm repo reference media bytes m (moved_next m.plan m.content) m.ever (Err (RegFault.TooLong len))
    (no_fault_long {T = Unit} len)
    (done_is (fails_next m.plan) (lands_next m.plan) (sym h.1))
    (all_taken m.ever) tt refl
    (λ k same. let e : len ≡ k = cc in
    subst (λ (l : ℕ). (MANIFEST_LIMIT < l) × (l ≡ length bytes)) e (long, is)))

-- a put that takes effect
pub puts_done : (repo : RepoName) (reference : Reference) (media : Media) (bytes : ByteList) (m n k : Mem) (done : Unit)
    → Operates m n (Ok Done) → length bytes ≤ MANIFEST_LIMIT
    → StoresManifest repo reference media bytes n k (Ok done) → Puts repo reference media bytes m k (Ok done)
puts_done repo reference media bytes m n k done h short =
    subst (λ (x : Mem). StoresManifest repo reference media bytes x k (Ok done) → Puts repo reference media bytes m
    k (Ok done)) (sym h.0)
    (λ stored. subst (λ (y : Mem). Puts repo reference media bytes m y (Ok done)) (sym stored.0)
    (puts_calm repo reference media bytes m (put_under repo reference media bytes (moved_next m.plan m.content)) k.ever (Ok done)
    (no_fault done) (done_is (fails_next m.plan) (lands_next m.plan) (sym h.1)) stored.1 short refl (λ len is. cc is)))

memory_stands : (repo : RepoName) (reference : Reference) (media : Media) (bytes : ByteList) (m k : Mem)
    → Holds (moved_next m.plan m.content) (after_operation m) k
    ⊎ Holds (manifest_alone repo reference media bytes (moved_next m.plan m.content)) (after_operation m) k
    → Puts repo reference media bytes m k (Err RegFault.Memory)
memory_stands repo reference media bytes m k (inl stored) =
    subst (λ (y : Mem). Puts repo reference media bytes m y (Err RegFault.Memory)) (sym stored.0)
    (puts_calm repo reference media bytes m (moved_next m.plan m.content) k.ever (Err RegFault.Memory)
    (no_fault_memory {T = Unit}) tt stored.1 tt (inr (inl refl)) (λ len is. cc is))
memory_stands repo reference media bytes m k (inr stored) =
    subst (λ (y : Mem). Puts repo reference media bytes m y (Err RegFault.Memory)) (sym stored.0)
    (puts_calm repo reference media bytes m (manifest_alone repo reference media bytes (moved_next m.plan
    m.content)) k.ever (Err RegFault.Memory)
    (no_fault_memory {T = Unit}) tt stored.1 tt (inr (inr (inl refl))) (λ len is. cc is))

-- a put without memory for it
pub puts_memory : (repo : RepoName) (reference : Reference) (media : Media) (bytes : ByteList) (m n k : Mem) (memory : Memory)
    → n ≡ after_operation m
    → StoresManifest repo reference media bytes n k (Err memory) → Puts repo reference media bytes m k (Err RegFault.Memory)
puts_memory repo reference media bytes m n k memory h =
    subst (λ (x : Mem). StoresManifest repo reference media bytes x k (Err memory) → Puts repo reference media bytes
    m k (Err RegFault.Memory)) (sym h)
    (memory_stands repo reference media bytes m k)

-- a put that fails and takes no effect
pub puts_lost : (repo : RepoName) (reference : Reference) (media : Media) (bytes : ByteList) (m n k : Mem)
    → Operates m n (Ok Lost) → HasFailed n k → Puts repo reference media bytes m k (Err RegFault.Failed)
puts_lost repo reference media bytes m n k h =
    let fate = lost_is (fails_next m.plan) (lands_next m.plan) (sym h.1) in
    subst (λ (x : Mem). HasFailed x k → Puts repo reference media bytes m k (Err RegFault.Failed)) (sym h.0)
    (λ failed. subst (λ (y : Mem). Puts repo reference media bytes m y (Err RegFault.Failed)) (sym failed.0)
    (puts_failed repo reference media bytes m (moved_next m.plan m.content) m.ever fate.0
    (subst (λ (y : Mem). m.faults ≤ y.faults) failed.0 failed.1) (all_taken m.ever)
    (subst (λ (b : Bool). MayStand (Some b) repo reference media bytes (Some (moved_next m.plan m.content)) (Some
    (moved_next m.plan m.content)))
    (sym fate.1) refl)))

-- a put that fails and takes effect all the same
pub puts_landed : (repo : RepoName) (reference : Reference) (media : Media) (bytes : ByteList) (m n k l : Mem) (done : Unit)
    → Operates m n (Ok Landed) → StoresManifest repo reference media bytes n k (Ok done) → HasFailed k l
    → Puts repo reference media bytes m l (Err RegFault.Failed)
puts_landed repo reference media bytes m n k l done h =
    let fate = landed_is (fails_next m.plan) (lands_next m.plan) (sym h.1) in
    let to = put_under repo reference media bytes (moved_next m.plan m.content) in
    subst (λ (x : Mem). StoresManifest repo reference media bytes x k (Ok done) → HasFailed k l
    → Puts repo reference media bytes m l (Err RegFault.Failed)) (sym h.0)
    (λ stored failed. subst (λ (y : Mem). Puts repo reference media bytes m y (Err RegFault.Failed))
    (sym (failed.0 ∙ ap after_fault stored.0))
    (puts_failed repo reference media bytes m to k.ever fate.0
    (subst (λ (y : Mem). m.faults ≤ y.faults) (failed.0 ∙ ap after_fault stored.0)
    (subst (λ (y : Mem). y.faults ≤ l.faults) stored.0 failed.1))
    stored.1
    (subst (λ (b : Bool). MayStand (Some b) repo reference media bytes (Some (moved_next m.plan m.content)) (Some
    to)) (sym fate.1) refl)))

-- ---- blobs that are written

-- a registry whose writing is another
abbrev pub with_writing : Option Writing → Mem → Mem
with_writing w m = record m { writing = w }

sure_begun : (p : Plan) (w : Option Writing) (repo : RepoName) → IsTrue (is_sure p w)
    → IsTrue (is_sure (went_on p) (Some (record {
      repo = repo;
      bytes = [];
      broken = false;
      operation = Some
          (next_operation p);
    })))
sure_begun p w repo h =
    let parts = sure_parts p w h in
    sure_of_parts (went_on p) (Some (record { repo = repo; bytes = []; broken = false; operation = Some (next_operation p) }))
    (fails_on p parts.0) (fails_to_come p parts.0)

sure_none : (p : Plan) (w : Option Writing) → IsTrue (is_sure p w) → IsTrue (is_sure (went_on p) None)
sure_none p w h = sure_of_parts (went_on p) None (fails_on p (sure_parts p w h).0) refl

sure_ended : (p : Plan) (w : Option Writing) → IsTrue (is_sure p w) → IsTrue (is_sure p None)
sure_ended p w h = sure_of_parts p None (sure_parts p w h).0 refl

dropped : (m c n : Mem) (result : Result Fate Memory) → c ≡ with_writing None m → Operates c n result
    → Operates (with_writing None m) n result
dropped m c n result same h = subst (λ (x : Mem). Operates x n result) same h

pub begins_stuck : (repo : RepoName) (m c n : Mem) (memory : Memory) → c ≡ with_writing None m → Operates c n (Err memory)
    → BeginsPut repo (seen_of m) (seen_of n) (Err RegFault.Memory)
begins_stuck repo m c n memory same began =
    let h = dropped m c n (Err memory) same began in
    subst (λ (x : Mem). BeginsPut repo (seen_of m) (seen_of x) (Err RegFault.Memory)) (sym h.1)
    (record {
      left = leaves_calm m (with_writing None (after_front h.0 m)) (Err RegFault.Memory) refl (no_fault_memory {T = Unit})
          (sure_none m.plan m.writing) (quiet_on m.plan);
      counts = refl;
      planned = tt;
      found = moved_front m h.0 m.reading None;
      ever = refl;
      reading = refl;
      writing = refl;
      too_long = λ len is. cc is;
    })

abbrev begun_to : RepoName → Mem → Mem
begun_to repo m = record (after_operation m) {
  writing = Some (record { repo = repo; bytes = []; broken = false; operation = Some (next_operation m.plan) });
}

pub begins_done : (repo : RepoName) (m c n k : Mem) (fate : Fate) (done : Unit) → c ≡ with_writing None m
    → Operates c n (Ok fate) → Begins repo n k (Ok done) → BeginsPut repo (seen_of m) (seen_of k) (Ok done)
begins_done repo m c n k fate done same began =
    let h = dropped m c n (Ok fate) same began in
    subst (λ (x : Mem). Begins repo x k (Ok done) → BeginsPut repo (seen_of m) (seen_of k) (Ok done)) (sym h.0)
    (λ begins. subst (λ (y : Mem). BeginsPut repo (seen_of m) (seen_of y) (Ok done)) (sym begins)
    (record {
      left = leaves_calm m (begun_to repo m) (Ok done) refl (no_fault done) (sure_begun m.plan m.writing repo) (quiet_on m.plan);
      counts = refl;
      planned = refl;
      found = refl;
      ever = refl;
      reading = refl;
      writing = refl;
      too_long = λ len is. cc is;
    }))

pub begins_memory : (repo : RepoName) (m c n k : Mem) (fate : Fate) (memory : Memory) → c ≡ with_writing None m
    → Operates c n (Ok fate) → Begins repo n k (Err memory) → BeginsPut repo (seen_of m) (seen_of k) (Err RegFault.Memory)
begins_memory repo m c n k fate memory same began begins =
    let h = dropped m c n (Ok fate) same began in
    subst (λ (y : Mem). BeginsPut repo (seen_of m) (seen_of y) (Err RegFault.Memory)) (sym (begins ∙ h.0))
    (record {
      left = leaves_calm m (with_writing None (after_operation m)) (Err RegFault.Memory) refl (no_fault_memory {T = Unit})
          (sure_none m.plan m.writing) (quiet_on m.plan);
      counts = refl;
      planned = tt;
      found = moved_all m m.reading None;
      ever = refl;
      reading = refl;
      writing = refl;
      too_long = λ len is. cc is;
    })

piece_fails : (p : Plan) (piece : ByteList) (result : Result Unit RegFault) (w : Option Writing)
    → end_fails p (option_map (with_piece piece result) w) ≡ end_fails p w
piece_fails p piece (Ok done) (Some w) = refl
piece_fails p piece (Ok done) None = refl
piece_fails p piece (Err fault) (Some w) = refl
piece_fails p piece (Err fault) None = refl

piece_sure : (p : Plan) (piece : ByteList) (result : Result Unit RegFault) (w : Option Writing) → IsTrue (is_sure p w)
    → IsTrue (is_sure p (option_map (with_piece piece result) w))
piece_sure p piece result w h =
    let parts = sure_parts p w h in
    sure_of_parts p (option_map (with_piece piece result) w) parts.0 (piece_fails p piece result w ∙ parts.1)

memory_no_fault : (fault : RegFault) → IsErrOf {T = Unit} (Err fault) RegFault.Memory → IsNoFault {T = Unit} (Err fault)
memory_no_fault fault only is = cc

memory_not_long : (fault : RegFault) → IsErrOf {T = Unit} (Err fault) RegFault.Memory → (len : ℕ)
    → IsErrOf {T = Unit} (Err fault) (RegFault.TooLong len) → ⊥
memory_not_long fault only len is = cc

writes_all : (piece : ByteList) (m : Mem) (result : Result Unit RegFault) → OnErr result (result ≡ Err RegFault.Memory)
    → WritesPut piece (seen_of m) (seen_of (with_writing (option_map (with_piece piece result) m.writing) m)) result
writes_all piece m (Ok done) only = record {
  left = leaves_calm m (with_writing (option_map (with_piece piece (Ok done)) m.writing) m) (Ok done) refl (no_fault done)
      (piece_sure m.plan piece (Ok done) m.writing) (λ q. q);
  stays = record { told = refl; coming = refl; ever = refl; plan = refl };
  planned = refl;
  reading = refl;
  writing = refl;
  too_long = λ len is. cc is;
}
writes_all piece m (Err fault) only = record {
  left = leaves_calm m (with_writing (option_map (with_piece piece (Err fault)) m.writing) m) (Err fault) refl
      (memory_no_fault fault only)
      (piece_sure m.plan piece (Err fault) m.writing) (λ q. q);
  stays = record { told = refl; coming = refl; ever = refl; plan = refl };
  planned = as_planned false (Err fault) refl (memory_no_fault fault only);
  reading = refl;
  writing = refl;
  too_long = λ len is. absurd (memory_not_long fault only len is);
}

pub writes_by : (piece : ByteList) (m n : Mem) (result : Result Unit RegFault) → WritesOn piece m n result
    → WritesPut piece (seen_of m) (seen_of n) result
writes_by piece m n result h =
    subst (λ (x : Mem). WritesPut piece (seen_of m) (seen_of x) result) (sym h.0) (writes_all piece m result h.1)

-- ---- the end of a writing

abbrev Ends : Digest → Mem → Mem → Result Unit RegFault → Type 0
Ends d m n result = EndsPut d (seen_of m) (seen_of n) result

-- a registry without a writing that came to hold a content, with rows that it ever showed
abbrev ended_to : Mem → Content → List Row → Mem
ended_to m c rows = record m { content = c; ever = rows; writing = None }

-- a writing of this number
abbrev IsWriting : Mem → Writing → ℕ → Type 0
IsWriting m w number = (m.writing ≡ Some w) × (w.operation ≡ Some number)

fails_by : (m : Mem) (w : Writing) (number : ℕ) → IsWriting m w number → end_fails m.plan m.writing ≡ fails_at number m.plan.failing
fails_by m w number h = ap (end_fails m.plan) h.0 ∙ ap (λ (o : Option ℕ). end_fails m.plan (Some (record w { operation = o }))) h.1

lands_by : (m : Mem) (w : Writing) (number : ℕ) → IsWriting m w number → end_lands m.plan m.writing ≡ lands_at number m.plan.failing
lands_by m w number h = ap (end_lands m.plan) h.0 ∙ ap (λ (o : Option ℕ). end_lands m.plan (Some (record w { operation = o }))) h.1

ends_calm : (d : Digest) (m : Mem) (w : Writing) (c : Content) (rows : List Row) (result : Result Unit RegFault) → m.writing ≡ Some w
    → IsNoFault result → FailsAsPlanned (end_fails m.plan m.writing) result → take (length m.ever) rows ≡ m.ever
    → HoldsAfter d (seen_of m) (seen_of (ended_to m c rows)) result w
    → ((len : ℕ) → IsErrOf result (RegFault.TooLong len) → ⊥) → Ends d m (ended_to m c rows) result
ends_calm d m w c rows result is none planned grew holds long = record {
  left = leaves_calm m (ended_to m c rows) result refl none (sure_ended m.plan m.writing) (λ q. q);
  counts = refl;
  planned = planned;
  grew = grew;
  reading = refl;
  writing = refl;
  content = subst (λ (o : Option Writing). IfSome o (HoldsAfter d (seen_of m) (seen_of (ended_to m c rows)) result))
      (sym is) holds;
  too_long = long;
}

ends_failed : (d : Digest) (m : Mem) (w : Writing) (c : Content) (rows : List Row) → m.writing ≡ Some w
    → end_fails m.plan m.writing ≡ true → m.faults ≤ min (m.faults + 1) (2 ^ 64 - 1) → take (length m.ever) rows ≡ m.ever
    → MayHold (Some (end_lands m.plan m.writing)) (with_written d w) (Some m.content) (Some c)
    → Ends d m (after_fault (ended_to m c rows)) (Err RegFault.Failed)
ends_failed d m w c rows is fails later grew holds = record {
  left = leaves_failed m (after_fault (ended_to m c rows)) refl later
      (λ sure. (let none : end_fails m.plan m.writing ≡ false = (sure_parts m.plan m.writing sure).1 in cc)) (λ q. q);
  counts = refl;
  planned = fails;
  grew = grew;
  reading = refl;
  writing = refl;
  content = subst
      (λ (o : Option Writing). IfSome o (HoldsAfter d (seen_of m) (seen_of (after_fault (ended_to m c rows))) (Err
      RegFault.Failed)))
      (sym is) holds;
  too_long = λ len e. cc e;
}

-- the fate of a writing that was taken out
fate_here : (m n : Mem) (number : ℕ) (to : Fate) → n ≡ with_writing None m → to ≡ fate_at number n.plan.failing
    → fate_at number m.plan.failing ≡ to
fate_here m n number to taken h = ap (λ (x : Mem). fate_at number x.plan.failing) (sym taken) ∙ sym h

-- an end that takes effect
pub ends_done : (d : Digest) (m n k : Mem) (w : Writing) (number : ℕ) (done : Unit) → IsWriting m w number
    → n ≡ with_writing None m → Done ≡ fate_at number n.plan.failing → StoresBlob w.repo d w.bytes n k (Ok done)
    → Ends d m k (Ok done)
ends_done d m n k w number done h taken fate =
    subst (λ (x : Mem). StoresBlob w.repo d w.bytes x k (Ok done) → Ends d m k (Ok done)) (sym taken)
    (λ stored. subst (λ (y : Mem). Ends d m y (Ok done)) (sym stored.0)
    (ends_calm d m w (with_blob m.content w.repo d w.bytes) k.ever (Ok done) h.0 (no_fault done)
    (fails_by m w number h ∙ done_is (fails_at number m.plan.failing) (lands_at number m.plan.failing) (fate_here m
    n number Done taken fate))
    stored.1 refl (λ len is. cc is)))

-- an end without memory for it
pub ends_memory : (d : Digest) (m n k : Mem) (w : Writing) (number : ℕ) (memory : Memory) → IsWriting m w number
    → n ≡ with_writing None m → StoresBlob w.repo d w.bytes n k (Err memory)
    → Ends d m k (Err RegFault.Memory)
ends_memory d m n k w number memory h taken =
    subst (λ (x : Mem). StoresBlob w.repo d w.bytes x k (Err memory) → Ends d m k (Err RegFault.Memory)) (sym taken)
    (λ stored. subst (λ (y : Mem). Ends d m y (Err RegFault.Memory)) (sym stored.0)
    (ends_calm d m w m.content k.ever (Err RegFault.Memory) h.0 (no_fault_memory {T = Unit}) tt stored.1 (inl refl)
    (λ len is. cc is)))

-- an end that fails and takes no effect
pub ends_lost : (d : Digest) (m n k : Mem) (w : Writing) (number : ℕ) → IsWriting m w number
    → n ≡ with_writing None m → Lost ≡ fate_at number n.plan.failing → HasFailed n k → Ends d m k (Err RegFault.Failed)
ends_lost d m n k w number h taken fate =
    let is = lost_is (fails_at number m.plan.failing) (lands_at number m.plan.failing) (fate_here m n number Lost taken fate) in
    subst (λ (x : Mem). HasFailed x k → Ends d m k (Err RegFault.Failed)) (sym taken)
    (λ failed. subst (λ (y : Mem). Ends d m y (Err RegFault.Failed)) (sym failed.0)
    (ends_failed d m w m.content m.ever h.0 (fails_by m w number h ∙ is.0)
    (subst (λ (y : Mem). m.faults ≤ y.faults) failed.0 failed.1) (all_taken m.ever)
    (subst (λ (b : Bool). MayHold (Some b) (with_written d w) (Some m.content) (Some m.content)) (sym (lands_by m w
    number h ∙ is.1)) refl)))

-- an end that fails and takes effect all the same
pub ends_landed : (d : Digest) (m n k l : Mem) (w : Writing) (number : ℕ) (done : Unit) → IsWriting m w number
    → n ≡ with_writing None m → Landed ≡ fate_at number n.plan.failing → StoresBlob w.repo d w.bytes n k (Ok done)
    → HasFailed k l → Ends d m l (Err RegFault.Failed)
ends_landed d m n k l w number done h taken fate =
    let is = landed_is (fails_at number m.plan.failing) (lands_at number m.plan.failing) (fate_here m n number
    Landed taken fate) in
    let to = with_blob m.content w.repo d w.bytes in
    subst (λ (x : Mem). StoresBlob w.repo d w.bytes x k (Ok done) → HasFailed k l → Ends d m l (Err RegFault.Failed)) (sym taken)
    (λ stored failed. subst (λ (y : Mem). Ends d m y (Err RegFault.Failed)) (sym (failed.0 ∙ ap after_fault stored.0))
    (ends_failed d m w to k.ever h.0 (fails_by m w number h ∙ is.0)
    (subst (λ (y : Mem). m.faults ≤ y.faults) (failed.0 ∙ ap after_fault stored.0)
    (subst (λ (y : Mem). y.faults ≤ l.faults) stored.0 failed.1))
    stored.1
    (subst (λ (b : Bool). MayHold (Some b) (with_written d w) (Some m.content) (Some to)) (sym (lands_by m w number
    h ∙ is.1)) refl)))
