-- Lemmas on operations of a registry in memory, as a connection sees them.
use Rattle.std.proofs.Common.{◌≡◌, ◌≤◌, ◌+◌, ◌-◌, ◌^◌, ◌⊎◌, inl, inr, ℕ, Bool, true, false, min, refl, sym, ap, subst, ◌∙◌, List, Option, Some, None, take, length, IsTrue, arith}
use Rattle.std.specs.Prelude.{not, IfSome, Result, Ok, Err, IsErrOf, option_map}
use Rattle.hr_base.specs.Bytes.{ByteList}
use Rattle.hr_base.specs.declared.memory.Memory.{Memory}
use Rattle.hr_cause.specs.Stream.{Rose}
use Rattle.hr_adapter.specs.Calls.{Asks, CountStays, FailsAsPlanned, Found, KeepsOpen, Leaves, Moved}
use Rattle.hr_adapter.specs.Content.{Content}
use Rattle.hr_adapter.specs.Plan.{Plan, fails_next, lands_next, moved_at, moved_next, next_operation, went_on, will_fail, will_move}
use Rattle.hr_adapter.specs.Reg.{AreShown, GoesBy, IsSound, Reg, Retagged, Row, Writing, end_fails}
use Rattle.hr_adapter.specs.declared.fault.RegFault.{RegFault}
use Rattle.hr_adapter.specs.declared.fault.RegFault.TheVariants as why
use Rattle.hr_memreg.specs.declared.standing.Standing.{Standing}
use Rattle.hr_memreg.specs.declared.standing.Fate.{Fate}
use Rattle.hr_memreg.specs.declared.standing.Fate.TheVariants.{Done, Lost, Landed}
use Rattle.hr_memreg.specs.Mem.{Mem, after_fault, after_operation, seen_of, standing_of}
use Rattle.hr_memreg.specs.Operation.{HasFailed, IsAsked, IsStuck, Operates}
use Rattle.hr_memreg.specs.Shown.{AreRows, number_after}
use Rattle.hr_memreg.specs.Standing.{GoesOn, fate_at, fate_of}
use Rattle.hr_memreg.proofs.PlanLemmas.{Retagged-moved_at, fails_to_come, front_none, is_sure, moved_next-quiet, quiet_on, sure_on, sure_parts}
use Rattle.hr_memreg.proofs.ShownLemmas.{shown_moved}

-- ---- what every call leaves

-- an answer that is no fault
abbrev pub IsNoFault : {T : Type 0} → Result T RegFault → Type 0
IsNoFault result = IsErrOf result RegFault.Failed → ⊥

count_stays : {T : Type 0} (before after : ℕ) (result : Result T RegFault) → after ≡ before → CountStays before after result
count_stays before after (Ok x) same = same
count_stays before after (Err why.Failed) same = tt
count_stays before after (Err (why.TooLong len)) same = same
count_stays before after (Err why.Memory) same = same

pub leaves_calm : {T : Type 0} (m n : Mem) (result : Result T RegFault) → n.faults ≡ m.faults → IsNoFault result
    → (IsTrue (is_sure m.plan m.writing) → IsTrue (is_sure n.plan n.writing))
    → (IsTrue (not (will_move m.plan)) → IsTrue (not (will_move n.plan)))
    → Leaves (seen_of m) (seen_of n) result
leaves_calm m n result same none sure quiet = record {
  later = omega arith;
  failed = λ is. absurd (none is);
  steady = count_stays m.faults n.faults result same;
  sure = λ h. (sure h, same);
  never = λ h is. none is;
  quiet = quiet;
}

pub leaves_failed : {T : Type 0} (m n : Mem) → n.faults ≡ min (m.faults + 1) (2 ^ 64 - 1) → m.faults ≤ n.faults
    → (IsTrue (is_sure m.plan m.writing) → ⊥)
    → (IsTrue (not (will_move m.plan)) → IsTrue (not (will_move n.plan)))
    → Leaves {T = T} (seen_of m) (seen_of n) (Err RegFault.Failed)
leaves_failed m n counted later sure quiet = record {
  later = later;
  failed = λ is. (let rose : min (m.faults + 1) (2 ^ 64 - 1) ≤ n.faults = omega arith in rose);
  steady = tt;
  sure = λ h. absurd (sure h);
  never = λ h is. sure h;
  quiet = quiet;
}

pub as_planned : {T : Type 0} (planned : Bool) (result : Result T RegFault) → planned ≡ false → IsNoFault result
    → FailsAsPlanned planned result
as_planned planned (Ok x) is none = is
as_planned planned (Err why.Failed) is none = absurd (none refl)
as_planned planned (Err (why.TooLong len)) is none = is
as_planned planned (Err why.Memory) is none = tt

pub not_sure : (p : Plan) (w : Option Writing) → fails_next p ≡ true → IsTrue (is_sure p w) → ⊥
not_sure p w fails sure = let none : fails_next p ≡ false = fails_to_come p (sure_parts p w sure).0 in cc

pub no_fault : {T : Type 0} (x : T) → IsNoFault (Ok x)
no_fault x is = cc

pub no_fault_long : {T : Type 0} (len : ℕ) → IsNoFault {T = T} (Err (RegFault.TooLong len))
no_fault_long len is = cc

pub no_fault_memory : {T : Type 0} → IsNoFault {T = T} (Err RegFault.Memory)
no_fault_memory is = cc

-- ---- what an operation finds

-- all changes of an operation were made
pub moved_all : (m : Mem) (r : Option ByteList) (w : Option Writing)
    → Moved (seen_of m) (seen_of (record (after_operation m) { reading = r; writing = w }))
moved_all m r w = record {
  told = Retagged-moved_at (next_operation m.plan) m.plan.moves m.content;
  quiet = λ q. ap Some (moved_next-quiet m.plan m.content q);
}

-- a registry after an operation for whose changes there was no memory
abbrev pub after_front : ℕ → Mem → Mem
after_front k m = record m {
  content = moved_at (next_operation m.plan) (take k m.plan.moves) m.content;
  plan = went_on m.plan;
}

pub moved_front : (m : Mem) (k : ℕ) (r : Option ByteList) (w : Option Writing)
    → Moved (seen_of m) (seen_of (record (after_front k m) { reading = r; writing = w }))
moved_front m k r w = record {
  told = Retagged-moved_at (next_operation m.plan) (take k m.plan.moves) m.content;
  quiet = λ q. ap Some (front_none m.plan k m.content q);
}

pub found_all : {T : Type 0} (m : Mem) (r : Option ByteList) (w : Option Writing) (result : Result T RegFault)
    → Found (seen_of m) (seen_of (record (after_operation m) { reading = r; writing = w })) result
found_all m r w (Ok x) = refl
found_all m r w (Err why.Failed) = refl
found_all m r w (Err (why.TooLong len)) = refl
found_all m r w (Err why.Memory) = moved_all m r w

-- ---- operations that ask

pub asks_calm : {T : Type 0} (m : Mem) (r : Option ByteList) (result : Result T RegFault) → fails_next m.plan ≡ false
    → IsNoFault result → Asks (seen_of m) (seen_of (record (after_operation m) { reading = r })) result
asks_calm m r result fails none = record {
  left = leaves_calm m (record (after_operation m) { reading = r }) result refl none (sure_on m.plan m.writing) (quiet_on m.plan);
  counts = refl;
  planned = as_planned (fails_next m.plan) result fails none;
  found = found_all m r m.writing result;
  ever = refl;
}

asks_failed : {T : Type 0} (m : Mem) (r : Option ByteList) → fails_next m.plan ≡ true
    → m.faults ≤ min (m.faults + 1) (2 ^ 64 - 1)
    → Asks {T = T} (seen_of m) (seen_of (record (after_fault (after_operation m)) { reading = r })) (Err RegFault.Failed)
asks_failed m r fails later = record {
  left = leaves_failed m (record (after_fault (after_operation m)) { reading = r }) refl later (not_sure m.plan
      m.writing fails) (quiet_on m.plan);
  counts = refl;
  planned = fails;
  found = refl;
  ever = refl;
}

asks_front : {T : Type 0} (m : Mem) (k : ℕ) (r : Option ByteList)
    → Asks {T = T} (seen_of m) (seen_of (record (after_front k m) { reading = r })) (Err RegFault.Memory)
asks_front m k r = record {
  left = leaves_calm m (record (after_front k m) { reading = r }) (Err RegFault.Memory) refl no_fault_memory
      (sure_on m.plan m.writing) (quiet_on m.plan);
  counts = refl;
  planned = tt;
  found = moved_front m k r m.writing;
  ever = refl;
}

-- a registry whose reading is another
abbrev pub with_reading : Option ByteList → Mem → Mem
with_reading r m = record m { reading = r }

-- an operation that asks and that ended at its begin, where its reading was made another first
pub asks_err : {T : Type 0} (m n : Mem) (r : Option ByteList) (fault : RegFault) → IsAsked (with_reading r m) n (Err fault)
    → Asks {T = T} (seen_of m) (seen_of n) (Err fault)
asks_err {T = T} m n r why.Failed h =
    subst (λ (x : Mem). Asks {T = T} (seen_of m) (seen_of x) (Err RegFault.Failed)) (sym h.0.0)
    (asks_failed m r h.1 (subst (λ (x : Mem). m.faults ≤ x.faults) h.0.0 h.0.1))
asks_err m n r (why.TooLong len) h = absurd h
asks_err {T = T} m n r why.Memory h =
    subst (λ (x : Mem). Asks {T = T} (seen_of m) (seen_of x) (Err RegFault.Memory)) (sym h.1) (asks_front m h.0 r)

-- it left what was open
abbrev pub Open : Option ByteList → Option Writing → Mem → Type 0
Open r w n = (n.reading ≡ r) × (n.writing ≡ w)

pub open_err : (m n : Mem) (r : Option ByteList) (fault : RegFault) → IsAsked (with_reading r m) n (Err fault)
    → Open r m.writing n
open_err m n r why.Failed h = subst (Open r m.writing) (sym h.0.0) (refl, refl)
open_err m n r (why.TooLong len) h = absurd h
open_err m n r why.Memory h = subst (Open r m.writing) (sym h.1) (refl, refl)

pub not_long : {T : Type 0} (m n : Mem) (fault : RegFault) → IsAsked m n (Err fault)
    → (len : ℕ) → IsErrOf {T = T} (Err fault) (RegFault.TooLong len) → ⊥
not_long m n why.Failed h len is = cc
not_long m n (why.TooLong l) h len is = h
not_long m n why.Memory h len is = cc

pub keeps_open : (m n : Mem) → Open m.reading m.writing n → KeepsOpen (seen_of m) (seen_of n)
keeps_open m n h = record { reading = ap (option_map Some) h.0; writing = h.1 }

-- ---- the fate of an operation

pub done_is : (fails lands : Bool) → fate_of fails lands ≡ Done → fails ≡ false
done_is false lands h = refl
done_is true false h = cc
done_is true true h = cc

pub lost_is : (fails lands : Bool) → fate_of fails lands ≡ Lost → (fails ≡ true) × (lands ≡ false)
lost_is false lands h = cc
lost_is true false h = (refl, refl)
lost_is true true h = cc

pub landed_is : (fails lands : Bool) → fate_of fails lands ≡ Landed → (fails ≡ true) × (lands ≡ true)
landed_is false lands h = cc
landed_is true false h = cc
landed_is true true h = (refl, refl)

-- ---- how an operation begins

-- a registry in which another moment stands
abbrev pub with_standing : Standing → Mem → Mem
with_standing s m = record m {
  content = s.held;
  plan = record m.plan { operations = s.operations; moves = s.moves };
}

pub went_on_ok : (m : Mem) (t : Standing) (done : Unit) → GoesOn (standing_of m) t (Ok done) → with_standing t m ≡ after_operation m
went_on_ok m t done h =
    ap (λ (s : Standing). with_standing s m) h.1
    ∙ ap (λ (c : Content). record m { content = c; plan = went_on m.plan }) h.0

pub went_on_err : (m : Mem) (t : Standing) (memory : Memory) → GoesOn (standing_of m) t (Err memory) → IsStuck m (with_standing t m)
went_on_err m t memory h = (
  h.0.0,
  ap (λ (s : Standing). with_standing s m) h.1
      ∙ ap (λ (c : Content). record m { content = c; plan = went_on m.plan }) h.0.1,
)

-- ---- soundness

-- a registry whose rows are those of what stands in it is sound
pub is_sound : (m : Mem) → AreRows (standing_of m) m.ever → IsSound (seen_of m)
is_sound m h = record {
  changes = Retagged-moved_at (next_operation m.plan) m.plan.moves m.content;
  quiet = λ q. ap Some (moved_next-quiet m.plan m.content q);
  shown = h.shown;
  coming = shown_moved (standing_of m) m.ever h;
  planned = record { coming = refl; quiet = refl; sure = refl };
}
