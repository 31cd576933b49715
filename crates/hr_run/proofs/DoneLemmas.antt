-- When nothing is left to do, each job is over, and its row says so.
use Rattle.std.proofs.Common.{◌≡◌, ◌≢◌, inl, inr, refl, sym, ap, subst, ◌∙◌, zero, suc, ℕ, ◌+◌, ◌<◌, ◌≤◌, cond, ◌&&◌, List, [], ◌∷◌, map, slice_get, arith}
use Rattle.std.proofs.lemmas.Bool.{cases_lt}
use Rattle.std.proofs.lemmas.Bool.Decides.{eqb_tells, nat_tests}
use Rattle.std.specs.Prelude.{Option, Some, nat_eq, nat_le}
use Rattle.std.specs.List.{AllByRecursion, Contains}
use Rattle.hr_base.specs.Merge.{joined, told_by}
use Rattle.hr_base.specs.Status.{code_of}
use Rattle.hr_base.specs.declared.status.Hook.{Hook}
use Rattle.hr_base.specs.declared.status.Status.{Status}
use Rattle.hr_base.specs.declared.status.Status.TheVariants as status
use Rattle.hr_event.specs.declared.task.TaskSpec.{TaskSpec}
use Rattle.hr_board.specs.Current.{IsCurrent}
use Rattle.hr_board.specs.Over.{EndsJob, IsOver, WasOver}
use Rattle.hr_board.specs.Past.{Past}
use Rattle.hr_board.specs.Plain.{IsLawful, view_of}
use Rattle.hr_board.specs.View as board
use Rattle.hr_board.specs.View.{Place, Word, place_of}
use Rattle.hr_queue.specs.Gains.{Agrees, MayOpen}
use Rattle.hr_queue.specs.Taking.{NoneDue, Takes}
use Rattle.hr_queue.specs.View as queue
use Rattle.hr_queue.specs.Whole.{IsWhole}
use Rattle.hr_queue.specs.declared.answer.Queued.{Queued}
use Rattle.hr_queue.specs.declared.answer.Taken.TheVariants as taken
use Rattle.hr_queue.specs.declared.delayed.Delayed.{Delayed}
use Rattle.hr_store.specs.Laws.{hooks_of_job}
use Rattle.hr_run.specs.Claims.{AllDone, IsConfirmed, IsFinished, word_at}
use Rattle.hr_run.specs.Holds.{CoveredBy, Holds, IsEmitted, IsRevision}
use Rattle.hr_run.specs.State.{CoreState, hook_at, hook_place, queued_from, spec_of, status_word}
use Rattle.hr_run.specs.Weight.{at, final_weight, one_if}
use Rattle.hr_run.proofs.JoinLemmas.{Under, above_code, above_lower, best_is, covers_final, covers_zero, final_code, pair_is, pending_under, told_there, word_status}
use Rattle.hr_run.proofs.ListLemmas.{all_member, get_at, sum_some, there_first, there_later}
use Rattle.hr_run.proofs.MarkLemmas.{few_each, spec_within}
use Rattle.hr_run.proofs.WordLemmas.{all_confirmed, one_each}

-- the laws of the board and of the queue that are used
pub record OverLaws : Type 0 where
  pub idle : (now : ℕ) (q r : queue.View) (b : board.View) (job : Queued) → IsWhole q → Agrees q b → Takes now q taken.Idle r
      → Contains q.added job → WasOver b.notes job.job.0 job.attempts
  pub over : (words : List Word) (past : Past) (job attempts : ℕ) → attempts ≤ 4 → IsLawful words past → WasOver past.notes job attempts
      → IsOver words job attempts

-- ---- the jobs of the queue are those that were made

queued_there : (n : ℕ) (made : List TaskSpec) (at j : ℕ) (spec : TaskSpec) → slice_get made at ≡ Some spec → j ≡ n + at + 1
    → Contains (queued_from n made) (record { job = record { 0 = j }; attempts = spec.attempts })
queued_there n [] zero j spec e is = absurd (cc)
queued_there n [] (suc at) j spec e is = absurd (cc)
queued_there n (x ∷ made) zero j spec e is =
    let same : x ≡ spec = cc in
    let k : j ≡ suc n = omega (arith, is) in
    let Q : ℕ → ℕ → Queued = λ i a. record { job = record { 0 = i }; attempts = a } in
    subst (λ (q : Queued). Contains (queued_from n (x ∷ made)) q)
    (ap (λ (i : ℕ). Q i x.attempts) (sym k) ∙ ap (λ (y : TaskSpec). Q j y.attempts) same)
    (there_first (Q (suc n) x.attempts) (queued_from (suc n) made))
queued_there n (x ∷ made) (suc at) j spec e is =
    there_later _ _ (queued_from (suc n) made) (queued_there (suc n) made at j spec e (omega (arith, is)))

pub spec_queued : (made : List TaskSpec) (job : ℕ) (spec : TaskSpec) → spec_of made job ≡ Some spec
    → Contains (queued_from 0 made) (record { job = record { 0 = job }; attempts = spec.attempts })
spec_queued made zero spec e = absurd (cc)
spec_queued made (suc at) spec e = queued_there 0 made at (suc at) spec e (omega arith)

-- a job of the queue is one that was made
pub record WasMade (n : ℕ) (made : List TaskSpec) (a : Queued) : Type 0 where
  pub place : ℕ
  pub spec : TaskSpec
  pub number : a.job.0 ≡ n + place + 1
  pub there : slice_get made place ≡ Some spec
  pub attempts : spec.attempts ≡ a.attempts

pub queued_made : (n : ℕ) (made : List TaskSpec) (a : Queued) → Contains (queued_from n made) a → WasMade n made a
queued_made n [] a c = absurd (omega (arith, c.1))
queued_made n (x ∷ made) a (zero, l, e) = record {
  place = 0;
  spec = x;
  number = (let k = ap (λ (q : Queued). q.job.0) e in omega (arith, k));
  there = refl;
  attempts = ap (λ (q : Queued). q.attempts) e;
}
queued_made n (x ∷ made) a (suc k, l, e) =
    let w = queued_made (suc n) made a (k, omega (arith, l), e) in
    record { place = suc w.place; spec = w.spec; number = (let i = w.number in omega (arith, i)); there = w.there; attempts = w.attempts }

pub made_spec : (made : List TaskSpec) (job place : ℕ) (spec : TaskSpec) → job ≡ 0 + place + 1 → slice_get made place ≡ Some spec
    → spec_of made job ≡ Some spec
made_spec made zero place spec is e = absurd (omega (arith, is))
made_spec made (suc at) place spec is e = ap (slice_get made) (let k : at ≡ place = omega (arith, is) in k) ∙ e

-- ---- what is open is a revision of a job that was made

-- a hook that has a weight at a place stands there, with that word
heavy : (v p place w : ℕ) → 1 ≤ cond (nat_le 4 v) (one_if (nat_eq p place && nat_eq v w)) 0 → (p ≡ place) × (v ≡ w)
heavy v p place w h = (grind (arith, nat_tests), grind (arith, nat_tests))

-- a final word has an emitted hook
pub record HasHook (s : CoreState) (place : ℕ) : Type 0 where
  pub hook : Hook
  pub there : Contains s.hooks hook
  pub at_place : hook_place hook ≡ place
  pub at_word : status_word hook.status ≡ word_at s.board place

pub final_hook : (s : CoreState) → Holds s → (place : ℕ) → 4 ≤ word_at s.board place → HasHook s place
final_hook s o place f =
    let w = word_at s.board place in
    let a = (one_each s o).told place f in
    let k = sum_some (final_weight (at place w)) s.hooks (omega (arith, a)) in
    let e = heavy (status_word (k.0).status) (hook_place k.0) place w k.2 in
    record { hook = k.0; there = k.1; at_place = e.0; at_word = e.1 }

record IsOpenAt (made : List TaskSpec) (place : ℕ) : Type 0 where
  job : ℕ
  rev : ℕ
  is : place ≡ place_of job rev
  revision : IsRevision made job rev

one_is : (n p : ℕ) → 1 ≤ one_if (nat_eq n p) → n ≡ p
one_is n p h = grind (arith, nat_tests)

may_open : (s : CoreState) → Holds s → (place : ℕ) → MayOpen s.turns.added place → IsOpenAt s.made place
may_open s o place m =
    let added = o.added in
    let w = queued_made 0 s.made m.job (subst (λ (qs : List Queued). Contains qs m.job) added m.known) in
    let a = w.attempts in
    let within = m.within in
    let few = m.few in
    record {
      job = m.job.job.0;
      rev = m.rev;
      is = m.is;
      revision = record {
        spec = w.spec;
        copies = made_spec s.made m.job.job.0 w.place w.spec w.number w.there;
        within = omega (arith, within, a);
        few = omega (arith, few, a);
      };
    }

open_revision : (s : CoreState) → Holds s → (place : ℕ) → word_at s.board place ≢ 0 → IsOpenAt s.made place
open_revision s o place n = elim (cases_lt (word_at s.board place) 4) [
  | inl low ↦
      (let times = (o.lawful.opens_once place).2 n (λ e. omega (arith, e, low)) in
      let k = sum_some (λ p. one_if (nat_eq p place)) s.board.past.opens (omega (arith, times)) in
      let m = all_member (MayOpen s.turns.added) s.board.past.opens k.0 o.agrees.may k.1 in
      subst (λ (p : ℕ). IsOpenAt s.made p) (one_is k.0 place k.2) (may_open s o k.0 m))
  | inr high ↦
      (let k = final_hook s o place high in
      let e = all_member (IsEmitted s.made s.board.past.notes) s.hooks k.hook o.emitted k.there in
      record { job = (k.hook).job.0; rev = (k.hook).rev; is = sym k.at_place; revision = e.revision })
]

-- a place is of one job and revision
pub same_place : (job rev j r : ℕ) → 1 ≤ job → 1 ≤ j → rev < 4 → r < 4 → place_of job rev ≡ place_of j r → (job ≡ j) × (rev ≡ r)
same_place job rev j r a b c d e = (omega arith, omega arith)

same_spec : (made : List TaskSpec) (job j : ℕ) (x y : TaskSpec) → spec_of made job ≡ Some x → spec_of made j ≡ Some y → job ≡ j
    → x.attempts ≡ y.attempts
same_spec made job j x y e f q =
    let k : Some x ≡ Some y = sym e ∙ ap (spec_of made) q ∙ f in
    let same : x ≡ y = cc in ap (λ (z : TaskSpec). z.attempts) same

pub unopened : (s : CoreState) → Holds s → (job rev : ℕ) (spec : TaskSpec) → spec_of s.made job ≡ Some spec → rev < 4
    → spec.attempts ≤ rev → word_at s.board (place_of job rev) ≡ 0
unopened s o job rev spec e small big = elim (cases_lt 0 (word_at s.board (place_of job rev))) [
  | inl some ↦ absurd (
      let m = open_revision s o (place_of job rev) (λ z. omega (arith, z, some)) in
      let i = (spec_within s.made job spec e).0 in
      let j = (spec_within s.made m.job m.revision.spec m.revision.copies).0 in
      let within = m.revision.within in
      let few = m.revision.few in
      let p = same_place job rev m.job m.rev i j small (omega (arith, within, few)) m.is in
      let q = same_spec s.made job m.job spec m.revision.spec e m.revision.copies p.0 in
      let r = p.1 in
      omega (arith, q, r, within, big))
  | inr none ↦ omega (arith, none)
]

-- ---- a job that is over

-- it is over at this row: its last opened revision, below its attempts, with a final status
pub record IsOverAt (s : CoreState) (job : ℕ) (row : ℕ × Status) : Type 0 where
  pub word : word_at s.board (place_of job row.0) ≡ status_word row.1
  pub final : 4 ≤ status_word row.1
  pub within : row.0 < 4
  pub beyond : (r : ℕ) → row.0 < r → r < 4 → word_at s.board (place_of job r) ≡ 0

pub ends_final : (attempts : ℕ) (row : ℕ × Status) → EndsJob attempts row → 4 ≤ status_word row.1
ends_final attempts row (inl e) = subst (λ (x : Status). 4 ≤ status_word x) (sym e) (omega arith)
ends_final attempts row (inr (inl e)) = subst (λ (x : Status). 4 ≤ status_word x) (sym e) (omega arith)
ends_final attempts row (inr (inr e)) = subst (λ (x : Status). 4 ≤ status_word x) (sym e.0) (omega arith)

pub over_at : (s : CoreState) → Holds s → (job : ℕ) (spec : TaskSpec) → spec_of s.made job ≡ Some spec
    → (row : ℕ × Status) → IsCurrent s.board.words job spec.attempts row → EndsJob spec.attempts row → IsOverAt s job row
over_at s o job spec e row (inl c) ends =
    let few = few_each s.made job spec o.few e in
    let within = c.within in
    record {
      word = c.word;
      final = ends_final spec.attempts row ends;
      within = omega (arith, within, few);
      beyond = λ r more small. elim (cases_lt r spec.attempts) [
        | inl low ↦ c.last r (omega (arith, more)) low
        | inr high ↦ unopened s o job r spec e small (omega (arith, high))
      ];
    }
over_at s o job spec e row (inr c) ends = absurd (
    let f = ends_final spec.attempts row ends in
    let k = ap (λ (p : ℕ × Status). status_word p.1) c.1 in
    omega (arith, f, k))

under_row : (s : CoreState) (job rev : ℕ) (st : Status) (row : ℕ × Status) → IsOverAt s job row → rev ≤ 3
    → CoveredBy st (word_at s.board (place_of job rev)) → Under row (rev, st)
under_row s job rev st row o small c = record {
  under = elim (cases_lt rev row.0) [
    | inl low ↦ inl (above_lower row.0 (code_of row.1) rev (code_of st) low)
    | inr high ↦ elim (eqb_tells rev row.0) [
      | inl e ↦ (let W : ℕ → ℕ = λ r. word_at s.board (place_of job r) in
          let w = ap W e.1 ∙ o.word in
          let C : ℕ → Type 0 = λ v. CoveredBy st v in
          let f = final_code row.1 o.final in
          elim (covers_final st row.1 o.final (subst C w c)) [
            | inl l ↦ inl (above_code row.0 (code_of row.1) rev (code_of st) e.1 (omega (arith, l, f)))
            | inr k ↦ inr (pair_is rev row.0 st row.1 e.1 k)
          ])
      | inr e ↦ absurd (let z = o.beyond rev (omega (arith, high, e.1)) (omega (arith, small)) in
          let C : ℕ → Type 0 = λ v. CoveredBy st v in
          covers_zero st (subst C z c))
    ]
  ];
}

under_all : (s : CoreState) (job : ℕ) (hs : List Hook) (row : ℕ × Status) → IsOverAt s job row
    → ((h : Hook) → Contains hs h → IsConfirmed s.board job h) → AllByRecursion (Under row) (map told_by hs)
under_all s job [] row o c = tt
under_all s job (h ∷ hs) row o c =
    let k = c h (there_first h hs) in
    let C : ℕ → Type 0 = λ j. CoveredBy h.status (word_at s.board (place_of j h.rev)) in
    (under_row s job h.rev h.status row o k.small (subst C k.of_job k.covered), under_all s job hs row o (λ x m. c x (there_later h x hs m)))

-- ---- all jobs are over, and all rows are current

none_due : (now : ℕ) (delayed : List Delayed) → delayed ≡ [] → NoneDue now delayed
none_due now delayed e = subst (λ (ds : List Delayed). NoneDue now ds) (sym e) tt

module _ (laws : OverLaws) (s : CoreState) (o : Holds s) (f : IsFinished s) where
  all_over : (job : ℕ) (spec : TaskSpec) → spec_of s.made job ≡ Some spec → IsOver s.board.words job spec.attempts
  all_over job spec e =
      let one : Queued = record { job = record { 0 = job }; attempts = spec.attempts } in
      let there = subst (λ (qs : List Queued). Contains qs one) (sym o.added) (spec_queued s.made job spec e) in
      let was = laws.idle s.now s.turns s.turns (view_of s.board) one o.whole o.agrees
      (refl, none_due s.now s.turns.delayed f.delayed, f.waiting, (f.delayed, f.out)) there in
      laws.over s.board.words s.board.past job spec.attempts (few_each s.made job spec o.few e) o.lawful was

  all_heard : (k : ℕ) (h : Hook) (heard : List Hook) → hook_at s.hooks k ≡ Some h → hooks_of_job h.job.0 s.store.kept ≡ Some heard
      → Contains heard h
  all_heard k h heard e r =
      let d = o.delivered k (f.delivered k h e) in
      let both : Some d.hook ≡ Some h = sym d.is ∙ e in
      let same : d.hook ≡ h = cc in
      let K : Hook → Option (List Hook) = λ x. hooks_of_job x.job.0 s.store.kept in
      subst (λ (x : Hook). Contains heard x) same (d.received heard (ap K same ∙ r))

  all_current : (job : ℕ) (spec : TaskSpec) (heard : List Hook) → spec_of s.made job ≡ Some spec
      → hooks_of_job job s.store.kept ≡ Some heard → IsCurrent s.board.words job spec.attempts (joined heard)
  all_current job spec heard e r =
      let is_over = all_over job spec e in
      let row = is_over.row in
      let over = over_at s o job spec e row is_over.current is_over.ends in
      let w = over.word in
      let fin = over.final in
      let k = final_hook s o (place_of job row.0) (omega (arith, w, fin)) in
      let em = all_member (IsEmitted s.made s.board.past.notes) s.hooks k.hook o.emitted k.there in
      let j = (spec_within s.made (k.hook).job.0 em.revision.spec em.revision.copies).0 in
      let i = (spec_within s.made job spec e).0 in
      let within = em.revision.within in
      let few = em.revision.few in
      let same = same_place (k.hook).job.0 (k.hook).rev job row.0 j i (omega (arith, within, few)) over.within k.at_place in
      let kw = k.at_word in
      let st = word_status (k.hook).status row.1 (omega (arith, kw, w, fin)) (k.at_word ∙ w) in
      let c = k.there in
      let there = all_heard (suc c.0) k.hook heard (get_at s.hooks c.0 k.hook c.1 c.2)
      (ap (λ (n : ℕ). hooks_of_job n s.store.kept) same.0 ∙ r) in
      let T : ℕ × Status → Type 0 = λ v. Contains (map told_by heard) v in
      let top = subst T (pair_is (k.hook).rev row.0 (k.hook).status row.1 same.1 st) (told_there heard k.hook there) in
      let is = best_is row (0, status.Pending) (map told_by heard) (pending_under row over.final)
      (under_all s job heard row over (λ h m. all_confirmed s o job heard h r m)) top in
      subst (λ (v : ℕ × Status). IsCurrent s.board.words job spec.attempts v) (sym is) is_over.current

  pub all_done : AllDone s
  all_done = record { over = all_over; heard = all_heard; current = all_current }
