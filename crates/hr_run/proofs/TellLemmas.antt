-- What rows tell is what the words are.
use Rattle.std.proofs.Common.{◌≡◌, ◌⊎◌, inl, inr, refl, sym, ap, subst, ◌∙◌, zero, suc, ℕ, ◌≤◌, Bool, true, false, List, [], ◌∷◌, map, arith}
use Rattle.std.specs.Prelude.{Some, None, IsTrue, if◌then◌else◌}
use Rattle.std.specs.List.{AllByRecursion, Contains}
use Rattle.hr_base.specs.Merge.{first_greatest, is_above, joined, told_by}
use Rattle.hr_base.specs.declared.status.Hook.{Hook}
use Rattle.hr_base.specs.declared.status.Status.{Status}
use Rattle.hr_base.specs.declared.status.Status.TheVariants as status
use Rattle.hr_event.specs.declared.told.Told.{Told}
use Rattle.hr_board.specs.Over.{EndsJob, IsOver}
use Rattle.hr_board.specs.View.{Word, place_of}
use Rattle.hr_store.specs.Execution.{ExecState}
use Rattle.hr_store.specs.Laws.{RowIsOver, RowStays}
use Rattle.hr_store.specs.Row.{RowState, ends_job}
use Rattle.hr_store.specs.Store.{AreOrdered, FailsBare, StoreState, row_of_job}
use Rattle.hr_store.specs.Sweeping.{kept_by}
use Rattle.hr_run.specs.Claims.{RowsTell, word_at}
use Rattle.hr_run.specs.Delivering.{Sweeps}
use Rattle.hr_run.specs.Holds.{Holds}
use Rattle.hr_run.specs.Sound.{IsSound}
use Rattle.hr_run.specs.State.{CoreState, hook_place, status_word}
use Rattle.hr_run.proofs.DoneLemmas.{ends_final, unopened}
use Rattle.hr_run.proofs.ListLemmas.{there_first, there_later}
use Rattle.hr_run.proofs.MarkLemmas.{attempts_each, final_covered}
use Rattle.hr_run.proofs.RowLemmas.{row_heard}
use Rattle.hr_run.proofs.WordLemmas.{all_confirmed}

-- ---- the join is one of the hooks

abbrev IsOneOf : ℕ × Status → List (ℕ × Status) → ℕ × Status → Type 0
IsOneOf p qs r = (r ≡ p) ⊎ Contains qs r

greater_in : (p q r : ℕ × Status) (qs : List (ℕ × Status)) (b : Bool) → IsOneOf q qs r → IsOneOf p (q ∷ qs) (if b then r else p)
greater_in p q r qs true (inl same) = inr (subst (λ (x : ℕ × Status). Contains (q ∷ qs) x) (sym same) (there_first q qs))
greater_in p q r qs true (inr there) = inr (there_later q r qs there)
greater_in p q r qs false has = inl refl

greatest_in : (p : ℕ × Status) (qs : List (ℕ × Status)) → IsOneOf p qs (first_greatest p qs)
unfolding first_greatest
greatest_in p [] = inl refl
greatest_in p (q ∷ qs) = greater_in p q (first_greatest q qs) qs (is_above (first_greatest q qs) p) (greatest_in q qs)

record IsOfHook (hooks : List Hook) (p : ℕ × Status) : Type 0 where
  hook : Hook
  there : Contains hooks hook
  is : told_by hook ≡ p

hook_of : (hooks : List Hook) (p : ℕ × Status) → Contains (map told_by hooks) p → IsOfHook hooks p
hook_of [] p c = absurd (omega (arith, c.1))
hook_of (h ∷ hooks) p (zero, l, e) = record { hook = h; there = there_first h hooks; is = e }
hook_of (h ∷ hooks) p (suc k, l, e) =
    let r = hook_of hooks p (k, omega (arith, l), e) in
    record { hook = r.hook; there = there_later h r.hook hooks r.there; is = r.is }

-- a join at a final status is one of the hooks
final_join : (hooks : List Hook) → 4 ≤ status_word (joined hooks).1 → IsOfHook hooks (joined hooks)
final_join hooks f = elim (greatest_in (0, status.Pending) (map told_by hooks)) [
  | inl none ↦ absurd (let k = ap (λ (p : ℕ × Status). status_word p.1) none in omega (arith, f, k))
  | inr there ↦ hook_of hooks (joined hooks) there
]

-- ---- what rows tell

-- the laws of the store that are used
abbrev pub Says : Type 0
Says = (attempts rev : ℕ) (st : Status) → IsTrue (ends_job attempts rev st) → EndsJob attempts (rev, st)

abbrev pub KeepsRows : Type 0
KeepsRows = (keep job : ℕ) (execs : List ExecState) → AreOrdered 0 0 execs → AllByRecursion FailsBare execs → RowStays keep job execs

pub record IsTold (s : CoreState) (job : ℕ) (row : ℕ × Status) : Type 0 where
  pub small : row.0 ≤ 3
  pub word : word_at s.board (place_of job row.0) ≡ status_word row.1

pub row_told : (s : CoreState) → Holds s → (job : ℕ) (row : RowState) → row_of_job job s.store.kept ≡ Some row
    → 4 ≤ status_word (joined row.received).1 → IsTold s job (joined row.received)
row_told s o job row e f =
    let h = final_join row.received f in
    let c = all_confirmed s o job row.received h.hook (row_heard job s.store.kept row e) h.there in
    let rev = ap (λ (p : ℕ × Status). p.0) h.is in
    let st = ap (λ (p : ℕ × Status). status_word p.1) h.is in
    let final : 4 ≤ status_word (h.hook).status = omega (arith, f, st) in
    let w = final_covered (h.hook).status (word_at s.board (hook_place h.hook)) final c.covered in
    let small = c.small in
    record {
      small = omega (arith, small, rev);
      word = ap (λ (j : ℕ). word_at s.board (place_of j (joined row.received).0)) (sym c.of_job)
          ∙ ap (λ (r : ℕ). word_at s.board (place_of (h.hook).job.0 r)) (sym rev) ∙ w ∙ st;
    }

module _ (ends_over : (words : List Word) (job attempts rev : ℕ) (st : Status) → RowIsOver words job attempts rev st)
    (s : CoreState) (o : Holds s) where
  row_over : (job : ℕ) (row : RowState) → row_of_job job s.store.kept ≡ Some row
      → EndsJob row.spec.attempts (joined row.received) → IsOver s.board.words job row.spec.attempts
  row_over job row e ends =
      let copies = o.rows job row e in
      let few = attempts_each s.made job row.spec o.few copies in
      let told = row_told s o job row e (ends_final row.spec.attempts (joined row.received) ends) in
      ends_over s.board.words job row.spec.attempts (joined row.received).0 (joined row.received).1
      (o.lawful.opened_after_error job)
      (λ rev past small. inl (unopened s o job rev row.spec copies (omega (arith, small)) past)) few.0 few.1 told.small told.word ends

  pub rows_tell : RowsTell s
  rows_tell = record { final = λ job row e f. (row_told s o job row e f).word; over = row_over }

  swept : Says → (keep job : ℕ) (row : RowState) → RowStays keep job s.store.kept → row_of_job job s.store.kept ≡ Some row
      → row_of_job job (kept_by keep s.store.kept) ≡ None → IsOver s.board.words job row.spec.attempts
  swept says keep job row (inl same) e gone = absurd (let k = sym gone ∙ same ∙ e in cc)
  swept says keep job row (inr dropped) e gone =
      row_over job row e (says row.spec.attempts (joined row.received).0 (joined row.received).1 (dropped.1 row e))

  pub swept_over : Says → KeepsRows → (t : CoreState) (keep : ℕ) (answer : Told) → IsSound s → Sweeps s keep answer t → (job : ℕ) (row : RowState)
      → row_of_job job s.store.kept ≡ Some row → row_of_job job t.store.kept ≡ None → IsOver s.board.words job row.spec.attempts
  swept_over says keeps_rows t keep answer sound h job row e gone =
      let kept = ap (λ (x : StoreState). x.kept) h.sweeps.after_is in
      swept says keep job row (keeps_rows keep job s.store.kept sound.ordered sound.no_rows) e (sym (ap (row_of_job job) kept) ∙ gone)
