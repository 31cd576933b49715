-- Lemmas on the rows of a store: those of new jobs, and those that received a hook.
use Rattle.std.proofs.Common.{◌≡◌, ◌⊎◌, inl, inr, refl, sym, ap, ◌∙◌, zero, suc, ℕ, ◌+◌, Bool, true, false, List, [], ◌∷◌, ◌++◌, length, slice_get, arith}
use Rattle.std.proofs.lemmas.Bool.{eqb-true}
use Rattle.std.proofs.lemmas.List.Elements.{Contains-append_left, Contains-push}
use Rattle.std.specs.Prelude.{Option, Some, None, if◌then◌else◌, nat_eq, IsTrue}
use Rattle.std.specs.Option.{option_map}
use Rattle.std.specs.List.{Contains}
use Rattle.hr_base.specs.declared.status.Hook.{Hook}
use Rattle.hr_event.specs.declared.task.TaskSpec.{TaskSpec}
use Rattle.hr_queue.specs.declared.answer.Queued.{Queued}
use Rattle.hr_store.specs.Creating.{new_rows}
use Rattle.hr_store.specs.Execution.{ExecState}
use Rattle.hr_store.specs.Laws.{hooks_of_job}
use Rattle.hr_store.specs.Row.{RowState, is_among, row_with, with_hook}
use Rattle.hr_store.specs.Store.{first_row, row_among, row_hearing, row_of_job}
use Rattle.hr_run.specs.State.{queued_from, spec_of}
use Rattle.hr_run.proofs.ListLemmas.{get_behind}

-- ---- rows and the hooks that they received

pub heard_row : (o : Option RowState) (heard : List Hook) → option_map (λ row. row.received) o ≡ Some heard
    → (row : RowState) × (o ≡ Some row) × (row.received ≡ heard)
heard_row None heard e = absurd (cc)
heard_row (Some row) heard e = (row, refl, (let k : row.received ≡ heard = cc in k))

pub row_heard : (job : ℕ) (execs : List ExecState) (row : RowState) → row_of_job job execs ≡ Some row
    → hooks_of_job job execs ≡ Some row.received
row_heard job execs row e = ap (option_map (λ (r : RowState). r.received)) e

-- ---- one execution more

pub first_cases : (a b : Option RowState) (row : RowState) → first_row a b ≡ Some row → (a ≡ Some row) ⊎ ((a ≡ None) × (b ≡ Some row))
first_cases (Some x) b row e = inl e
first_cases None b row e = inr (refl, e)

first_of : (a b : Option RowState) (row : RowState) → a ≡ Some row → first_row a b ≡ Some row
first_of (Some x) b row e = e
first_of None b row e = absurd (cc)

first_later : (a b : Option RowState) (row : RowState) → a ≡ None → b ≡ Some row → first_row a b ≡ Some row
first_later (Some x) b row n e = absurd (cc)
first_later None b row n e = e

pub row_pushed : (job : ℕ) (execs : List ExecState) (exec : ExecState) (row : RowState)
    → row_of_job job (execs ++ exec ∷ []) ≡ Some row → (row_of_job job execs ≡ Some row) ⊎ (row_among job exec.rows ≡ Some row)
row_pushed job [] exec row e = elim (first_cases (row_among job exec.rows) None row e) [
  | inl here ↦ inr here
  | inr there ↦ absurd (let k = there.1 in cc)
]
row_pushed job (x ∷ execs) exec row e = elim (first_cases (row_among job x.rows) (row_of_job job (execs ++ exec ∷ [])) row e) [
  | inl here ↦ inl (first_of (row_among job x.rows) (row_of_job job execs) row here)
  | inr there ↦ elim (row_pushed job execs exec row there.1) [
    | inl before ↦ inl (first_later (row_among job x.rows) (row_of_job job execs) row there.0 before)
    | inr new ↦ inr new
  ]
]

-- a row of a new job
pub record IsNewRow (before job : ℕ) (specs : List TaskSpec) (row : RowState) : Type 0 where
  pub place : ℕ
  pub numbered : job ≡ before + place + 1
  pub copies : slice_get specs place ≡ Some row.spec
  pub none : row.received ≡ []

new_row_at : (before job : ℕ) (spec : TaskSpec) (specs : List TaskSpec) (row : RowState) (b : Bool) → nat_eq (suc before) job ≡ b
    → ((row_among job (new_rows (suc before) specs) ≡ Some row) → IsNewRow (suc before) job specs row)
    → (if b then Some (record { job = suc before; spec = spec; received = [] }) else row_among job (new_rows (suc before) specs)) ≡ Some row
    → IsNewRow before job (spec ∷ specs) row
new_row_at before job spec specs row true is later e =
    let first : RowState = record { job = suc before; spec = spec; received = [] } in
    let same : first ≡ row = cc in
    let j = eqb-true (suc before) job is in
    record {
      place = 0;
      numbered = omega (arith, j);
      copies = ap (λ (r : RowState). Some r.spec) same;
      none = sym (ap (λ (r : RowState). r.received) same);
    }
new_row_at before job spec specs row false is later e =
    let l = later e in record { place = suc l.place; numbered = omega (arith, l.numbered); copies = l.copies; none = l.none }

pub new_row : (before job : ℕ) (specs : List TaskSpec) (row : RowState) → row_among job (new_rows before specs) ≡ Some row
    → IsNewRow before job specs row
new_row before job [] row e = absurd (cc)
new_row before job (spec ∷ specs) row e =
    new_row_at before job spec specs row (nat_eq (suc before) job) refl (new_row (suc before) job specs row) e

pub new_spec : (made specs : List TaskSpec) (job : ℕ) (row : RowState) → IsNewRow (length made) job specs row
    → spec_of (made ++ specs) job ≡ Some row.spec
new_spec made specs zero row new = absurd (let n = new.numbered in omega (arith, n))
new_spec made specs (suc at) row new =
    get_behind made specs new.place at (let n = new.numbered in omega (arith, n)) ∙ new.copies

-- ---- the jobs of a queue

pub queued_more : (n m : ℕ) (xs ys : List TaskSpec) → m ≡ n + length xs
    → queued_from n (xs ++ ys) ≡ queued_from n xs ++ queued_from m ys
queued_more n m [] ys e = ap (λ (k : ℕ). queued_from k ys) (let k : n ≡ m = omega (arith, e) in k)
queued_more n m (x ∷ xs) ys e =
    let first : Queued = record { job = record { 0 = suc n }; attempts = x.attempts } in
    ap (λ (qs : List Queued). first ∷ qs) (queued_more (suc n) m xs ys (omega (arith, e)))

-- ---- a hook more

-- what a row has heard after it was given a hook
pub record Hears (hook : Hook) (old heard : List Hook) : Type 0 where
  pub stay : (x : Hook) → Contains old x → Contains heard x
  pub there : Contains heard hook
  pub put : (heard ≡ old) ⊎ (heard ≡ old ++ hook ∷ [])

pub hears : (old : List Hook) (hook : Hook) → (IsTrue (is_among old hook) → Contains old hook) → Hears hook old (with_hook old hook)
hears old hook there = by (is_among old hook) there
  where
    by : (b : Bool) → (IsTrue b → Contains old hook) → Hears hook old (if b then old else old ++ hook ∷ [])
    by true has = record { stay = λ x c. c; there = has refl; put = inl refl }
    by false has = record { stay = λ x c. Contains-append_left old (hook ∷ []) x c; there = Contains-push old hook; put = inr refl }

hearing_spec : (hook : Hook) (row : RowState) (b : Bool) → (if b then row_with row hook else row).spec ≡ row.spec
hearing_spec hook row true = refl
hearing_spec hook row false = refl

-- a row that was given a hook copies what it did
pub hearing_row : (hook : Hook) (o : Option RowState) (row : RowState) → option_map (row_hearing hook) o ≡ Some row
    → (old : RowState) × (o ≡ Some old) × (old.spec ≡ row.spec)
hearing_row hook None row e = absurd (cc)
hearing_row hook (Some old) row e =
    let same : row_hearing hook old ≡ row = cc in
    (old, refl, sym (hearing_spec hook old (nat_eq old.job hook.job.0)) ∙ ap (λ (r : RowState). r.spec) same)
