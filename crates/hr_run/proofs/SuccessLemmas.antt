-- A row of an execution that is kept is that of its job; where each is at Success, the execution
-- succeeded.
use Rattle.std.proofs.Common.{◌≡◌, refl, sym, ap, subst, ◌∙◌, zero, suc, ℕ, ◌+◌, ◌<◌, ◌≤◌, Bool, true, false, ◌||◌, List, [], ◌∷◌, length, arith}
use Rattle.std.proofs.lemmas.Bool.{eq-eqb}
use Rattle.std.proofs.lemmas.Bool.Decides.{nat_tests}
use Rattle.std.specs.List.{AllByRecursion, Contains, list_any}
use Rattle.std.specs.Prelude.{Option, Some, None, if◌then◌else◌, nat_eq}
use Rattle.hr_base.specs.declared.status.Status.TheVariants as status
use Rattle.hr_event.specs.declared.view.ExecStatus.TheVariants as stands
use Rattle.hr_store.specs.Execution.{ExecState, any_at, is_error, is_stopped, is_unfinished, last_job, status_by}
use Rattle.hr_store.specs.Row.{RowState, row_status}
use Rattle.hr_store.specs.Store.{AreNumbered, AreOrdered, first_row, row_among, row_of_job}
use Rattle.hr_run.specs.Arrives.{Succeeds}
use Rattle.hr_run.proofs.ListLemmas.{there_first, there_later}
use Rattle.hr_run.proofs.WellLemmas.{IsMade}

-- ---- a row of an execution that is kept is that of its job

above_row : (before : ℕ) (rows : List RowState) (row : RowState) → AreNumbered before rows → Contains rows row
    → (before < row.job) × (row.job ≤ before + length rows)
above_row before [] row all c = absurd (omega (arith, c.1))
above_row before (x ∷ rows) row all (zero, l, e) =
    let j = ap (λ (r : RowState). r.job) e in let n = all.0 in (omega (arith, j, n), omega (arith, j, n))
above_row before (x ∷ rows) row all (suc k, l, e) =
    let more = above_row (suc before) rows row all.1 (k, omega (arith, l), e) in (omega (arith, more.0), omega (arith, more.1))

pick_if : (x y : RowState) (o : Option RowState) (b : Bool) → b ≡ false → o ≡ Some y → (if b then Some x else o) ≡ Some y
pick_if x y o true is e = absurd (cc)
pick_if x y o false is e = e

not_equal : (m n : ℕ) → m < n → nat_eq m n ≡ false
not_equal m n l = grind (arith, nat_tests)

among_row : (before : ℕ) (rows : List RowState) (row : RowState) → AreNumbered before rows → Contains rows row
    → row_among row.job rows ≡ Some row
among_row before [] row all c = absurd (omega (arith, c.1))
among_row before (x ∷ rows) row all (zero, l, e) =
    let same : x ≡ row = e in
    ap (λ (b : Bool). if b then Some x else row_among row.job rows) (eq-eqb x.job row.job (ap (λ (r : RowState). r.job) same)) ∙ ap Some same
among_row before (x ∷ rows) row all (suc k, l, e) =
    let there : Contains rows row = (k, omega (arith, l), e) in
    let above = above_row (suc before) rows row all.1 there in
    let n = all.0 in
    pick_if x row (row_among row.job rows) (nat_eq x.job row.job) (not_equal x.job row.job (omega (arith, above.0, n)))
    (among_row (suc before) rows row all.1 there)

none_if : (x : RowState) (o : Option RowState) (b : Bool) → b ≡ false → o ≡ None → (if b then Some x else o) ≡ None
none_if x o true is e = absurd (cc)
none_if x o false is e = e

none_among : (before job : ℕ) (rows : List RowState) → AreNumbered before rows → before + length rows < job → row_among job rows ≡ None
none_among before job [] all more = refl
none_among before job (x ∷ rows) all more =
    let n = all.0 in
    none_if x (row_among job rows) (nat_eq x.job job) (not_equal x.job job (omega (arith, n, more)))
    (none_among (suc before) job rows all.1 (omega (arith, more)))

first_here : (a b : Option RowState) (row : RowState) → a ≡ Some row → first_row a b ≡ Some row
first_here (Some x) b row e = e
first_here None b row e = absurd (cc)

first_next : (a b : Option RowState) (row : RowState) → a ≡ None → b ≡ Some row → first_row a b ≡ Some row
first_next (Some x) b row n e = absurd (cc)
first_next None b row n e = e

above_exec : (number job : ℕ) (execs : List ExecState) (exec : ExecState) (row : RowState) → AreOrdered number job execs
    → Contains execs exec → Contains exec.rows row → job < row.job
above_exec number job [] exec row all c there = absurd (omega (arith, c.1))
above_exec number job (x ∷ execs) exec row all (zero, l, e) there =
    let mine : AreNumbered x.before x.rows = all.2 in
    let has : Contains x.rows row = subst (λ (y : ExecState). Contains y.rows row) (sym e) there in
    let above = above_row x.before x.rows row mine has in
    let low = all.1 in omega (arith, above.0, low)
above_exec number job (x ∷ execs) exec row all (suc k, l, e) there =
    let more = above_exec x.exec (last_job x) execs exec row all.3 (k, omega (arith, l), e) there in
    let low = all.1 in omega (arith, more, low)

pub row_found : (number job : ℕ) (execs : List ExecState) (exec : ExecState) (row : RowState) → AreOrdered number job execs
    → Contains execs exec → Contains exec.rows row → row_of_job row.job execs ≡ Some row
row_found number job [] exec row all c there = absurd (omega (arith, c.1))
row_found number job (x ∷ execs) exec row all (zero, l, e) there =
    let has : Contains x.rows row = subst (λ (y : ExecState). Contains y.rows row) (sym e) there in
    first_here (row_among row.job x.rows) (row_of_job row.job execs) row (among_row x.before x.rows row all.2 has)
row_found number job (x ∷ execs) exec row all (suc k, l, e) there =
    let later : Contains execs exec = (k, omega (arith, l), e) in
    let above = above_exec x.exec (last_job x) execs exec row all.3 later there in
    first_next (row_among row.job x.rows) (row_of_job row.job execs) row (none_among x.before row.job x.rows all.2 above)
    (row_found x.exec (last_job x) execs exec row all.3 later there)

-- ---- where each row is at Success, the execution succeeded

or_false : (b c : Bool) → b ≡ false → c ≡ false → (b || c) ≡ false
or_false true c is e = absurd (cc)
or_false false c is e = e

any_none : (p : RowState → Bool) (rows : List RowState) → ((row : RowState) → Contains rows row → p row ≡ false) → list_any p rows ≡ false
any_none p [] each = refl
any_none p (x ∷ rows) each =
    or_false (p x) (list_any p rows) (each x (there_first x rows)) (any_none p rows (λ row c. each row (there_later x row rows c)))

status_if : (a b c : Bool) → a ≡ false → b ≡ false → c ≡ false
    → (if a then stands.InProgress else (if b then stands.Failed else (if c then stands.Stopped else stands.Succeed))) ≡ stands.Succeed
status_if true b c d e f = absurd (cc)
status_if false true c d e f = absurd (cc)
status_if false false true d e f = absurd (cc)
status_if false false false d e f = refl

exec_succeeds : (failed : Bool) (rows : List RowState) → failed ≡ false → ((row : RowState) → Contains rows row → row_status row ≡ status.Success)
    → status_by failed rows ≡ stands.Succeed
exec_succeeds true rows planned each = absurd (cc)
exec_succeeds false rows planned each =
    status_if (any_at is_unfinished rows) (any_at is_error rows) (any_at is_stopped rows)
    (any_none (λ (r : RowState). is_unfinished (row_status r)) rows (λ row c. ap is_unfinished (each row c)))
    (any_none (λ (r : RowState). is_error (row_status r)) rows (λ row c. ap is_error (each row c)))
    (any_none (λ (r : RowState). is_stopped (row_status r)) rows (λ row c. ap is_stopped (each row c)))

pub execs_each : (execs : List ExecState) → AllByRecursion IsMade execs
    → ((exec : ExecState) → Contains execs exec → (row : RowState) → Contains exec.rows row → row_status row ≡ status.Success)
    → AllByRecursion Succeeds execs
execs_each [] made each = tt
execs_each (exec ∷ execs) made each = (
  exec_succeeds exec.plan_failed exec.rows made.0 (each exec (there_first exec execs)),
  execs_each execs made.1 (λ x c. each x (there_later exec x execs c)),
)
