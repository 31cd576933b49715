-- What a snapshot of a store has.
use Rattle.std.proofs.Common.{◌≡◌, ℕ, ◌+◌, ◌<◌, ◌≤◌, Bool, true, false, ◌||◌, cond, suc, zero, List, [], ◌∷◌, ◌++◌, length, take, get_or, map, Some, refl, sym, ap, ◌∙◌, inl, inr, arith}
use Rattle.std.specs.Prelude.{nat_eq, ◌⊎◌}
use Rattle.std.specs.Option.{option_map}
use Rattle.std.specs.List.{find}
use Rattle.std.proofs.lemmas.Bool.Decides.{eqb_tells}
use Rattle.std.proofs.lemmas.List.{append-nil, flat_map_more, get_or_default, length-map, take_more}
use Rattle.std.proofs.lemmas.List.Elements.{filter-append}
use Rattle.std.proofs.lemmas.List.Sums.{sum_by-cons}
use Rattle.hr_base.specs.declared.status.Status.{Status}
use Rattle.hr_event.specs.declared.view.ExecView.{ExecView}
use Rattle.hr_event.specs.declared.view.RowView.{RowView}
use Rattle.hr_store.specs.Execution.{ExecState, any_at, exec_view, is_error, is_stopped, is_success, is_unfinished, last_job, row_view, rows_at, status_by}
use Rattle.hr_store.specs.Row.{RowState, row_status}
use Rattle.hr_store.specs.Store.{AreOrdered, FailsBare, exec_numbered, tasks_in}
use Rattle.hr_rest.specs.Counting.{counted, recounted, rows_with, some_with, status_over}
use Rattle.hr_rest.specs.Page.{rows_of}
use Rattle.hr_rest.specs.Snapshot.{rows_kept, tasks_of}

-- executions at places have numbers above all that stand before
above : (number job i : ℕ) (execs : List ExecState) (d : ExecState) → AreOrdered number job execs → i < length execs → number < (get_or execs i d).exec
above number job i [] d ordered within = absurd (omega (arith, within))
above number job zero (e ∷ es) d ordered within = ordered.0
above number job (suc i) (e ∷ es) d ordered within =
    let next = above e.exec (last_job e) i es d ordered.3 (omega (arith, within)) in omega (arith, ordered.0, next)

-- the execution at a place is the one of its number
pub numbered_at : (number job i : ℕ) (execs : List ExecState) (d : ExecState) → AreOrdered number job execs → i < length execs
    → exec_numbered (get_or execs i d).exec execs ≡ Some (get_or execs i d)
numbered_at number job i [] d ordered within = absurd (omega (arith, within))
numbered_at number job zero (e ∷ es) d ordered within = elim (eqb_tells e.exec e.exec) [
  | inl same ↦ rw same.0 refl
  | inr other ↦ absurd (other.1 refl)
]
numbered_at number job (suc i) (e ∷ es) d ordered within =
    let inside : i < length es = omega (arith, within) in
    elim (eqb_tells e.exec (get_or es i d).exec) [
      | inl same ↦ let next = above e.exec (last_job e) i es d ordered.3 inside in absurd (omega (arith, same.1, next))
      | inr other ↦ rw other.0 (numbered_at e.exec (last_job e) i es d ordered.3 inside)
    ]

seen_at : (i : ℕ) (execs : List ExecState) (d : ExecState) → get_or (map exec_view execs) i (exec_view d) ≡ exec_view (get_or execs i d)
seen_at i [] d = refl
seen_at zero (e ∷ es) d = refl
seen_at (suc i) (e ∷ es) d = seen_at i es d

one_more : (execs : List ExecState) (i : ℕ) (d : ExecState) (all more : List RowView) → AreOrdered 0 0 execs → i < length execs
    → all ≡ rows_kept (take i execs) → more ≡ tasks_in (exec_numbered (get_or execs i d).exec execs) → all ++ more ≡ rows_kept (take (i + 1) execs)
one_more execs i d all more ordered within is rows =
    ap (λ (rs : List RowView). rs ++ more) is
    ∙ ap (λ rs. rows_kept (take i execs) ++ rs) (rows ∙ ap tasks_in (numbered_at 0 0 i execs d ordered within))
    ∙ flat_map_more tasks_of [] (take i execs) (get_or execs i d)
    ∙ ap rows_kept (sym (take_more execs i d within))

-- one execution more, by a loop over them as they are told
pub rows_more : (execs : List ExecState) (views : List ExecView) (i : ℕ) (d : ExecView) (all more : List RowView) → AreOrdered 0 0 execs
    → views ≡ map exec_view execs → i < length views → all ≡ rows_kept (take i execs)
    → more ≡ tasks_in (exec_numbered (get_or views i d).exec.0 execs) → all ++ more ≡ rows_kept (take (i + 1) execs)
rows_more [] views i d all more ordered told within is rows =
    absurd (let l = ap (λ (vs : List ExecView). length vs) told in omega (arith, l, within))
rows_more (e ∷ es) views i d all more ordered told within is rows =
    let len = ap (λ (vs : List ExecView). length vs) told ∙ length-map (e ∷ es) exec_view in
    let inside : i < length (e ∷ es) = omega (arith, len, within) in
    let same : get_or views i d ≡ exec_view (get_or (e ∷ es) i e) =
    get_or_default views i d (exec_view e) within
    ∙ ap (λ vs. get_or vs i (exec_view e)) told ∙ seen_at i (e ∷ es) e in
    one_more (e ∷ es) i e all more ordered inside is
    (rows ∙ ap (λ (v : ExecView). tasks_in (exec_numbered v.exec.0 (e ∷ es))) same)

-- ---- look-ups in a snapshot

pub view_found : (number : ℕ) (execs : List ExecState) → find (λ exec. nat_eq exec.exec.0 number) (map exec_view execs) ≡ option_map exec_view (exec_numbered number execs)
view_found number [] = refl
view_found number (e ∷ es) = elim (eqb_tells e.exec number) [
  | inl same ↦ rw same.0 refl
  | inr other ↦ rw other.0 (view_found number es)
]

rows_told : (number exec : ℕ) (rows : List RowState) → nat_eq exec number ≡ true → rows_of number (map (row_view exec) rows) ≡ map (row_view exec) rows
rows_told number exec [] same = refl
rows_told number exec (r ∷ rs) same = rw same (ap (λ (xs : List RowView). row_view exec r ∷ xs) (rows_told number exec rs same))

rows_other : (number exec : ℕ) (rows : List RowState) → nat_eq exec number ≡ false → rows_of number (map (row_view exec) rows) ≡ []
rows_other number exec [] other = refl
rows_other number exec (r ∷ rs) other = rw other (rows_other number exec rs other)

rows_low : (number low job : ℕ) (execs : List ExecState) → AreOrdered low job execs → number ≤ low → rows_of number (rows_kept execs) ≡ []
rows_low number low job [] ordered below = refl
rows_low number low job (e ∷ es) ordered below = elim (eqb_tells e.exec number) [
  | inl same ↦ absurd (omega (arith, same.1, ordered.0, below))
  | inr other ↦
      filter-append (λ row. nat_eq row.exec.0 number) (tasks_of e) (rows_kept es)
      ∙ ap (λ (xs : List RowView). xs ++ rows_of number (rows_kept es)) (rows_other number e.exec e.rows other.0)
      ∙ rows_low number e.exec (last_job e) es ordered.3 (omega (arith, ordered.0, below))
]

pub rows_found : (number low job : ℕ) (execs : List ExecState) → AreOrdered low job execs → rows_of number (rows_kept execs) ≡ tasks_in (exec_numbered number execs)
rows_found number low job [] ordered = refl
rows_found number low job (e ∷ es) ordered = elim (eqb_tells e.exec number) [
  | inl same ↦
      filter-append (λ row. nat_eq row.exec.0 number) (tasks_of e) (rows_kept es)
      ∙ ap (λ (xs : List RowView). xs ++ rows_of number (rows_kept es)) (rows_told number e.exec e.rows same.0)
      ∙ ap (λ (xs : List RowView). tasks_of e ++ xs) (rows_low number e.exec (last_job e) es ordered.3 (omega (arith, same.1)))
      ∙ append-nil (tasks_of e)
      ∙ rw same.0 refl
  | inr other ↦
      filter-append (λ row. nat_eq row.exec.0 number) (tasks_of e) (rows_kept es)
      ∙ ap (λ (xs : List RowView). xs ++ rows_of number (rows_kept es)) (rows_other number e.exec e.rows other.0)
      ∙ rows_found number e.exec (last_job e) es ordered.3
      ∙ rw other.0 refl
]

-- ---- rows as they are told

any_told : (test : Status → Bool) (exec : ℕ) (rows : List RowState) → some_with test (map (row_view exec) rows) ≡ any_at test rows
any_told test exec [] = refl
any_told test exec (r ∷ rs) = ap (λ b. test (row_status r) || b) (any_told test exec rs)

count_told : (test : Status → Bool) (exec : ℕ) (rows : List RowState) → rows_with test (map (row_view exec) rows) ≡ rows_at test rows
count_told test exec [] = refl
count_told test exec (r ∷ rs) =
    sum_by-cons (λ (row : RowView). cond (test row.status) 1 0) (row_view exec r) (map (row_view exec) rs)
    ∙ ap (λ n. cond (test (row_status r)) 1 0 + n) (count_told test exec rs)
    ∙ sym (sum_by-cons (λ (row : RowState). cond (test (row_status row)) 1 0) r rs)

status_told : (exec : ℕ) (rows : List RowState) → status_over (map (row_view exec) rows) ≡ status_by false rows
status_told exec rows = rw (any_told is_unfinished exec rows, any_told is_error exec rows, any_told is_stopped exec rows) refl

counted_told : (exec : ExecState) → exec.plan_failed ≡ false → counted (exec_view exec) (tasks_of exec) ≡ exec_view exec
counted_told exec made =
    rw (
      status_told exec.exec exec.rows,
      length-map exec.rows (row_view exec.exec),
      count_told is_success exec.exec exec.rows,
      count_told is_error exec.exec exec.rows,
      count_told is_unfinished exec.exec exec.rows,
      count_told is_stopped exec.exec exec.rows,
      made,
    ) refl

made_or_bare : (exec : ExecState) → FailsBare exec → (exec.plan_failed ≡ false) ⊎ (exec.rows ≡ [])
made_or_bare exec bare = elim exec.plan_failed as (λ b. (b ≡ true → exec.rows ≡ []) → (b ≡ false) ⊎ (exec.rows ≡ [])) [
  | true ↦ λ f. inr (f refl)
  | false ↦ λ f. inl refl
] bare

recounted_by : (view : ExecView) (rows : List RowView) → (rows ≡ []) ⊎ (counted view rows ≡ view) → recounted view rows ≡ view
recounted_by view [] either = refl
recounted_by view (row ∷ rows) (inl none) = absurd (let h : row ∷ rows ≡ [] = none in cc)
recounted_by view (row ∷ rows) (inr same) = same

pub recounted_told : (exec : ExecState) → FailsBare exec → recounted (exec_view exec) (tasks_of exec) ≡ exec_view exec
recounted_told exec bare = recounted_by (exec_view exec) (tasks_of exec) (elim (made_or_bare exec bare) [
  | inl made ↦ inr (counted_told exec made)
  | inr none ↦ inl (ap (map (row_view exec.exec)) none)
])
