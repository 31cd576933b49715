-- The counters of an execution over rows that were raised. (After Harbor's replication executions.)
use Rattle.std.specs.Prelude.{ℕ, Bool, if◌then◌else◌, List, [], ◌∷◌, length}
use Rattle.std.specs.List.{count_by, list_any}
use Rattle.hr_base.specs.declared.status.Status.{Status}
use Rattle.hr_event.specs.declared.view.ExecStatus.{ExecStatus}
use Rattle.hr_event.specs.declared.view.ExecStatus.TheVariants as stands
use Rattle.hr_event.specs.declared.view.ExecView.{ExecView}
use Rattle.hr_event.specs.declared.view.RowView.{RowView}
use Rattle.hr_store.specs.Execution.{is_error, is_stopped, is_success, is_unfinished}

-- how many rows have such a status
abbrev pub rows_with : (Status → Bool) → List RowView → ℕ
rows_with test rows = count_by (λ row. test row.status) rows

-- some row has such a status
abbrev pub some_with : (Status → Bool) → List RowView → Bool
some_with test rows = list_any (λ row. test row.status) rows

-- the status of an execution by its rows
abbrev pub status_over : List RowView → ExecStatus
status_over rows =
    if some_with is_unfinished rows then stands.InProgress
    else (if some_with is_error rows then stands.Failed
    else (if some_with is_stopped rows then stands.Stopped else stands.Succeed))

-- an execution whose counters are those of these rows
abbrev pub counted : ExecView → List RowView → ExecView
counted view rows = record view {
  status = status_over rows;
  total = length rows;
  succeed = rows_with is_success rows;
  failed = rows_with is_error rows;
  in_progress = rows_with is_unfinished rows;
  stopped = rows_with is_stopped rows;
}

-- an execution whose counters are those of its rows, and as it was where it has none: only then can
-- its plan have failed
abbrev pub recounted : ExecView → List RowView → ExecView
recounted view [] = view
recounted view (row ∷ rows) = counted view (row ∷ rows)
