-- An execution: one run of a policy, with the rows of its jobs. (After Harbor's replication
-- executions and tasks.)
use Rattle.std.specs.Prelude.{◌≡◌, ℕ, ◌+◌, Bool, true, false, ◌||◌, not, cond, if◌then◌else◌, List, length, slice_get, slice_set, Some}
use Rattle.std.specs.List.{count_by, list_any, list_all}
use Rattle.hr_base.specs.declared.number.PolicyNo.{PolicyNo}
use Rattle.hr_base.specs.declared.number.Moment.{Moment}
use Rattle.hr_base.specs.declared.status.Status.{Status}
use Rattle.hr_base.specs.declared.status.Status.TheVariants as status
use Rattle.hr_base.specs.declared.status.Hook.{Hook}
use Rattle.hr_base.specs.Merge.{joined}
use Rattle.hr_event.specs.declared.view.Trigger.{Trigger}
use Rattle.hr_event.specs.declared.view.ExecStatus.{ExecStatus}
use Rattle.hr_event.specs.declared.view.ExecStatus.TheVariants as stands
use Rattle.hr_event.specs.declared.view.ExecView.{ExecView}
use Rattle.hr_event.specs.declared.view.RowView.{RowView}
use Rattle.hr_store.specs.Row.{RowState, RoseIf, is_over, row_status, row_with, with_hook}

-- an execution: its number, what it is a run of, whether its plan failed, how many jobs were made
-- before it, and the rows of its own, by job
pub record ExecState : Type 0 where
  pub exec : ℕ
  pub policy : PolicyNo
  pub trigger : Trigger
  pub began : Moment
  pub plan_failed : Bool
  pub before : ℕ
  pub rows : List RowState

-- the number of its last job
abbrev pub last_job : ExecState → ℕ
last_job exec = exec.before + length exec.rows

-- a status is Success
abbrev pub is_success : Status → Bool
is_success status.Success = true
is_success other = false

-- a status is Error
abbrev pub is_error : Status → Bool
is_error status.Error = true
is_error other = false

-- a status is Stopped
abbrev pub is_stopped : Status → Bool
is_stopped status.Stopped = true
is_stopped other = false

-- a status is none of these three
abbrev pub is_unfinished : Status → Bool
is_unfinished st = not (is_success st || is_error st || is_stopped st)

-- how many rows have such a status
abbrev pub rows_at : (Status → Bool) → List RowState → ℕ
rows_at p rows = count_by (λ row. p (row_status row)) rows

-- some row has such a status
abbrev pub any_at : (Status → Bool) → List RowState → Bool
any_at p rows = list_any (λ row. p (row_status row)) rows

-- an execution has ended: its plan failed, or each of its rows is over
abbrev pub has_ended : ExecState → Bool
has_ended exec = exec.plan_failed || list_all is_over exec.rows

-- the status of an execution, by whether its plan failed and by its rows
abbrev pub status_by : Bool → List RowState → ExecStatus
status_by true rows = stands.Failed
status_by false rows =
    if any_at is_unfinished rows then stands.InProgress
    else (if any_at is_error rows then stands.Failed
    else (if any_at is_stopped rows then stands.Stopped else stands.Succeed))

-- an execution as it is told
abbrev pub exec_view : ExecState → ExecView
exec_view exec = record {
  exec = record { 0 = exec.exec };
  policy = exec.policy;
  trigger = exec.trigger;
  began = exec.began;
  status = status_by exec.plan_failed exec.rows;
  total = length exec.rows;
  succeed = rows_at is_success exec.rows;
  failed = rows_at is_error exec.rows;
  in_progress = rows_at is_unfinished exec.rows;
  stopped = rows_at is_stopped exec.rows;
}

-- a row of the execution of this number as it is told
abbrev pub row_view : ℕ → RowState → RowView
row_view exec row = record {
  job = record { 0 = row.job };
  exec = record { 0 = exec };
  rev = (joined row.received).0;
  status = (joined row.received).1;
  from = row.spec.from;
  to = row.spec.to;
}

-- 1 for true and 0 for false
abbrev pub one_if : Bool → ℕ
one_if b = cond b 1 0

-- the counters of an execution count its rows: those at Success, at Error, at Stopped, and those
-- that are over
pub record CountRows (rows : List RowState) (succeed failed stopped over : ℕ) : Type 0 where
  pub succeed_is : succeed ≡ rows_at is_success rows
  pub failed_is : failed ≡ rows_at is_error rows
  pub stopped_is : stopped ≡ rows_at is_stopped rows
  pub over_is : over ≡ count_by is_over rows

-- the row at this place received a hook, and the other rows are as before
pub record RowReceives (rows : List RowState) (at : ℕ) (hook : Hook) (raised : Bool)
    (after : List RowState) : Type 0 where
  pub row : RowState
  pub there : slice_get rows at ≡ Some row
  pub set : after ≡ slice_set rows at (row_with row hook)
  pub rose : RoseIf raised row.received (with_hook row.received hook)
