-- The store: executions with the rows of their jobs, in order of creation. (Our own.)
use Rattle.std.specs.Prelude.{◌≡◌, ℕ, suc, ◌^◌, ◌<◌, ◌≤◌, nat_eq, true, if◌then◌else◌, List, [], ◌∷◌, map, Option, Some, None, IsSome}
use Rattle.std.specs.List.{AllByRecursion}
use Rattle.indexmap.specs.IndexMap.{IndexMap, get}
use Rattle.hr_base.specs.declared.status.Hook.{Hook}
use Rattle.hr_event.specs.declared.view.RowView.{RowView}
use Rattle.hr_store.specs.Row.{RowState, row_with}
use Rattle.hr_store.specs.Execution.{ExecState, last_job, row_view}

-- the store: how many jobs it may make, how many jobs and executions it made, and the executions
-- that it keeps, in order of creation
pub record StoreState : Type 0 where
  pub limit : ℕ
  pub jobs : ℕ
  pub made : ℕ
  pub kept : List ExecState

-- ---- look-ups by number

-- the row of a job among these
abbrev pub row_among : ℕ → List RowState → Option RowState
row_among job [] = None
row_among job (row ∷ rows) = if nat_eq row.job job then Some row else row_among job rows

-- the first of two rows that is there
abbrev pub first_row : Option RowState → Option RowState → Option RowState
first_row (Some row) other = Some row
first_row None other = other

-- the row of a job, where it is kept
abbrev pub row_of_job : ℕ → List ExecState → Option RowState
row_of_job job [] = None
row_of_job job (exec ∷ execs) = first_row (row_among job exec.rows) (row_of_job job execs)

-- the hooks that a row received; none where it is not there
abbrev pub hooks_in : Option RowState → List Hook
hooks_in None = []
hooks_in (Some row) = row.received

-- the execution of a number, where it is kept
abbrev pub exec_numbered : ℕ → List ExecState → Option ExecState
exec_numbered number [] = None
exec_numbered number (exec ∷ execs) =
    if nat_eq exec.exec number then Some exec else exec_numbered number execs

-- the rows of an execution as they are told; none where it is not there
abbrev pub tasks_in : Option ExecState → List RowView
tasks_in None = []
tasks_in (Some exec) = map (row_view exec.exec) exec.rows

-- ---- changes of one execution or row

-- the row, where it is that of the hook's job, received the hook
abbrev pub row_hearing : Hook → RowState → RowState
row_hearing hook row = if nat_eq row.job hook.job.0 then row_with row hook else row

-- the row of the hook's job, where this execution has it, received the hook
abbrev pub exec_hearing : Hook → ExecState → ExecState
exec_hearing hook exec = record exec { rows = map (row_hearing hook) exec.rows }

-- the row of the hook's job received the hook
abbrev pub execs_hearing : Hook → List ExecState → List ExecState
execs_hearing hook execs = map (exec_hearing hook) execs

-- the plan of the execution failed, where it has this number
abbrev pub exec_failing : ℕ → ExecState → ExecState
exec_failing number exec = record exec {
  plan_failed = if nat_eq exec.exec number then true else exec.plan_failed;
}

-- the plan of the execution of this number failed
abbrev pub execs_failing : ℕ → List ExecState → List ExecState
execs_failing number execs = map (exec_failing number) execs

-- ---- what a store keeps to

-- rows of jobs that are numbered on from a number
abbrev pub AreNumbered : ℕ → List RowState → Type 0
AreNumbered before [] = Unit {0}
AreNumbered before (row ∷ rows) = (row.job ≡ suc before) × AreNumbered (suc before) rows

-- executions by number, of jobs by number, all above these
abbrev pub AreOrdered : ℕ → ℕ → List ExecState → Type 0
AreOrdered number job [] = Unit {0}
AreOrdered number job (exec ∷ execs) =
    (number < exec.exec) × (job ≤ exec.before) × AreNumbered exec.before exec.rows
    × AreOrdered exec.exec (last_job exec) execs

-- executions and jobs up to these numbers
abbrev pub AreMade : ℕ → ℕ → List ExecState → Type 0
AreMade made jobs execs = AllByRecursion (λ exec. (exec.exec ≤ made) × (last_job exec ≤ jobs)) execs

-- an execution whose plan failed has no rows
abbrev pub FailsBare : ExecState → Type 0
FailsBare exec = exec.plan_failed ≡ true → exec.rows ≡ []

-- the policy of each execution has a count
abbrev pub AreCountable : {S : Type 0} → IndexMap ℕ ℕ S → List ExecState → Type 0
AreCountable counts execs =
    AllByRecursion (λ exec. IsSome (get nat_eq counts exec.policy.0)) execs

-- what a store keeps to at every moment
pub record IsSound {S : Type 0} (limit jobs made : ℕ) (kept : List ExecState)
    (counts : IndexMap ℕ ℕ S) : Type 0 where
  pub few : limit ≤ 262144
  pub numbers : made < 2 ^ 32
  pub within : jobs ≤ limit
  pub ordered : AreOrdered 0 0 kept
  pub were_made : AreMade made jobs kept
  pub no_rows : AllByRecursion FailsBare kept
  pub countable : AreCountable counts kept
