-- What a trigger does: it plans a policy into an execution. (Our own, after Harbor's job service.)
use Rattle.std.specs.Prelude.{◌≡◌, ◌≢◌, ℕ, List, [], ◌++◌, length, Option, Some, None, Ok, Err}
use Rattle.hr_base.specs.declared.number.ExecNo.{ExecNo}
use Rattle.hr_base.specs.declared.number.Moment.{Moment}
use Rattle.hr_base.specs.declared.number.PolicyNo.{PolicyNo}
use Rattle.hr_event.specs.declared.task.TaskSpec.{TaskSpec}
use Rattle.hr_event.specs.declared.told.Told.{Told}
use Rattle.hr_event.specs.declared.told.Told.TheVariants as told
use Rattle.hr_event.specs.declared.view.Trigger.TheVariants.{Manual}
use Rattle.hr_board.specs.Plain.{view_of}
use Rattle.hr_queue.specs.Adding.{Adds}
use Rattle.hr_store.specs.Creating.{CreatesExec}
use Rattle.hr_store.specs.Store.{StoreState, execs_failing}
use Rattle.hr_store.specs.declared.refusal.CreateRefused.TheVariants.{Full}
use Rattle.hr_run.specs.Sound.{IsSound}
use Rattle.hr_run.specs.State.{CoreState, queued_from}

-- the moment of a state
abbrev pub moment_of : CoreState → Moment
moment_of s = record { 0 = s.now }

-- ---- a trigger

-- the queue took room, and nothing else
pub record Reserves (s t : CoreState) : Type 0 where
  pub room : t.turns ≡ record s.turns { spare = t.turns.spare }
  pub after : t ≡ record s { turns = t.turns }

-- an execution was made with these tasks, and its jobs were added to the queue
pub record Creates (s : CoreState) (specs : List TaskSpec) (answer : Told) (t : CoreState)
    : Type 0 where
  pub planned : s.plan ≡ Some specs
  pub mid : CoreState
  pub reserved : Reserves s mid
  pub sound : IsSound mid
  pub exec : ExecNo
  pub created : CreatesExec s.store (record { 0 = 1 }) Manual specs (moment_of s) (Ok exec) t.store
  pub adds : Adds mid.turns (view_of s.board) (queued_from (length s.made) specs) t.turns
      (view_of t.board)
  pub made : t.made ≡ s.made ++ specs
  pub tells : answer ≡ told.Created exec (length specs)
  pub after : t ≡ record mid { board = t.board; turns = t.turns; store = t.store; made = t.made }

-- the tasks that a plan has: none, where it failed
abbrev pub tasks_of : Option (List TaskSpec) → List TaskSpec
tasks_of None = []
tasks_of (Some specs) = specs

-- the store is full: for the planned tasks, or for an execution more
pub record IsFull (s : CoreState) (answer : Told) (t : CoreState) : Type 0 where
  pub jobs : ℕ
  pub refused : CreatesExec s.store (record { 0 = 1 }) Manual (tasks_of s.plan) (moment_of s)
      (Err (Full jobs)) t.store
  pub tells : answer ≡ told.Full jobs
  pub after : Reserves s t

-- an execution without tasks was made, and marked as failed
pub record FailsToPlan (s : CoreState) (answer : Told) (t : CoreState) : Type 0 where
  pub planned : s.plan ≡ None
  pub exec : ExecNo
  pub store : StoreState
  pub created : CreatesExec s.store (record { 0 = 1 }) Manual [] (moment_of s) (Ok exec) store
  pub marked : t.store ≡ record store { kept = execs_failing exec.0 store.kept }
  pub tells : answer ≡ told.PlanFailed exec
  pub after : t ≡ record s { store = t.store }

-- a trigger of a policy: there is policy 1 alone
pub data Triggers (s : CoreState) (policy : PolicyNo) (answer : Told) (t : CoreState) : Type 0 where
  no_policy : policy.0 ≢ 1 → answer ≡ told.NoPolicy policy → t ≡ s → Triggers s policy answer t
  fails : policy.0 ≡ 1 → FailsToPlan s answer t → Triggers s policy answer t
  creates : (specs : List TaskSpec) → policy.0 ≡ 1 → Creates s specs answer t
      → Triggers s policy answer t
  is_full : policy.0 ≡ 1 → IsFull s answer t → Triggers s policy answer t
