-- That what can be copied arrives, and what was copied where an execution succeeded. (Our own, over
-- OCI Image 1.1 and Harbor's job service.)
use Rattle.std.specs.Prelude.{◌≡◌, ◌⊎◌, ⊤, ℕ, List, [], ◌∷◌, ◌++◌, Contains, Option, Some}
use Rattle.std.specs.List.{AllByRecursion}
use Rattle.hr_event.specs.declared.event.Event.{Event}
use Rattle.hr_event.specs.declared.event.Event.TheVariants as event
use Rattle.hr_event.specs.declared.task.TaskSpec.{TaskSpec}
use Rattle.hr_event.specs.declared.told.Told.{Told}
use Rattle.hr_event.specs.declared.view.ExecStatus.TheVariants as stands
use Rattle.hr_board.specs.View.{place_of}
use Rattle.hr_line.specs.Finals.{IsFinished}
use Rattle.hr_line.specs.Orderly.{admitted_at}
use Rattle.hr_line.specs.State.{State}
use Rattle.hr_line.specs.declared.held.Admitted.{Admitted}
use Rattle.hr_promise.specs.Arrives.{RanOutOfMemory, TaskCanArrive}
use Rattle.hr_promise.specs.Holds.{HasSource}
use Rattle.hr_store.specs.Execution.{ExecState, exec_view}
use Rattle.hr_run.specs.Claims.{word_at}
use Rattle.hr_run.specs.Run.{Does}
use Rattle.hr_run.specs.Sound.{IsSound}
use Rattle.hr_run.specs.State.{CoreState, spec_of}

-- events one after the other, each of them wholly done, with their answers
abbrev pub RunsThrough : CoreState → List Event → List Told → CoreState → Type 0
RunsThrough s [] said t = (t ≡ s) × (said ≡ [])
RunsThrough s (e ∷ events) said t = (mid : CoreState) × (answers later : List Told)
    × Does s e answers mid × IsSound mid × RunsThrough mid events later t
    × (said ≡ answers ++ later)

-- ---- what can be copied

-- a task reads from a connection that each of these lanes was opened with
abbrev pub LanesHaveSource : List State → TaskSpec → Type 0
LanesHaveSource lanes spec = AllByRecursion (λ lane. HasSource lane spec) lanes

-- a task can be copied by each of these lanes, as they were opened
abbrev pub LanesCanCopy : List State → TaskSpec → Type 0
LanesCanCopy lanes spec = AllByRecursion (λ lane. TaskCanArrive lane spec) lanes

-- there is a plan, and all of it can be copied by these lanes, as they were opened
pub record CanArrive (lanes : List State) (plan : Option (List TaskSpec)) : Type 0 where
  pub specs : List TaskSpec
  pub planned : plan ≡ Some specs
  pub each : AllByRecursion (LanesCanCopy lanes) specs

-- ---- what is asked for

-- a finish is among these events
abbrev pub HasFinish : List Event → Type 0
HasFinish [] = ⊥
HasFinish (event.Finish ∷ more) = ⊤
HasFinish (_ ∷ more) = HasFinish more

-- an event stops no job, and a trigger has a finish among the events behind it; whatever is taken,
-- stepped, given back, delivered, forged or swept between them
abbrev pub AsksForAll : Event → List Event → Type 0
AsksForAll (event.Trigger policy) more = HasFinish more
AsksForAll (event.Stop job) more = ⊥
AsksForAll _ more = ⊤

-- so it is with each of these events: all that is planned is asked for, to its end
abbrev pub AskForAll : List Event → Type 0
AskForAll [] = ⊤
AskForAll (e ∷ more) = AsksForAll e more × AskForAll more

-- ---- how it ends

-- an execution succeeded: its plan was made, and each of its rows is at Success
abbrev pub Succeeds : ExecState → Type 0
Succeeds exec = (exec_view exec).status ≡ stands.Succeed

-- each execution that is kept succeeded
abbrev pub ExecsSucceed : CoreState → Type 0
ExecsSucceed s = AllByRecursion Succeeds s.store.kept

-- the journal of a lane has an error by want of memory
pub record WantedMemory (lanes : List State) : Type 0 where
  pub lane : State
  pub there : Contains lanes lane
  pub ran_out : RanOutOfMemory lane

-- each execution that is kept succeeded, and so did the first revision of each job that was made
pub record AllArrived (t : CoreState) : Type 0 where
  pub execs : ExecsSucceed t
  pub words : (job : ℕ) (spec : TaskSpec) → spec_of t.made job ≡ Some spec
      → word_at t.board (place_of job 0) ≡ 6

-- all arrived, or memory was wanting
abbrev pub Arrives : CoreState → Type 0
Arrives t = AllArrived t ⊎ WantedMemory t.lanes

-- ---- what was copied

-- a lane admitted a revision of a job with this task, and each tag of it was put, names the
-- manifest already, or names another one that is kept
pub record IsTaskCopied (s : CoreState) (job : ℕ) (spec : TaskSpec) : Type 0 where
  pub lane : State
  pub there : Contains s.lanes lane
  pub rev : ℕ
  pub by : Admitted
  pub admitted : admitted_at lane.admitted job rev ≡ Some by
  pub for : by.spec ≡ spec
  pub tags : AllByRecursion (IsFinished by lane.log) spec.tags
