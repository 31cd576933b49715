-- What the core does with one of its lanes. (Our own.)
use Rattle.std.specs.List.{Contains}
use Rattle.std.specs.Prelude.{◌≡◌, ◌≤◌, ℕ, List, ◌++◌, slice_get, Some, None, IsSome}
use Rattle.hr_base.specs.declared.number.JobNo.{JobNo}
use Rattle.hr_base.specs.declared.status.Hook.{Hook}
use Rattle.hr_event.specs.declared.task.TaskSpec.{TaskSpec}
use Rattle.hr_event.specs.declared.task.Turn.{Turn}
use Rattle.hr_event.specs.declared.told.Told.{Told}
use Rattle.hr_board.specs.Plain.{view_of}
use Rattle.hr_board.specs.View.{View}
use Rattle.hr_line.specs.State.{State, held_at, link_at}
use Rattle.hr_line.specs.declared.answer.Admit.{Admit}
use Rattle.hr_line.specs.declared.answer.Stepped.{Stepped}
use Rattle.hr_line.specs.declared.answer.Stepped.TheVariants as stepped
use Rattle.hr_lane.specs.Admission.{AdmitsWord, AreNoted, by_turn}
use Rattle.hr_lane.specs.Word.{Steps}
use Rattle.hr_run.specs.Part.{CallsLane}
use Rattle.hr_run.specs.State.{CoreState}
use Rattle.hr_run.specs.Ready.{IsReady}
use Rattle.hr_run.specs.Turning.{AdmitTells, NoneHolds, StepsJob}
use Rattle.hr_promise.specs.Answer.{last_done}
use Rattle.hr_promise.specs.Lane.{IsLaneSound}

-- the lane at a place holds a job
pub record HoldsAt (lanes : List State) (job : JobNo) (at : ℕ) : Type 0 where
  pub lane : State
  pub there : slice_get lanes at ≡ Some lane
  pub holds : IsSome (held_at lane.held job.0)

-- a lane was called, and the hooks that it gave, the newest first, were emitted
pub record Emits (lane worked : State) (before after : List Hook) : Type 0 where
  pub sound : IsLaneSound lane
  pub sound_after : IsLaneSound worked
  pub more : List Hook
  pub gave : worked.hooks ≡ more ++ lane.hooks
  pub hooks : after ≡ before ++ more

-- a lane was asked to admit the revision of a turn, and its hook was emitted
pub record LaneAdmits (lane worked : State) (turn : Turn) (spec : TaskSpec) (v w : View)
    (before after : List Hook) (answer : Told) : Type 0 where
  pub came : Admit
  pub admits : AdmitsWord lane worked (by_turn turn spec) v w came
  pub tells : AdmitTells turn came answer
  pub emits : Emits lane worked before after

-- the lane at a place, which holds a job, did one step of it, and this came of it
pub record StepsAt (s : CoreState) (at : ℕ) (job : JobNo) (came : Stepped) (t : CoreState)
    : Type 0 where
  pub lane : State
  pub worked : State
  pub holds : IsSome (held_at lane.held job.0)
  pub calls : CallsLane s at lane worked t
  pub steps : Steps lane worked job (view_of s.board) (view_of t.board) came
  pub tells : came ≡ stepped.Did → IsSome (last_done worked.log)

-- a lane may be asked to admit the revision of a turn, with what it copies
pub record CanTake (lane : State) (board : View) (turn : Turn) (spec : TaskSpec) : Type 0 where
  pub first : 1 ≤ turn.job.0
  pub within : turn.job.0 ≤ board.jobs
  pub rev : turn.rev ≤ 3
  pub source : IsSome (link_at lane.sources spec.src)
  pub dest : IsSome (link_at lane.dests spec.dst)
  pub free : held_at lane.held turn.job.0 ≡ None
  pub noted : AreNoted lane.admitted board

-- one step of a job was done
abbrev pub DidStep : CoreState → JobNo → CoreState → Type 0
DidStep s job t = (answer : Told) × StepsJob s job answer t

-- a turn is out, no lane holds its job, and the core is ready for its admission
pub record IsAdmissible (s : CoreState) (turn : Turn) : Type 0 where
  pub ready : IsReady s
  pub out : Contains s.turns.out turn
  pub free : NoneHolds s.lanes turn.job
