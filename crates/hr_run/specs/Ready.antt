-- What the calls of the core ask of it at every moment, beside what its lanes, its board, its queue
-- and its store keep to themselves. (Our own.)
use Rattle.std.specs.Prelude.{◌≡◌, ◌≤◌, ℕ, List, ◌++◌, length, slice_get, Some, None, IfSome, IsSome}
use Rattle.std.specs.List.{AllByRecursion}
use Rattle.hr_event.specs.declared.task.TaskSpec.{TaskSpec}
use Rattle.hr_event.specs.declared.task.Turn.{Turn}
use Rattle.hr_board.specs.Plain.{view_of}
use Rattle.hr_line.specs.State.{State, held_at, link_at}
use Rattle.hr_lane.specs.Admission.{AreNoted}
use Rattle.hr_queue.specs.Adding.{IsFit}
use Rattle.hr_queue.specs.View.{AreDistinct}
use Rattle.hr_run.specs.Holds.{Holds}
use Rattle.hr_run.specs.State.{CoreState, lane_of, queued_from}

-- the lane of a task is there, and has both connections of it
pub record CanRun (lanes : List State) (spec : TaskSpec) : Type 0 where
  pub lane : State
  pub there : slice_get lanes (lane_of lanes spec) ≡ Some lane
  pub source : IsSome (link_at lane.sources spec.src)
  pub dest : IsSome (link_at lane.dests spec.dst)

-- what the calls of the core ask at every moment: what holds then, a lane, which has the
-- connections of each task that is planned and of each that was made, and no more jobs than the
-- store may make
pub record IsReady (s : CoreState) : Type 0 where
  pub holds : Holds s
  pub some_lane : 1 ≤ length s.lanes
  pub planned : IfSome s.plan (AllByRecursion (CanRun s.lanes))
  pub made : AllByRecursion (CanRun s.lanes) s.made
  pub within : s.store.jobs ≤ s.store.limit

-- ---- what single calls ask

-- a job is on the board
pub record IsOnBoard (s : CoreState) (job : ℕ) : Type 0 where
  pub first : 1 ≤ job
  pub within : job ≤ (view_of s.board).jobs

-- a turn that went out is of a revision on the board
pub record IsTurnOnBoard (s : CoreState) (turn : Turn) : Type 0 where
  pub job : IsOnBoard s turn.job.0
  pub rev : turn.rev ≤ 3

-- a lane may be asked to admit the revision of a turn with what it copies
pub record CanAdmit (s : CoreState) (lane : State) (turn : Turn) (spec : TaskSpec) : Type 0 where
  pub source : IsSome (link_at lane.sources spec.src)
  pub dest : IsSome (link_at lane.dests spec.dst)
  pub free : held_at lane.held turn.job.0 ≡ None
  pub noted : AreNoted lane.admitted (view_of s.board)

-- these tasks may be added to the queue as the next jobs
pub record CanAdd (s : CoreState) (specs : List TaskSpec) : Type 0 where
  pub fit : AllByRecursion (IsFit (view_of s.board).jobs) (queued_from (length s.made) specs)
  pub new : AreDistinct (s.turns.added ++ queued_from (length s.made) specs)
