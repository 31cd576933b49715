-- The parts of which events are made: each changes a few things, and leaves what holds of the core.
-- (Our own.)
use Rattle.std.specs.Prelude.{◌≡◌, ◌≤◌, ℕ, suc, List, [], ◌∷◌, ◌++◌, length, slice_get, slice_set, Option, Some, None}
use Rattle.std.specs.List.{AllByRecursion}
use Rattle.hr_base.specs.declared.number.ExecNo.{ExecNo}
use Rattle.hr_base.specs.declared.number.JobNo.{JobNo}
use Rattle.hr_base.specs.declared.number.Moment.{Moment}
use Rattle.hr_base.specs.declared.number.PolicyNo.{PolicyNo}
use Rattle.hr_base.specs.declared.status.Hook.{Hook}
use Rattle.hr_base.specs.declared.status.Status.TheVariants.{Stopped}
use Rattle.hr_event.specs.declared.task.TaskSpec.{TaskSpec}
use Rattle.hr_event.specs.declared.task.Turn.{Turn}
use Rattle.hr_event.specs.declared.view.Received.{Received}
use Rattle.hr_event.specs.declared.view.Trigger.{Trigger}
use Rattle.hr_board.specs.Plain.{IsLawful, Plain, view_of}
use Rattle.hr_board.specs.Stopping as stopping
use Rattle.hr_board.specs.View as board
use Rattle.hr_board.specs.View.{Keeps, Notes}
use Rattle.hr_board.specs.declared.stopping.StopAnswer.TheVariants as stop
use Rattle.hr_line.specs.State.{State}
use Rattle.hr_line.specs.declared.answer.Admit.{Admit}
use Rattle.hr_line.specs.declared.answer.Stepped.{Stepped}
use Rattle.hr_line.specs.declared.held.Admitted.{Admitted}
use Rattle.hr_lane.specs.Admission.{AdmitsWord}
use Rattle.hr_lane.specs.Word.{Steps}
use Rattle.hr_queue.specs.Gains.{Gains}
use Rattle.hr_queue.specs.Whole.{IsWhole}
use Rattle.hr_store.specs.Creating.{IsCreated}
use Rattle.hr_store.specs.Receiving.{ReceivesHook}
use Rattle.hr_store.specs.Row.{RowState}
use Rattle.hr_store.specs.Store.{row_of_job}
use Rattle.hr_promise.specs.Lane.{IsLaneSound}
use Rattle.hr_run.specs.Holds.{HasAttempts, HoldsOut, IsTask, IsTurnOut}
use Rattle.hr_run.specs.State.{CoreState, hook_at, queued_from, spec_of, with_mark}

-- what a part that opens no word does to the board: it notes words, and ends these
pub record Acts (b c : Plain) (ended : Notes) : Type 0 where
  pub lawful : IsLawful c.words c.past
  pub kept : Keeps (view_of b) (view_of c)
  pub opens : c.past.opens ≡ b.past.opens
  pub finals : c.past.finals ≡ b.past.finals ++ ended

-- what these lanes hold stays out
abbrev pub KeepsOut : List State → List Turn → List Turn → Type 0
KeepsOut lanes before after =
    AllByRecursion (HoldsOut before) lanes → AllByRecursion (HoldsOut after) lanes

-- ---- the parts

-- an execution was made with these tasks, and its jobs were added to the queue
pub record Makes (s t : CoreState) : Type 0 where
  pub policy : PolicyNo
  pub trigger : Trigger
  pub specs : List TaskSpec
  pub now : Moment
  pub exec : ExecNo
  pub few : AllByRecursion HasAttempts specs
  pub created : IsCreated s.store policy trigger specs now exec t.store
  pub lawful : IsLawful t.board.words t.board.past
  pub whole : IsWhole t.turns
  pub gains : Gains s.turns (view_of s.board) (queued_from (length s.made) specs)
      t.turns (view_of t.board)
  pub out : t.turns.out ≡ s.turns.out
  pub made : t.made ≡ s.made ++ specs
  pub after : t ≡ record s { board = t.board; turns = t.turns; store = t.store; made = t.made }

-- the queue gave a turn, took one back, or took room
pub record Turns (s t : CoreState) : Type 0 where
  pub lawful : IsLawful t.board.words t.board.past
  pub whole : IsWhole t.turns
  pub gains : Gains s.turns (view_of s.board) [] t.turns (view_of t.board)
  pub held : KeepsOut s.lanes s.turns.out t.turns.out
  pub after : t ≡ record s { board = t.board; turns = t.turns }

-- one call of a lane, with what it does to the board: it admits a revision of a job that was made,
-- whose turn is out, or makes a step
pub data LaneDoes (made : List TaskSpec) (out : List Turn) (lane worked : State)
    (v w : board.View) : Type 0 where
  admits : (a : Admitted) (came : Admit) → IsTask made a → IsTurnOut out a.job.0 a.rev
      → AdmitsWord lane worked a v w came → LaneDoes made out lane worked v w
  steps : (job : JobNo) (came : Stepped) → Steps lane worked job v w came
      → LaneDoes made out lane worked v w

-- the lane at a place was called, and the hooks that it gave, the newest first, were emitted: one
-- at most
pub record CallsLane (s : CoreState) (at : ℕ) (lane worked : State) (t : CoreState) : Type 0 where
  pub there : slice_get s.lanes at ≡ Some lane
  pub sound : IsLaneSound lane
  pub sound_after : IsLaneSound worked
  pub more : List Hook
  pub gave : worked.hooks ≡ more ++ lane.hooks
  pub lanes : t.lanes ≡ slice_set s.lanes at worked
  pub hooks : t.hooks ≡ s.hooks ++ more
  pub after : t ≡ record s { board = t.board; lanes = t.lanes; hooks = t.hooks }

-- a lane admitted a revision, or made a step
pub record Works (s t : CoreState) : Type 0 where
  pub at : ℕ
  pub lane : State
  pub worked : State
  pub calls : CallsLane s at lane worked t
  pub does : LaneDoes s.made s.turns.out lane worked (view_of s.board) (view_of t.board)
  pub lawful : IsLawful t.board.words t.board.past

-- the hook of a stop
abbrev pub stop_hook : JobNo → ℕ → Hook
stop_hook job rev = record { job = job; rev = rev; status = Stopped }

-- a revision of a job was stopped, and its hook emitted
pub record Stops (s t : CoreState) : Type 0 where
  pub job : JobNo
  pub spec : TaskSpec
  pub copies : spec_of s.made job.0 ≡ Some spec
  pub rev : ℕ
  pub stopped : stopping.Stops (view_of s.board) job.0 spec.attempts (stop.Stopped rev)
      (view_of t.board)
  pub lawful : IsLawful t.board.words t.board.past
  pub hooks : t.hooks ≡ s.hooks ++ stop_hook job rev ∷ []
  pub after : t ≡ record s { board = t.board; hooks = t.hooks }

-- the marks of deliveries after the hook at a place, from 0, was delivered; a forged one has none
abbrev pub Marks : CoreState → Hook → Option ℕ → CoreState → Type 0
Marks s hook None t = t.delivered ≡ s.delivered
Marks s hook (Some place) t = (hook_at s.hooks (suc place) ≡ Some hook)
    × (t.delivered ≡ with_mark s.delivered place)

-- the store was given a hook: an emitted one, by its place from 0, or a forged one
pub record Receives (s t : CoreState) : Type 0 where
  pub hook : Hook
  pub small : hook.rev ≤ 3
  pub place : Option ℕ
  pub came : Received
  pub receives : ReceivesHook s.store (view_of s.board) hook came t.store (view_of t.board)
  pub lawful : IsLawful t.board.words t.board.past
  pub marks : Marks s hook place t
  pub after : t ≡ record s { board = t.board; store = t.store; delivered = t.delivered }

-- rows went, words were noted, or the moment moved
pub record Passes (s t : CoreState) : Type 0 where
  pub acts : Acts s.board t.board []
  pub jobs : t.store.jobs ≡ s.store.jobs
  pub limit : t.store.limit ≡ s.store.limit
  pub rows : (job : ℕ) (row : RowState) → row_of_job job t.store.kept ≡ Some row
      → row_of_job job s.store.kept ≡ Some row
  pub after : t ≡ record s { board = t.board; store = t.store; now = t.now }

-- one part
pub data Part (s t : CoreState) : Type 0 where
  makes : Makes s t → Part s t
  turns : Turns s t → Part s t
  works : Works s t → Part s t
  stops : Stops s t → Part s t
  receives : Receives s t → Part s t
  passes : Passes s t → Part s t

-- some parts, one after another
pub data Parts : CoreState → CoreState → Type 0 where
  none : (s : CoreState) → Parts s s
  next : (s m t : CoreState) → Part s m → Parts m t → Parts s t
