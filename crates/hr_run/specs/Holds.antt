-- What holds of the core at every moment. (Our own.)
use Rattle.std.specs.Prelude.{◌≡◌, ℕ, ◌+◌, ◌<◌, ◌≤◌, true, List, length, Some, IfSome}
use Rattle.std.specs.List.{AllByRecursion, Contains, sum_by}
use Rattle.hr_base.specs.declared.status.Status.{Status}
use Rattle.hr_base.specs.declared.status.Status.TheVariants as status
use Rattle.hr_base.specs.declared.status.Hook.{Hook}
use Rattle.hr_event.specs.declared.task.TaskSpec.{TaskSpec}
use Rattle.hr_event.specs.declared.task.Turn.{Turn}
use Rattle.hr_board.specs.Plain.{IsLawful, view_of}
use Rattle.hr_board.specs.View as board
use Rattle.hr_board.specs.View.{Noted, Notes, Place, Word}
use Rattle.hr_line.specs.Finals.{EndsHold}
use Rattle.hr_line.specs.Hooks.{HooksTell}
use Rattle.hr_line.specs.Orderly.{IsOrderly}
use Rattle.hr_line.specs.State.{State, held_at}
use Rattle.hr_line.specs.declared.held.Admitted.{Admitted}
use Rattle.hr_lane.specs.Admission.{AreNoted}
use Rattle.hr_queue.specs.Gains.{Agrees}
use Rattle.hr_queue.specs.Whole.{IsWhole}
use Rattle.hr_store.specs.Laws.{hooks_of_job}
use Rattle.hr_store.specs.Row.{RowState}
use Rattle.hr_store.specs.Store.{StoreState, row_of_job}
use Rattle.hr_run.specs.State.{CoreState, hook_at, hook_place, queued_from, spec_of, status_word, was_delivered}
use Rattle.hr_run.specs.Weight.{final_weight, lane_weight, stop_weight}

-- a word covers a status: it is that one, or one of a greater code
abbrev pub CoveredBy : Status → Word → Type 0
CoveredBy status.Pending word = 1 ≤ word
CoveredBy status.Scheduled word = 2 ≤ word
CoveredBy status.Running word = 3 ≤ word
CoveredBy status.Stopped word = word ≡ 4
CoveredBy status.Error word = word ≡ 5
CoveredBy status.Success word = word ≡ 6

-- a task has from 1 to 4 attempts
abbrev pub HasAttempts : TaskSpec → Type 0
HasAttempts spec = (1 ≤ spec.attempts) × (spec.attempts ≤ 4)

-- a revision of a job that was made, below its attempts
pub record IsRevision (made : List TaskSpec) (job rev : ℕ) : Type 0 where
  pub spec : TaskSpec
  pub copies : spec_of made job ≡ Some spec
  pub within : rev < spec.attempts
  pub few : spec.attempts ≤ 4

-- a revision that was admitted, with what its job copies
pub record IsTask (made : List TaskSpec) (a : Admitted) : Type 0 where
  pub copies : spec_of made a.job.0 ≡ Some a.spec
  pub within : a.rev < a.spec.attempts
  pub few : a.spec.attempts ≤ 4

-- an emitted hook: it is of a revision of a job that was made, whose word was noted at its status
pub record IsEmitted (made : List TaskSpec) (notes : Notes) (hook : Hook) : Type 0 where
  pub revision : IsRevision made hook.job.0 hook.rev
  pub noted : Noted notes (hook_place hook) (status_word hook.status)

-- a received hook of a job: its word was noted at what covers it
pub record IsCovered (notes : Notes) (job : ℕ) (hook : Hook) : Type 0 where
  pub of_job : hook.job.0 ≡ job
  pub small : hook.rev ≤ 3
  pub word : Word
  pub noted : Noted notes (hook_place hook) word
  pub covers : CoveredBy hook.status word

-- the hook of a number is among those that its job's row received, where that is kept
pub record IsReceived (hooks : List Hook) (store : StoreState) (number : ℕ) : Type 0 where
  pub hook : Hook
  pub is : hook_at hooks number ≡ Some hook
  pub received : (heard : List Hook) → hooks_of_job hook.job.0 store.kept ≡ Some heard
      → Contains heard hook

-- a lane of the core: it is in order, each end that its journal has is one that a revision may come
-- to, its hooks go with its journal, and each revision that was admitted to it is of a job that was
-- made, and was noted at Running
pub record IsServing (made : List TaskSpec) (seen : board.View) (lane : State) : Type 0 where
  pub orderly : IsOrderly lane
  pub ends : EndsHold lane
  pub hooks : HooksTell lane
  pub tasks : AllByRecursion (IsTask made) lane.admitted
  pub noted : AreNoted lane.admitted seen

-- a turn of this job and revision is out
pub record IsTurnOut (out : List Turn) (job rev : ℕ) : Type 0 where
  pub turn : Turn
  pub there : Contains out turn
  pub of_job : turn.job.0 ≡ job
  pub of_rev : turn.rev ≡ rev

-- of each revision that a lane holds the turn is out
abbrev pub HoldsOut : List Turn → State → Type 0
HoldsOut out lane =
    (job : ℕ) → IfSome (held_at lane.held job) (λ h. IsTurnOut out job h.by.rev)

-- what holds of the core at every moment
pub record Holds (s : CoreState) : Type 0 where
  -- of the board and of the queue
  pub lawful : IsLawful s.board.words s.board.past
  pub whole : IsWhole s.turns
  pub agrees : Agrees s.turns (view_of s.board)
  -- each job that was made was added to the queue, and no other; their rows tell what they copy
  pub added : s.turns.added ≡ queued_from 0 s.made
  pub numbered : s.store.jobs ≡ length s.made
  pub fits : s.store.limit ≤ (view_of s.board).jobs
  pub few : AllByRecursion HasAttempts s.made
  pub planned : IfSome s.plan (AllByRecursion HasAttempts)
  pub rows : (job : ℕ) (row : RowState) → row_of_job job s.store.kept ≡ Some row
      → spec_of s.made job ≡ Some row.spec
  -- each lane is in order, and what it holds is out
  pub lanes : AllByRecursion (IsServing s.made (view_of s.board)) s.lanes
  pub held : AllByRecursion (HoldsOut s.turns.out) s.lanes
  -- the emitted hooks are those of the lanes and those of stops
  pub shares : (g : Hook → ℕ)
      → sum_by g s.hooks ≡ sum_by (lane_weight g) s.lanes + sum_by (stop_weight g) s.hooks
  -- each own final move of the board has its emitted hook, and each of a final status its move
  pub finals : (f : Place × Word → ℕ)
      → sum_by f s.board.past.finals ≡ sum_by (final_weight f) s.hooks
  pub emitted : AllByRecursion (IsEmitted s.made s.board.past.notes) s.hooks
  -- what rows received is covered by what was noted, and what was delivered was received
  pub received : (job : ℕ) (heard : List Hook) → hooks_of_job job s.store.kept ≡ Some heard
      → AllByRecursion (IsCovered s.board.past.notes job) heard
  pub delivered : (number : ℕ) → was_delivered s.delivered number ≡ true
      → IsReceived s.hooks s.store number
