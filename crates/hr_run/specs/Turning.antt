-- What is done with a turn: it is taken and admitted to its lane, stepped, and given back. (Our
-- own, after Harbor's job service.)
use Rattle.std.specs.Prelude.{◌≡◌, ◌⊎◌, ℕ, List, Some, None, IsSome}
use Rattle.std.specs.List.{AllByRecursion, Contains}
use Rattle.hr_base.specs.declared.number.JobNo.{JobNo}
use Rattle.hr_base.specs.declared.status.Mark.{Mark}
use Rattle.hr_event.specs.declared.task.Turn.{Turn}
use Rattle.hr_event.specs.declared.told.Told.{Told}
use Rattle.hr_event.specs.declared.told.Told.TheVariants as told
use Rattle.hr_board.specs.Plain.{view_of}
use Rattle.hr_board.specs.View.{place_of}
use Rattle.hr_line.specs.State.{State, held_at}
use Rattle.hr_line.specs.declared.answer.Admit.{Admit}
use Rattle.hr_line.specs.declared.answer.Admit.TheVariants as admit
use Rattle.hr_line.specs.declared.answer.Stepped.{Stepped}
use Rattle.hr_lane.specs.Admission.{AdmitsWord, by_turn}
use Rattle.hr_lane.specs.Word.{FindsMark, Steps}
use Rattle.hr_queue.specs.ByJob.{IsOut, NoneOut}
use Rattle.hr_queue.specs.Settling.{SettlesHeld}
use Rattle.hr_queue.specs.Taking.{Takes}
use Rattle.hr_queue.specs.declared.answer.Settled.{Settled}
use Rattle.hr_queue.specs.declared.answer.Settled.TheVariants as settled
use Rattle.hr_queue.specs.declared.answer.Taken.{Taken}
use Rattle.hr_queue.specs.declared.answer.Taken.TheVariants as taken
use Rattle.hr_promise.specs.Lane.{StepTells}
use Rattle.hr_store.specs.Row.{RowState}
use Rattle.hr_store.specs.Store.{row_of_job}
use Rattle.hr_run.specs.Part.{CallsLane}
use Rattle.hr_run.specs.Sound.{IsSound}
use Rattle.hr_run.specs.State.{CoreState, lane_of}

-- ---- a take

-- what a take of the queue did, and nothing else
pub record GoesOut (s : CoreState) (came : Taken) (t : CoreState) : Type 0 where
  pub takes : Takes s.now s.turns came t.turns
  pub after : t ≡ record s { turns = t.turns }

-- what is answered where no turn goes out
abbrev pub RestTells : Taken → Told → Type 0
RestTells (taken.Turn turn) answer = ⊥
RestTells (taken.Later due) answer = answer ≡ told.Later due
RestTells (taken.Busy out) answer = answer ≡ told.Busy out
RestTells taken.Idle answer = answer ≡ told.Idle

-- no turn went out
pub record TakesNone (s : CoreState) (answer : Told) (t : CoreState) : Type 0 where
  pub came : Taken
  pub rests : GoesOut s came t
  pub tells : RestTells came answer

-- what is answered to an admission; want of memory is no answer
abbrev pub AdmitTells : Turn → Admit → Told → Type 0
AdmitTells turn admit.Began answer = answer ≡ told.Began turn.job turn.rev
AdmitTells turn (admit.Lost mark) answer = answer ≡ told.Lost turn.job mark
AdmitTells turn admit.Memory answer = ⊥

-- the revision of a turn was admitted to its lane, or lost
pub record AdmitsTurn (s : CoreState) (turn : Turn) (answer : Told) (t : CoreState) : Type 0 where
  pub row : RowState
  pub there : row_of_job turn.job.0 s.store.kept ≡ Some row
  pub lane : State
  pub worked : State
  pub came : Admit
  pub calls : CallsLane s (lane_of s.lanes row.spec) lane worked t
  pub admits : AdmitsWord lane worked (by_turn turn row.spec) (view_of s.board) (view_of t.board)
      came
  pub tells : AdmitTells turn came answer

-- the row of the turn's job was swept: no lane is asked, and the word found is told
pub record FindsSwept (s : CoreState) (turn : Turn) (answer : Told) (t : CoreState) : Type 0 where
  pub gone : row_of_job turn.job.0 s.store.kept ≡ None
  pub mark : Mark
  pub finds : FindsMark (view_of s.board) (view_of t.board) (place_of turn.job.0 turn.rev) mark
  pub tells : answer ≡ told.Lost turn.job mark
  pub after : t ≡ record s { board = t.board }

-- a turn goes out, and its revision is admitted
pub record TakesTurn (s : CoreState) (answer : Told) (t : CoreState) : Type 0 where
  pub turn : Turn
  pub mid : CoreState
  pub out : GoesOut s (taken.Turn turn) mid
  pub sound : IsSound mid
  pub admits : AdmitsTurn mid turn answer t ⊎ FindsSwept mid turn answer t

-- ---- a step

-- no lane holds a job
abbrev pub NoneHolds : List State → JobNo → Type 0
NoneHolds lanes job = AllByRecursion (λ lane. held_at lane.held job.0 ≡ None) lanes

-- the lane that holds a job did one step of it
pub record StepsJob (s : CoreState) (job : JobNo) (answer : Told) (t : CoreState) : Type 0 where
  pub at : ℕ
  pub lane : State
  pub worked : State
  pub came : Stepped
  pub holds : IsSome (held_at lane.held job.0)
  pub calls : CallsLane s at lane worked t
  pub steps : Steps lane worked job (view_of s.board) (view_of t.board) came
  pub tells : StepTells job came worked.log answer

-- no lane holds it
pub record StepsNone (s : CoreState) (job : JobNo) (answer : Told) (t : CoreState) : Type 0 where
  pub none : NoneHolds s.lanes job
  pub tells : answer ≡ told.NotHere job
  pub same : t ≡ s

-- ---- giving back a turn

-- what is answered to a turn that was given back
abbrev pub settled_told : JobNo → Settled → Told
settled_told job settled.NotOut = told.NotOut job
settled_told job settled.Back = told.Back job
settled_told job (settled.Done status) = told.Done job status
settled_told job (settled.Again due) = told.Again job due

-- no turn of the job is out
pub record FindsNotOut (s : CoreState) (job : JobNo) (answer : Told) (t : CoreState) : Type 0 where
  pub none : NoneOut s.turns.out job
  pub tells : answer ≡ told.NotOut job
  pub same : t ≡ s

-- its turn is out, and a lane holds it
pub record FindsHeld (s : CoreState) (job : JobNo) (answer : Told) (t : CoreState) : Type 0 where
  pub turn : Turn
  pub out : (turn.job ≡ job) × IsOut s.turns.out turn turn
  pub lane : State
  pub there : Contains s.lanes lane
  pub holds : IsSome (held_at lane.held job.0)
  pub tells : answer ≡ told.InLane job
  pub same : t ≡ s

-- its turn was out, no lane holds it, and the queue took it back
pub record SettlesOut (s : CoreState) (job : JobNo) (answer : Told) (t : CoreState) : Type 0 where
  pub turn : Turn
  pub of_job : turn.job ≡ job
  pub none : NoneHolds s.lanes job
  pub came : Settled
  pub settles : SettlesHeld s.now s.turns (view_of s.board) turn came t.turns (view_of t.board)
  pub tells : answer ≡ settled_told job came
  pub after : t ≡ record s { board = t.board; turns = t.turns }
