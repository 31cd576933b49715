-- What adding jobs does. (Our own.)
use Rattle.std.specs.Prelude.{◌≡◌, ◌≢◌, ◌⊎◌, ℕ, ◌-◌, ◌≤◌, List, [], ◌∷◌, ◌++◌}
use Rattle.hr_base.specs.declared.status.Mark.{Mark}
use Rattle.hr_base.specs.declared.status.Mark.TheVariants.{Unopened, At}
use Rattle.hr_base.specs.declared.status.Status.TheVariants.{Pending}
use Rattle.hr_base.specs.Status.{word_of}
use Rattle.hr_board.specs.View as board
use Rattle.hr_board.specs.View.{Place, place_of, Finds, noting, moving}
use Rattle.hr_event.specs.declared.task.Turn.{Turn}
use Rattle.hr_queue.specs.declared.answer.Queued.{Queued}
use Rattle.hr_queue.specs.View.{View}

-- a job that may be added, over a board of so many jobs
abbrev pub IsFit : ℕ → Queued → Type 0
IsFit jobs job =
    (1 ≤ job.job.0) × (job.job.0 ≤ jobs) × (1 ≤ job.attempts) × (job.attempts ≤ 4)

-- the turn of a new job: its revision 0
abbrev pub first_turn : Queued → Turn
first_turn job = record { job = job.job; rev = 0; attempts = job.attempts }

-- where the word of a job's revision 0 stands
abbrev pub first_place : Queued → Place
first_place job = place_of job.job.0 0

-- the word of revision 0 opens as Pending
pub record OpensFirst (b : board.View) (job : Queued) (c : board.View) : Type 0 where
  pub finds : Finds b (first_place job) (word_of Unopened)
  pub after : c ≡ moving b (first_place job) (word_of Unopened) (word_of (At Pending))

-- the word of revision 0 is at another mark already, and stays
pub record FindsFirst (b : board.View) (job : Queued) (c : board.View) : Type 0 where
  pub mark : Mark
  pub other : mark ≢ Unopened
  pub finds : Finds b (first_place job) (word_of mark)
  pub after : c ≡ noting b ((first_place job, word_of mark) ∷ [])

-- one job goes to the end of the waiting ones, whatever its word is
pub record AddsOne (q : View) (b : board.View) (job : Queued) (r : View) (c : board.View)
    : Type 0 where
  pub opens : OpensFirst b job c ⊎ FindsFirst b job c
  pub after : r ≡ record q {
    waiting = q.waiting ++ first_turn job ∷ [];
    added = q.added ++ job ∷ [];
    spare = q.spare - 1;
  }

-- so does each of them, in order
pub data Adds (q : View) (b : board.View) : List Queued → View → board.View → Type 0 where
  none_yet : Adds q b [] q b
  one_more : (jobs : List Queued) (job : Queued) (m r : View) (d c : board.View)
      → Adds q b jobs m d → AddsOne m d job r c → Adds q b (jobs ++ job ∷ []) r c
