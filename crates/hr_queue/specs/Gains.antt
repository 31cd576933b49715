-- What the calls of a queue add up to: the jobs that end, and the words that open. (Our own.)
use Rattle.std.specs.Prelude.{◌≡◌, ℕ, ◌+◌, ◌<◌, ◌≤◌, List, ◌++◌}
use Rattle.std.specs.List.{AllByRecursion, Contains}
use Rattle.hr_base.specs.declared.status.Mark.TheVariants.{At}
use Rattle.hr_base.specs.Status.{word_of}
use Rattle.hr_board.specs.Over.{EndsJob}
use Rattle.hr_board.specs.View as board
use Rattle.hr_board.specs.View.{Place, Notes, Noted, Keeps, place_of}
use Rattle.hr_queue.specs.declared.answer.DoneJob.{DoneJob}
use Rattle.hr_queue.specs.declared.answer.Queued.{Queued}
use Rattle.hr_queue.specs.View.{View, times_in, times_delayed, times_done}

-- a done job is over by a noted mark: its last revision, below the attempts with which it was
-- added, was noted at what ends a job of so many
pub record IsDone (added : List Queued) (notes : Notes) (over : DoneJob) : Type 0 where
  pub attempts : ℕ
  pub known : Contains added (record { job = over.job; attempts = attempts })
  pub few : attempts ≤ 4
  pub within : over.rev < attempts
  pub noted : Noted notes (place_of over.job.0 over.rev) (word_of (At over.status))
  pub ends : EndsJob attempts (over.rev, over.status)

-- the place is that of a revision of an added job, below its attempts
pub record MayOpen (added : List Queued) (place : Place) : Type 0 where
  pub job : Queued
  pub known : Contains added job
  pub few : job.attempts ≤ 4
  pub rev : ℕ
  pub within : rev < job.attempts
  pub is : place ≡ place_of job.job.0 rev

-- what a call of a queue over a board adds to both: these jobs, words that it opens, and jobs that
-- are done; it ends no revision
pub record Gains (q : View) (b : board.View) (jobs : List Queued) (r : View) (c : board.View)
    : Type 0 where
  pub added : r.added ≡ q.added ++ jobs
  pub kept : Keeps b c
  pub finals : c.finals ≡ b.finals
  pub places : List Place
  pub opens : c.opens ≡ b.opens ++ places
  pub may : AllByRecursion (MayOpen r.added) places
  pub ended : List DoneJob
  pub done : r.done ≡ q.done ++ ended
  pub over : AllByRecursion (IsDone r.added c.notes) ended

-- a queue and its board agree: each done job is over by a noted mark, and each word that the board
-- opened itself is of an added job, below its attempts
pub record Agrees (q : View) (b : board.View) : Type 0 where
  pub over : AllByRecursion (IsDone q.added b.notes) q.done
  pub may : AllByRecursion (MayOpen q.added) b.opens

-- how often a job stands in the lists of a queue
abbrev pub times_listed : View → ℕ → ℕ
times_listed q job = times_in q.waiting job + times_delayed q.delayed job + times_in q.out job
    + times_done q.done job
