-- What contracts see of a queue of turns. (Our own.)
use Rattle.std.specs.Prelude.{ℕ, ◌≤◌, nat_eq, nat_lt, Bool, ◌&&◌, ◌||◌, List, []}
use Rattle.std.specs.List.{count_by}
use Rattle.hr_event.specs.declared.task.Turn.{Turn}
use Rattle.hr_queue.specs.declared.answer.DoneJob.{DoneJob}
use Rattle.hr_queue.specs.declared.answer.Queued.{Queued}
use Rattle.hr_queue.specs.declared.delayed.Delayed.{Delayed}

-- a queue: where its turns stand, and what it was given
pub record View : Type 0 where
  -- the turns that may be taken, in order
  pub waiting : List Turn
  -- the turns that wait for a moment, in no order
  pub delayed : List Delayed
  -- the turns that were taken and not given back, by job number
  pub out : List Turn
  -- the jobs that are over, in the order in which they ended
  pub done : List DoneJob
  -- the jobs that were added, in order
  pub added : List Queued
  -- for how many more jobs there is room
  pub spare : ℕ

-- a queue to which no job was added
abbrev pub empty_queue : View
empty_queue =
    record { waiting = []; delayed = []; out = []; done = []; added = []; spare = 0 }

-- the moment that a delayed turn waits for
abbrev pub due_of : Delayed → ℕ
due_of d = d.due.0.0

-- the job of a delayed turn
abbrev pub job_of : Delayed → ℕ
job_of d = d.job.0.0

-- the turn that a delayed one is, once it is due
abbrev pub turn_of : Delayed → Turn
turn_of d = record { job = d.job.0; rev = d.rev; attempts = d.attempts }

-- the first delayed turn is before the second: by moment, and then by job number
abbrev pub is_sooner : Delayed → Delayed → Bool
is_sooner d e = nat_lt (due_of d) (due_of e)
    || (nat_eq (due_of d) (due_of e) && nat_lt (job_of d) (job_of e))

-- how often a job stands among turns
abbrev pub times_in : List Turn → ℕ → ℕ
times_in turns job = count_by (λ t. nat_eq t.job.0 job) turns

-- how often a job stands among delayed turns
abbrev pub times_delayed : List Delayed → ℕ → ℕ
times_delayed delayed job = count_by (λ d. nat_eq (job_of d) job) delayed

-- how often a job stands among those that are over
abbrev pub times_done : List DoneJob → ℕ → ℕ
times_done done job = count_by (λ d. nat_eq d.job.0 job) done

-- how often a job was added
abbrev pub times_added : List Queued → ℕ → ℕ
times_added added job = count_by (λ a. nat_eq a.job.0 job) added

-- no job stands twice among them
abbrev pub AreDistinct : List Queued → Type 0
AreDistinct jobs = (job : ℕ) → times_added jobs job ≤ 1
