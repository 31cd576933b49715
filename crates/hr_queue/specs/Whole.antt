-- What holds of a queue at every moment. (Our own.)
use Rattle.std.specs.Prelude.{◌≡◌, ℕ, ◌+◌, ◌<◌, ◌≤◌, List}
use Rattle.std.specs.List.{AllByRecursion, Contains}
use Rattle.hr_event.specs.declared.task.Turn.{Turn}
use Rattle.hr_queue.specs.declared.answer.DoneJob.{DoneJob}
use Rattle.hr_queue.specs.declared.answer.Queued.{Queued}
use Rattle.hr_queue.specs.declared.delayed.Delayed.{Delayed}
use Rattle.hr_queue.specs.ByJob.{IsRising}
use Rattle.hr_queue.specs.View.{View, AreDistinct, turn_of, times_in, times_delayed, times_done, times_added}

-- a turn that a queue may hold: a revision below the attempts of its job, which are 4 at most
pub record IsTurn (t : Turn) : Type 0 where
  pub job : 1 ≤ t.job.0
  pub rev : t.rev < t.attempts
  pub attempts : t.attempts ≤ 4

-- the turn is of an added job, and has the attempts with which that was added
abbrev pub IsAdded : List Queued → Turn → Type 0
IsAdded added t = Contains added (record { job = t.job; attempts = t.attempts })

-- each turn is one that a queue may hold, and those that are out stand by job number
pub record AreTurns (waiting : List Turn) (delayed : List Delayed) (out : List Turn) : Type 0 where
  pub waits : AllByRecursion IsTurn waiting
  pub delays : AllByRecursion (λ d. IsTurn (turn_of d)) delayed
  pub outs : AllByRecursion IsTurn out
  pub rising : IsRising out

-- each turn is of an added job
pub record AreAdded (waiting : List Turn) (delayed : List Delayed) (out : List Turn)
    (added : List Queued) : Type 0 where
  pub waits : AllByRecursion (IsAdded added) waiting
  pub delays : AllByRecursion (λ d. IsAdded added (turn_of d)) delayed
  pub outs : AllByRecursion (IsAdded added) out

-- the four lists hold each of these jobs once, in one of them, with its attempts, and no other job
pub record HoldEach (waiting : List Turn) (delayed : List Delayed) (out : List Turn)
    (done : List DoneJob) (added : List Queued) : Type 0 where
  pub turns : AreTurns waiting delayed out
  pub known : AreAdded waiting delayed out added
  pub once : (job : ℕ)
      → times_in waiting job + times_delayed delayed job + times_in out job + times_done done job
      ≡ times_added added job
  pub distinct : AreDistinct added

-- every added job stands in exactly one list of the queue, and no other job in any
abbrev pub IsWhole : View → Type 0
IsWhole q = HoldEach q.waiting q.delayed q.out q.done q.added
