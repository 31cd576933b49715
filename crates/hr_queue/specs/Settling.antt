-- What giving back a turn does. (Our own.)
use Rattle.std.specs.Prelude.{◌≡◌, ◌⊎◌, ℕ, ◌+◌, ◌*◌, ◌^◌, List, [], ◌∷◌, ◌++◌}
use Rattle.std.specs.List.Sorted.{IsPermutation}
use Rattle.hr_base.specs.declared.number.Moment.{Moment}
use Rattle.hr_base.specs.declared.status.Status.{Status}
use Rattle.hr_base.specs.Moment.{later_by}
use Rattle.hr_board.specs.View as board
use Rattle.hr_event.specs.declared.task.Turn.{Turn}
use Rattle.hr_queue.specs.declared.answer.Settled.{Settled}
use Rattle.hr_queue.specs.declared.answer.Settled.TheVariants as settled
use Rattle.hr_queue.specs.declared.delayed.Delayed.{Delayed}
use Rattle.hr_queue.specs.declared.fate.Fate.{Fate}
use Rattle.hr_queue.specs.declared.fate.Fate.TheVariants as fate
use Rattle.hr_queue.specs.Fate.{IsFate}
use Rattle.hr_queue.specs.ByJob.{IsOut, NotOut, without_job}
use Rattle.hr_queue.specs.View.{View, due_of, turn_of}

-- how many seconds a job waits after its revision of this number failed
abbrev pub backoff_of : ℕ → ℕ
backoff_of rev = 10 * 2 ^ rev

-- the queue after a turn goes to the end of the waiting ones
abbrev pub back_of : View → Turn → View
back_of q t = record q { out = without_job q.out t.job.0; waiting = q.waiting ++ t ∷ [] }

-- the queue after the job of a turn is over
abbrev pub done_of : View → Turn → ℕ → Status → View
done_of q t rev status = record q {
  out = without_job q.out t.job.0;
  done = q.done ++ record { job = t.job; rev = rev; status = status } ∷ [];
}

-- the revision after the turn's is delayed by the turn's backoff
pub record IsDelayed (now : ℕ) (delayed : List Delayed) (t : Turn) (due : ℕ)
    (after : List Delayed) : Type 0 where
  pub one : Delayed
  pub at : due_of one ≡ due
  pub is : turn_of one ≡ record t { rev = t.rev + 1 }
  pub when : due ≡ later_by now (backoff_of t.rev)
  pub more : IsPermutation (one ∷ delayed) after

-- where a turn goes, by what becomes of it
abbrev pub Goes : ℕ → View → Turn → Fate → Settled → View → Type 0
Goes now q t fate.Unfinished answer r = (answer ≡ settled.Back) × (r ≡ back_of q t)
Goes now q t (fate.Over rev status) answer r =
    (answer ≡ settled.Done status) × (r ≡ done_of q t rev status)
Goes now q t fate.Next answer r = (due : Moment)
    × (answer ≡ settled.Again due)
    × IsDelayed now q.delayed t due.0 r.delayed
    × (r ≡ record q { out = without_job q.out t.job.0; delayed = r.delayed })

-- the turn was out, and goes where its word says, by the attempts with which its job was added
pub record SettlesHeld (now : ℕ) (q : View) (b : board.View) (turn : Turn) (answer : Settled)
    (r : View) (c : board.View) : Type 0 where
  pub held : Turn
  pub out : IsOut q.out turn held
  pub what : Fate
  pub fate : IsFate b held what c
  pub goes : Goes now q held what answer r

-- the turn was not out, and nothing changes
pub record SettlesNone (q : View) (b : board.View) (turn : Turn) (answer : Settled) (r : View)
    (c : board.View) : Type 0 where
  pub none : NotOut q.out turn
  pub is : answer ≡ settled.NotOut
  pub stays : r ≡ q
  pub same : c ≡ b

-- what giving back a turn does
abbrev pub Settles : ℕ → View → board.View → Turn → Settled → View → board.View → Type 0
Settles now q b turn answer r c =
    SettlesNone q b turn answer r c ⊎ SettlesHeld now q b turn answer r c
