-- What becomes of a turn that is given back, by the words of its job. (Our own.)
use Rattle.std.specs.Prelude.{◌≡◌, ◌≢◌, ◌⊎◌, ℕ, ◌+◌, ◌<◌, ◌≤◌, [], ◌∷◌}
use Rattle.hr_base.specs.declared.status.Mark.{Mark}
use Rattle.hr_base.specs.declared.status.Mark.TheVariants.{Unopened, At}
use Rattle.hr_base.specs.declared.status.Status.{Status}
use Rattle.hr_base.specs.declared.status.Status.TheVariants.{Scheduled, Stopped, Error}
use Rattle.hr_base.specs.Status.{word_of, IsFinal}
use Rattle.hr_board.specs.View as board
use Rattle.hr_board.specs.View.{Place, place_of, Finds, noting, moving}
use Rattle.hr_event.specs.declared.task.Turn.{Turn}
use Rattle.hr_queue.specs.declared.fate.Fate.{Fate}
use Rattle.hr_queue.specs.declared.fate.Fate.TheVariants as fate

-- where the word of a turn stands
abbrev pub place_at : Turn → Place
place_at t = place_of t.job.0 t.rev

-- where the word of the revision after a turn's stands
abbrev pub place_after : Turn → Place
place_after t = place_of t.job.0 (t.rev + 1)

-- a look at the word of a turn found this mark
pub record LooksAt (b : board.View) (t : Turn) (mark : Mark) (c : board.View) : Type 0 where
  pub finds : Finds b (place_at t) (word_of mark)
  pub after : c ≡ noting b ((place_at t, word_of mark) ∷ [])

-- the word of the next revision opens as Scheduled
pub record OpensLater (b : board.View) (t : Turn) (c : board.View) : Type 0 where
  pub finds : Finds b (place_after t) (word_of Unopened)
  pub after : c ≡ moving b (place_after t) (word_of Unopened) (word_of (At Scheduled))

-- the word of the next revision is at this other mark already, and stays
pub record FindsLater (b : board.View) (t : Turn) (mark : Mark) (c : board.View) : Type 0 where
  pub other : mark ≢ Unopened
  pub finds : Finds b (place_after t) (word_of mark)
  pub after : c ≡ noting b ((place_after t, word_of mark) ∷ [])

-- the revision is not over
pub record IsUnfinished (b : board.View) (t : Turn) (c : board.View) : Type 0 where
  pub mark : Mark
  pub word : word_of mark < 4
  pub looks : LooksAt b t mark c

-- the revision ended its job: it is over, and no attempt is left where it failed
pub record EndsIt (b : board.View) (t : Turn) (rev : ℕ) (status : Status) (c : board.View)
    : Type 0 where
  pub at : rev ≡ t.rev
  pub final : IsFinal status
  pub last : status ≡ Error → t.attempts ≤ rev + 1
  pub looks : LooksAt b t (At status) c

-- the revision failed with an attempt left, and the next one was stopped before it began
pub record FindsStopped (b : board.View) (t : Turn) (rev : ℕ) (status : Status) (c : board.View)
    : Type 0 where
  pub at : rev ≡ t.rev + 1
  pub left : rev < t.attempts
  pub stopped : status ≡ Stopped
  pub mid : board.View
  pub looks : LooksAt b t (At Error) mid
  pub found : FindsLater mid t (At Stopped) c

-- the revision failed with an attempt left, and the next one follows
pub record OpensNext (b : board.View) (t : Turn) (c : board.View) : Type 0 where
  pub left : t.rev + 1 < t.attempts
  pub mid : board.View
  pub looks : LooksAt b t (At Error) mid
  pub opens : OpensLater mid t c
      ⊎ ((mark : Mark) × (mark ≢ At Stopped) × FindsLater mid t mark c)

-- what becomes of a turn
abbrev pub IsFate : board.View → Turn → Fate → board.View → Type 0
IsFate b t fate.Unfinished c = IsUnfinished b t c
IsFate b t (fate.Over rev status) c = EndsIt b t rev status c ⊎ FindsStopped b t rev status c
IsFate b t fate.Next c = OpensNext b t c
