-- What a step and an admission do to the word of the revision, as the board sees it before and
-- after. (Our own.)
use Rattle.std.specs.Prelude.{◌≡◌, ◌≢◌, ◌⊎◌, [], ◌∷◌, Some, Result, Ok, Err}
use Rattle.hr_base.specs.Status.{word_of}
use Rattle.hr_base.specs.declared.number.JobNo.{JobNo}
use Rattle.hr_base.specs.declared.status.Mark.{Mark}
use Rattle.hr_base.specs.declared.status.Mark.TheVariants.{At}
use Rattle.hr_base.specs.declared.status.Status.{Status}
use Rattle.hr_base.specs.declared.status.Status.TheVariants.{Running}
use Rattle.hr_board.specs.View.{View, Place, Finds, noting, moving, place_of}
use Rattle.hr_line.specs.State.{State, held_at}
use Rattle.hr_line.specs.Step.{Drops, Ends, GoesOn, Step}
use Rattle.hr_line.specs.declared.answer.Stepped.{Stepped}
use Rattle.hr_line.specs.declared.answer.Stepped.TheVariants as stepped
use Rattle.hr_line.specs.declared.held.Held.{Held}

-- the word was found at this mark, and was noted
pub record FindsMark (before after : View) (place : Place) (mark : Mark) : Type 0 where
  pub finds : Finds before place (word_of mark)
  pub noted : after ≡ noting before ((place, word_of mark) ∷ [])

-- the word was found at another mark than this one
abbrev pub FindsOther : View → View → Place → Mark → Mark → Type 0
FindsOther before after place expected mark =
    FindsMark before after place mark × (mark ≢ expected)

-- the word was moved from one mark to another
pub record MovesMark (before after : View) (place : Place) (from to : Mark) : Type 0 where
  pub finds : Finds before place (word_of from)
  pub moved : after ≡ moving before place (word_of from) (word_of to)

-- the last move was made, or the word was found at another mark
abbrev pub ClosesWord : View → View → Place → Result Status Mark → Type 0
ClosesWord before after place (Ok status) = MovesMark before after place (At Running) (At status)
ClosesWord before after place (Err mark) = FindsOther before after place (At Running) mark

-- the word was found at Running, and then the last move was tried
pub record LooksAndCloses (before after : View) (place : Place) (closed : Result Status Mark)
    : Type 0 where
  pub looked : View
  pub looks : FindsMark before looked place (At Running)
  pub closes : ClosesWord looked after place closed

-- of the word of the revision that is held of a job
pub record OfWord (s : State) (job : JobNo) (P : Place → Type 0) : Type 0 where
  pub held : Held
  pub here : held_at s.held job.0 ≡ Some held
  pub word : P (place_of job.0 held.by.rev)

-- one step of a job, by its answer, with what it does to the word: it looks first, and does nothing
-- more where the word isn't at Running
abbrev pub Steps : State → State → JobNo → View → View → Stepped → Type 0
Steps s t job v w stepped.NotHere = Step s t job stepped.NotHere × (w ≡ v)
Steps s t job v w stepped.Did =
    GoesOn s t job × OfWord s job (λ place. FindsMark v w place (At Running))
Steps s t job v w (stepped.Lost mark) =
    (Drops s t job × OfWord s job (λ place. FindsOther v w place (At Running) mark))
    ⊎ (Ends s t job (Err mark) × OfWord s job (λ place. LooksAndCloses v w place (Err mark)))
Steps s t job v w (stepped.Ended status) =
    Ends s t job (Ok status) × OfWord s job (λ place. LooksAndCloses v w place (Ok status))
