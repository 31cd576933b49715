-- What a stop does to a job, as the board sees it before and after. (Our own.)
use Rattle.std.specs.Prelude.{◌≡◌, ℕ, ◌+◌, ◌<◌, ◌≤◌, Option, Some, None}
use Rattle.std.specs.List.{Contains}
use Rattle.hr_base.specs.declared.status.Status.{Status}
use Rattle.hr_base.specs.declared.status.Status.TheVariants.{Error}
use Rattle.hr_base.specs.declared.status.Mark.TheVariants.{At}
use Rattle.hr_base.specs.Status.{word_of, IsFinal}
use Rattle.hr_board.specs.View.{View, Place, Word, Notes, place_of, Noted, Finds, noting, moving}
use Rattle.hr_board.specs.declared.stopping.StopAnswer.{StopAnswer}
use Rattle.hr_board.specs.declared.stopping.StopAnswer.TheVariants.{Stopped, Final}

-- the call found this word at this place, and noted it
pub record FoundAt (before : View) (more : Notes) (place : Place) (word : Word) : Type 0 where
  pub finds : Finds before place word
  pub noted : Noted more place word

-- each place that the call noted is from the first to the last of these
abbrev pub WithinPlaces : Place → Place → Notes → Type 0
WithinPlaces first last more =
    (note : Place × Word) → Contains more note → (first ≤ note.0) × (note.0 ≤ last)

-- it moved this word, which was not final, to Stopped itself
pub record StopsAt (before : View) (first place : Place) (more : Notes) (after : View)
    : Type 0 where
  pub word : Word
  pub unfinished : word < 4
  pub found : FoundAt before more place word
  pub within : WithinPlaces first place more
  pub moved : after ≡ moving (noting before more) place word (word_of (At Status.Stopped))

-- it found this word final, and moved nothing
pub record FindsFinalAt (before : View) (first place : Place) (more : Notes)
    (status : Status) (after : View) : Type 0 where
  pub final : IsFinal status
  pub found : FoundAt before more place (word_of (At status))
  pub within : WithinPlaces first place more
  pub same : after ≡ noting before more

-- what a stop does at one place: it moves the word, or finds it final
abbrev pub StopsPlace : View → Place → Option Status → View → Type 0
StopsPlace before place None after = (more : Notes) × StopsAt before place place more after
StopsPlace before place (Some status) after =
    (more : Notes) × FindsFinalAt before place place more status after

-- it found each earlier revision at Error, with an attempt left
pub record PassesErrors (before : View) (job attempts rev : ℕ) (more : Notes) : Type 0 where
  pub within : rev < attempts
  pub errors : (r : ℕ) → r < rev → FoundAt before more (place_of job r) (word_of (At Error))

-- what a stop does: at the first revision that is not at Error with an attempt left, it moves the
-- word to Stopped, or finds it final
abbrev pub Stops : View → ℕ → ℕ → StopAnswer → View → Type 0
Stops before job attempts (Stopped rev) after = (more : Notes)
    × PassesErrors before job attempts rev more
    × StopsAt before (place_of job 0) (place_of job rev) more after
Stops before job attempts (Final rev status) after = (more : Notes)
    × PassesErrors before job attempts rev more
    × FindsFinalAt before (place_of job 0) (place_of job rev) more status after
    × (status ≡ Error → attempts ≤ rev + 1)
