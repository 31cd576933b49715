-- When a job is over, by its words and by what was noted of them. (Our own.)
use Rattle.std.specs.Prelude.{◌≡◌, ◌<◌, ◌+◌, ◌⊎◌, ℕ, List}
use Rattle.hr_base.specs.declared.status.Status.{Status}
use Rattle.hr_base.specs.declared.status.Status.TheVariants.{Stopped, Error, Success}
use Rattle.hr_base.specs.declared.status.Mark.TheVariants.{At}
use Rattle.hr_base.specs.Status.{word_of}
use Rattle.hr_board.specs.Current.{IsCurrent}
use Rattle.hr_board.specs.View.{Notes, Noted, Word, place_of}

-- a revision with this status ends a job of so many attempts: it succeeded, was stopped, or failed
-- as the last attempt
abbrev pub EndsJob : ℕ → ℕ × Status → Type 0
EndsJob attempts row =
    (row.1 ≡ Success) ⊎ ((row.1 ≡ Stopped) ⊎ ((row.1 ≡ Error) × (row.0 + 1 ≡ attempts)))

-- a job of so many attempts is over, by the words: the last opened of its revisions ends it
pub record IsOver (words : List Word) (job attempts : ℕ) : Type 0 where
  pub row : ℕ × Status
  pub current : IsCurrent words job attempts row
  pub ends : EndsJob attempts row

-- a job of so many attempts was over, by the notes: one of its revisions was noted at what ends it
pub record WasOver (notes : Notes) (job attempts : ℕ) : Type 0 where
  pub row : ℕ × Status
  pub within : row.0 < attempts
  pub noted : Noted notes (place_of job row.0) (word_of (At row.1))
  pub ends : EndsJob attempts row
