-- Where a job stands, by its words. (Our own.)
use Rattle.std.specs.Prelude.{◌≡◌, ℕ, ◌+◌, ◌<◌, ◌≤◌, ◌⊎◌, List, slice_index}
use Rattle.hr_base.specs.declared.status.Status.{Status}
use Rattle.hr_base.specs.declared.status.Status.TheVariants.{Pending}
use Rattle.hr_base.specs.declared.status.Mark.TheVariants.{At}
use Rattle.hr_base.specs.Status.{word_of}
use Rattle.hr_board.specs.View.{Word, place_of}

-- none of the revisions from the first to below the second is opened
abbrev pub NoneOpened : List Word → ℕ → ℕ → ℕ → Type 0
NoneOpened words job first count =
    (rev : ℕ) → first ≤ rev → rev < count → slice_index words (place_of job rev) ≡ 0

-- the row is the last opened of so many revisions, with its status
pub record IsLastOpened (words : List Word) (job count : ℕ) (row : ℕ × Status) : Type 0 where
  pub within : row.0 < count
  pub word : slice_index words (place_of job row.0) ≡ word_of (At row.1)
  pub last : NoneOpened words job (row.0 + 1) count

-- the row is the last opened of so many revisions, or (0, Pending) where none is opened
abbrev pub IsCurrent : List Word → ℕ → ℕ → ℕ × Status → Type 0
IsCurrent words job count row =
    IsLastOpened words job count row ⊎ (NoneOpened words job 0 count × (row ≡ (0, Pending)))
