-- Where the row of a job stands in a store: job numbers rise, so that a binary search finds it. (Our own.)
use Rattle.std.specs.Prelude.{◌≡◌, ℕ, suc, ◌+◌, ◌<◌, nat_lt, if◌then◌else◌, List, [], ◌∷◌, length, get_or, Option, Some, None}
use Rattle.hr_store.specs.Row.{RowState}
use Rattle.hr_store.specs.Execution.{ExecState, last_job}
use Rattle.hr_store.specs.Store.{row_of_job}

-- how many at the front have a lower number
abbrev pub rank_by : {X : Type 0} → (X → ℕ) → ℕ → List X → ℕ
rank_by number_of n [] = 0
rank_by number_of n (x ∷ xs) = if nat_lt (number_of x) n then suc (rank_by number_of n xs) else 0

-- the row of a job stands at this place of the execution at that one
pub record RowStands (kept : List ExecState) (job at place : ℕ) : Type 0 where
  pub exec : ExecState
  pub row : RowState
  pub rank : at ≡ rank_by last_job job kept
  pub within : at < length kept
  pub exec_is : exec ≡ get_or kept at exec
  pub row_within : place < length exec.rows
  pub row_is : row ≡ get_or exec.rows place row
  pub job_is : job ≡ exec.before + place + 1
  pub there : row_of_job job kept ≡ Some row

-- what a search for the row of a job answers: the places of its execution and of the row there
abbrev pub FindsRow : List ExecState → ℕ → Option (ℕ × ℕ) → Type 0
FindsRow kept job None = row_of_job job kept ≡ None
FindsRow kept job (Some places) = RowStands kept job places.0 places.1
