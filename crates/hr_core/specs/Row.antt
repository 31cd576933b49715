-- What the core asks its store for: the row of a job. (Our own.)
use Rattle.std.specs.Prelude.{◌≡◌, ℕ, Some}
use Rattle.hr_event.specs.declared.task.TaskSpec.{TaskSpec}
use Rattle.hr_store.specs.Row.{RowState}
use Rattle.hr_store.specs.Store.{row_of_job}
use Rattle.hr_run.specs.State.{CoreState}

-- the row of a job is kept, and its task has so many attempts
pub record HasRow (s : CoreState) (job attempts : ℕ) : Type 0 where
  pub row : RowState
  pub there : row_of_job job s.store.kept ≡ Some row
  pub few : attempts ≡ row.spec.attempts

-- the row of a job is kept, and this is what it copies
pub record HasSpec (s : CoreState) (job : ℕ) (spec : TaskSpec) : Type 0 where
  pub row : RowState
  pub there : row_of_job job s.store.kept ≡ Some row
  pub copies : spec ≡ row.spec
