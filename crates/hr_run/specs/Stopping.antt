-- What is done to a job: it is stopped, or looked at. (Our own, after Harbor's job service.)
use Rattle.std.specs.Prelude.{◌≡◌, ℕ, [], ◌∷◌, ◌++◌, Some, None}
use Rattle.hr_base.specs.declared.number.JobNo.{JobNo}
use Rattle.hr_base.specs.declared.status.Mark.{Mark}
use Rattle.hr_base.specs.declared.status.Status.{Status}
use Rattle.hr_event.specs.declared.told.Told.{Told}
use Rattle.hr_event.specs.declared.told.Told.TheVariants as told
use Rattle.hr_board.specs.Plain.{view_of}
use Rattle.hr_board.specs.Stopping as stopping
use Rattle.hr_board.specs.View.{place_of}
use Rattle.hr_board.specs.declared.stopping.StopAnswer.TheVariants as stop
use Rattle.hr_lane.specs.Word.{FindsMark}
use Rattle.hr_store.specs.Row.{RowState}
use Rattle.hr_store.specs.Store.{row_of_job}
use Rattle.hr_run.specs.Part.{stop_hook}
use Rattle.hr_run.specs.State.{CoreState}

-- no row is kept of a job, and nothing was done
pub record FindsNoJob (s : CoreState) (job : JobNo) (answer : Told) (t : CoreState) : Type 0 where
  pub none : row_of_job job.0 s.store.kept ≡ None
  pub tells : answer ≡ told.NoJob job
  pub same : t ≡ s

-- a revision of the job was stopped, and its hook emitted
pub record StopsJob (s : CoreState) (job : JobNo) (answer : Told) (t : CoreState) : Type 0 where
  pub row : RowState
  pub there : row_of_job job.0 s.store.kept ≡ Some row
  pub rev : ℕ
  pub stops : stopping.Stops (view_of s.board) job.0 row.spec.attempts (stop.Stopped rev)
      (view_of t.board)
  pub tells : answer ≡ told.Stopped job rev
  pub hooks : t.hooks ≡ s.hooks ++ stop_hook job rev ∷ []
  pub after : t ≡ record s { board = t.board; hooks = t.hooks }

-- the job was final already
pub record FindsFinal (s : CoreState) (job : JobNo) (answer : Told) (t : CoreState) : Type 0 where
  pub row : RowState
  pub there : row_of_job job.0 s.store.kept ≡ Some row
  pub rev : ℕ
  pub status : Status
  pub stops : stopping.Stops (view_of s.board) job.0 row.spec.attempts (stop.Final rev status)
      (view_of t.board)
  pub tells : answer ≡ told.FinalAt job rev status
  pub after : t ≡ record s { board = t.board }

-- the word of a revision was looked at
pub record LooksAt (s : CoreState) (job : JobNo) (rev : ℕ) (answer : Told) (t : CoreState)
    : Type 0 where
  pub row : RowState
  pub there : row_of_job job.0 s.store.kept ≡ Some row
  pub mark : Mark
  pub finds : FindsMark (view_of s.board) (view_of t.board) (place_of job.0 rev) mark
  pub tells : answer ≡ told.WordIs job rev mark
  pub after : t ≡ record s { board = t.board }
