-- Room for the jobs of a queue. (Our own.)
use Rattle.std.specs.Prelude.{◌≡◌, ℕ, ◌≤◌, List, length}
use Rattle.hr_queue.specs.declared.answer.Queued.{Queued}
use Rattle.hr_queue.specs.declared.rows.Row.{Row}
use Rattle.hr_queue.specs.Rows.{times_row}
use Rattle.hr_queue.specs.View.{times_added}

-- so many jobs stand in the lists, and each list has room for all jobs for which room was taken
pub record HasRoom (jobs room total waiting delayed out done : ℕ) : Type 0 where
  pub total_is : total ≡ jobs
  pub within : jobs ≤ room
  pub waits : room ≤ waiting
  pub delays : room ≤ delayed
  pub outs : room ≤ out
  pub ends : room ≤ done

-- so many jobs were added, and each of them has a row
pub record HasRows (rows : List Row) (added : List Queued) (jobs : ℕ) : Type 0 where
  pub count : length rows ≡ jobs
  pub each : (job : ℕ) → times_row rows job ≡ times_added added job
