-- None of the lanes so far holds the job.
use Rattle.std.proofs.Common.{◌≡◌, ◌<◌, ℕ, slice_index_or}
use Rattle.std.specs.Prelude.{None}
use Rattle.hr_line.specs.State.{held_at}
use Rattle.hr_core.proofs.lanes.find_lane.Given as goal

abbrev pub invariant-loop-at : goal.invariant-loop-at
invariant-loop-at g l = (k : ℕ) (d : _) → k < l.at → held_at (slice_index_or l.lanes k d).held l.job.0 ≡ None
