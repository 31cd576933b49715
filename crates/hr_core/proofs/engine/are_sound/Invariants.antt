-- The connections of every lane so far are sound.
use Rattle.std.proofs.Common.{ℕ, ◌<◌, slice_index_or}
use Rattle.hr_promise.specs.Lane.{IsLaneSound}
use Rattle.hr_core.proofs.engine.are_sound.Given as goal

abbrev pub invariant-loop-at : goal.invariant-loop-at
invariant-loop-at g l = (k : ℕ) (d : _) → k < l.at → IsLaneSound (slice_index_or l.lanes k d)
