-- No connection so far is to the registry.
use Rattle.std.proofs.Common.{ℕ, ◌<◌, slice_index_or}
use Rattle.std.specs.Prelude.{◌≢◌}
use Rattle.hr_lane.proofs.conn.place.Given as goal

abbrev pub invariant-loop-at : goal.invariant-loop-at
invariant-loop-at g l = (k : ℕ) (d : _) → k < l.at → (slice_index_or l.conns k d).reg ≢ l.reg
