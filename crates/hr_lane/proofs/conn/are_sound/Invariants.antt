-- Every connection so far is sound.
use Rattle.std.proofs.Common.{ℕ, ◌<◌, slice_index_or}
use Rattle.hr_adapter.specs.Reg.{IsSound}
use Rattle.hr_lane.proofs.conn.are_sound.Given as goal

abbrev pub invariant-loop-at : goal.invariant-loop-at
invariant-loop-at g l =
    (k : ℕ) (d : _) → k < l.at → IsSound (g.A.Registry.seen (slice_index_or l.conns k d).link)
