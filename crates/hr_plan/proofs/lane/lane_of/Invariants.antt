-- The sum so far, which fits since a name has at most 255 bytes.
use Rattle.std.proofs.Common.{◌≡◌, ◌≤◌, ◌+◌, ◌*◌, sum, take}
use Rattle.hr_plan.proofs.lane.lane_of.Given as goal

abbrev pub invariant-loop-byte : goal.invariant-loop-byte
invariant-loop-byte l = record {
  adds : l.sum ≡ sum (take l.byte-index l.byte-items) + l.fn.dst.0;
  small : l.sum ≤ 255 * l.byte-index + 255;
}
