use Rattle.std.proofs.Common.{◌+◌, ◌*◌, length}
use Rattle.hr_pattern.specs.Item.{is_any, MeetsByte}
use Rattle.hr_pattern.proofs.CoversLemmas.{Walk}
use Rattle.hr_pattern.proofs.covering.covers_some_end.Given as goal

abbrev pub invariant-loop-byte : goal.invariant-loop-byte
invariant-loop-byte l = Walk is_any MeetsByte l.items l.bytes l.behind_star l.tried l.asked l.left

abbrev pub decreases-loop-byte : goal.decreases-loop-byte
decreases-loop-byte l = length l.tried * (length l.items + 1) + length l.asked
