-- No slash stands from this place on.
use Rattle.std.proofs.Common.{◌≤◌, length, drop}
use Rattle.hr_route.specs.Path.{HasNoSlash}
use Rattle.hr_route.proofs.path.last_slash.Given as goal

abbrev pub invariant-loop-at : goal.invariant-loop-at
invariant-loop-at l = record { within : l.at ≤ length l.bytes; none : HasNoSlash (drop l.at l.bytes) }

abbrev pub decreases-loop-at : goal.decreases-loop-at
decreases-loop-at l = l.at
