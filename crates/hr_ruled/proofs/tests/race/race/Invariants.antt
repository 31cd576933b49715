use Rattle.std.proofs.Common.{◌≡◌, vec_len}
use Rattle.hr_ruled.proofs.tests.race.race.Given as goal

abbrev pub invariant-loop-round : goal.invariant-loop-round
invariant-loop-round g l =
    (l.seat.role ≡ l.fn.seat.role) × (l.seat.parts ≡ l.fn.seat.parts) × (vec_len l.won ≡ 4000)
