use Rattle.std.proofs.Common.{◌≡◌}
use Rattle.hr_ruled.specs.declared.rule.Role.TheVariants.{Queue}
use Rattle.hr_ruled.proofs.tests.race.open_all.Given as goal

abbrev pub invariant-loop-job : goal.invariant-loop-job
invariant-loop-job g l = (l.seat.role ≡ Queue) × (l.seat.parts ≡ l.fn.seat.parts)
