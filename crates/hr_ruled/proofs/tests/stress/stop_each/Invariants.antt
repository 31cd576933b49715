use Rattle.std.proofs.Common.{◌≡◌, vec_len}
use Rattle.hr_ruled.specs.declared.rule.Role.TheVariants.{Control}
use Rattle.hr_ruled.proofs.tests.stress.stop_each.Given as goal

abbrev pub invariant-loop-turn : goal.invariant-loop-turn
invariant-loop-turn g l =
    (l.control.role ≡ Control) × (l.control.parts ≡ l.fn.control.parts) × (vec_len l.stops ≡ 12000)
