use Rattle.std.proofs.Common.{◌≡◌, replicate}
use Rattle.hr_opening.specs.Setup.{no_setup}
use Rattle.hr_opening.proofs.setup.empty_setups.Given as goal

abbrev pub invariant-loop-reg : goal.invariant-loop-reg
invariant-loop-reg l = l.setups.items ≡ replicate l._reg no_setup
