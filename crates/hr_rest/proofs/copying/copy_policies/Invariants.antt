-- What was copied so far.
use Rattle.std.proofs.Common.{◌≡◌, take}
use Rattle.hr_rest.proofs.copying.copy_policies.Given as goal

abbrev pub invariant-loop-policy : goal.invariant-loop-policy
invariant-loop-policy l = l.made ≡ take l.policy-index l.policies
