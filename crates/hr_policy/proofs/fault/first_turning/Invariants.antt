use Rattle.std.proofs.Common.{◌≡◌, drop}
use Rattle.hr_policy.specs.Fault.{first_turning}
use Rattle.hr_policy.proofs.fault.first_turning.Given as goal

abbrev pub invariant-loop-policy : goal.invariant-loop-policy
invariant-loop-policy l = first_turning l.policies ≡ first_turning (drop l.policy-index l.policies)
