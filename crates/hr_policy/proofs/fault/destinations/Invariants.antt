use Rattle.std.proofs.Common.{◌≡◌, map, take}
use Rattle.hr_policy.proofs.fault.destinations.Given as goal

abbrev pub invariant-loop-policy : goal.invariant-loop-policy
invariant-loop-policy l = l.found.items ≡ map (λ p. p.dst.0) (take l.policy-index l.policies)
