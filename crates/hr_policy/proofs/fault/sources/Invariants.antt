use Rattle.std.proofs.Common.{◌≡◌, map, take}
use Rattle.hr_policy.proofs.fault.sources.Given as goal

abbrev pub invariant-loop-policy : goal.invariant-loop-policy
invariant-loop-policy l = l.found.items ≡ map (λ p. p.src.0) (take l.policy-index l.policies)
