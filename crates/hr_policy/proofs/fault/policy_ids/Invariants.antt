use Rattle.std.proofs.Common.{◌≡◌, map, take}
use Rattle.hr_policy.proofs.fault.policy_ids.Given as goal

abbrev pub invariant-loop-policy : goal.invariant-loop-policy
invariant-loop-policy l = l.found.items ≡ map (λ p. p.id.0) (take l.policy-index l.policies)
