use Rattle.std.proofs.Common.{◌≡◌, ◌∷◌, [], take}
use Rattle.std.specs.List.{flat_map}
use Rattle.hr_policy.proofs.fault.used.Given as goal

abbrev pub invariant-loop-policy : goal.invariant-loop-policy
invariant-loop-policy l = l.found.items ≡ flat_map (λ p. p.src.0 ∷ p.dst.0 ∷ []) (take l.policy-index l.policies)
