use Rattle.std.proofs.Common.{◌≡◌, map, take}
use Rattle.hr_policy.proofs.fault.reg_ids.Given as goal

abbrev pub invariant-loop-registry : goal.invariant-loop-registry
invariant-loop-registry l = l.found.items ≡ map (λ r. r.id.0) (take l.registry-index l.registries)
