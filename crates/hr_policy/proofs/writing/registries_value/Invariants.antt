use Rattle.std.proofs.Common.{◌≡◌, map, take}
use Rattle.serde_json.specs.View.{view}
use Rattle.hr_policy.specs.Written.{registry_value}
use Rattle.hr_policy.proofs.writing.registries_value.Given as goal

abbrev pub invariant-loop-registry : goal.invariant-loop-registry
invariant-loop-registry l = map view l.list.items ≡ map registry_value (take l.registry-index l.registries)
