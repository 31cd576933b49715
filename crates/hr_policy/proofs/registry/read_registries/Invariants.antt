use Rattle.std.proofs.Common.{◌≡◌, Ok, take}
use Rattle.hr_json.specs.Node.{values_of}
use Rattle.hr_policy.specs.Step.{each}
use Rattle.hr_policy.specs.Reading.{registry_of}
use Rattle.hr_policy.proofs.registry.read_registries.Given as goal

abbrev pub invariant-loop-at : goal.invariant-loop-at
invariant-loop-at l = each registry_of (take l.at (values_of l.items)) ≡ Ok l.found
