use Rattle.std.proofs.Common.{◌≡◌, Ok, take}
use Rattle.hr_json.specs.Node.{values_of}
use Rattle.hr_policy.specs.Step.{each}
use Rattle.hr_policy.specs.Reading.{policy_of}
use Rattle.hr_policy.proofs.policy.read_policies.Given as goal

abbrev pub invariant-loop-at : goal.invariant-loop-at
invariant-loop-at l = each policy_of (take l.at (values_of l.items)) ≡ Ok l.found
