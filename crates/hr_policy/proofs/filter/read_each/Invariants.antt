use Rattle.std.proofs.Common.{◌≡◌, Ok, take}
use Rattle.hr_json.specs.Node.{values_of}
use Rattle.hr_policy.specs.Step.{each_some}
use Rattle.hr_policy.specs.Filter.{filter_of}
use Rattle.hr_policy.proofs.filter.read_each.Given as goal

abbrev pub invariant-loop-at : goal.invariant-loop-at
invariant-loop-at l = each_some (filter_of l.policy) (take l.at (values_of l.items)) ≡ Ok l.found
