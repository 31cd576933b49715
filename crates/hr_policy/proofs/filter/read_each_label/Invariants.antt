use Rattle.std.proofs.Common.{◌≡◌, Ok, take}
use Rattle.hr_json.specs.Node.{values_of}
use Rattle.hr_policy.specs.Step.{each, field}
use Rattle.hr_policy.specs.Choice.{label_in}
use Rattle.hr_policy.specs.declared.key.Key.TheVariants as key
use Rattle.hr_policy.proofs.filter.read_each_label.Given as goal

abbrev pub invariant-loop-at : goal.invariant-loop-at
invariant-loop-at l = each (λ item. field l.policy key.Value (label_in item)) (take l.at (values_of l.items)) ≡ Ok l.found
