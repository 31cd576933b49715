-- The values so far.
use Rattle.std.proofs.Common.{◌≡◌, map, take}
use Rattle.serde_json.specs.View.{view}
use Rattle.hr_rest.specs.Replying.{policy_value}
use Rattle.hr_rest.proofs.listing.policies_value.Given as goal

abbrev pub invariant-loop-policy : goal.invariant-loop-policy
invariant-loop-policy l = map view l.list.items ≡ map policy_value (take l.policy-index l.policies)
