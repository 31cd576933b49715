use Rattle.std.proofs.Common.{◌≡◌, map, take}
use Rattle.serde_json.specs.View.{view}
use Rattle.hr_policy.specs.Written.{filter_value}
use Rattle.hr_policy.proofs.writing.filters_value.Given as goal

abbrev pub invariant-loop-filter : goal.invariant-loop-filter
invariant-loop-filter l = map view l.list.items ≡ map filter_value (take l.filter-index l.filters)
