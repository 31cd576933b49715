-- The values so far.
use Rattle.std.proofs.Common.{◌≡◌, map, take}
use Rattle.serde_json.specs.View.{view}
use Rattle.hr_rest.specs.Value.{exec_value}
use Rattle.hr_rest.proofs.listing.execs_value.Given as goal

abbrev pub invariant-loop-exec : goal.invariant-loop-exec
invariant-loop-exec l = map view l.list.items ≡ map exec_value (take l.exec-index l.execs)
