-- The filters so far are met.
use Rattle.std.proofs.Common.{All, take}
use Rattle.hr_plan.specs.Naming.{MeetsName}
use Rattle.hr_plan.proofs.naming.meets_names.Given as goal

abbrev pub invariant-loop-filter : goal.invariant-loop-filter
invariant-loop-filter l = All (MeetsName l.repo) (take l.filter-index l.filters)
