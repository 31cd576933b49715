-- The filters so far are met.
use Rattle.std.proofs.Common.{All, take}
use Rattle.hr_filter.specs.Filter.{Meets}
use Rattle.hr_filter.proofs.filter.meets_each.Given as goal

abbrev pub invariant-loop-filter : goal.invariant-loop-filter
invariant-loop-filter l = All (Meets l.listed) (take l.filter-index l.filters)
