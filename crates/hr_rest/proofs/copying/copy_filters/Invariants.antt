-- What was copied so far.
use Rattle.std.proofs.Common.{◌≡◌, take}
use Rattle.hr_rest.proofs.copying.copy_filters.Given as goal

abbrev pub invariant-loop-filter : goal.invariant-loop-filter
invariant-loop-filter l = l.made ≡ take l.filter-index l.filters
