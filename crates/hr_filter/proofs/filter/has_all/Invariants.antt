-- The labels so far are there.
use Rattle.std.proofs.Common.{All, Contains, take}
use Rattle.hr_filter.proofs.filter.has_all.Given as goal

abbrev pub invariant-loop-label : goal.invariant-loop-label
invariant-loop-label l = All (Contains l.labels) (take l.label-index l.wanted)
