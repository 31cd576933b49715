-- The picks so far, with those of the tags that are left, are those of all.
use Rattle.std.proofs.Common.{◌≡◌, ◌++◌, length}
use Rattle.hr_filter.specs.Grouping.{grouped}
use Rattle.hr_filter.proofs.grouping.group.Given as goal

abbrev pub invariant-loop-repo : goal.invariant-loop-repo
invariant-loop-repo l = l.picks ++ grouped l.left ≡ grouped l.tags

abbrev pub decreases-loop-repo : goal.decreases-loop-repo
decreases-loop-repo l = length l.left
