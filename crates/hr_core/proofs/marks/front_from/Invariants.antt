-- All marks so far are set.
use Rattle.std.proofs.Common.{◌-◌, length}
use Rattle.hr_core.specs.Marks.{AreSet}
use Rattle.hr_core.proofs.marks.front_from.Given as goal

abbrev pub invariant-more : goal.invariant-more
invariant-more l = AreSet l.marks l.front

abbrev pub decreases-more : goal.decreases-more
decreases-more l = length l.marks - l.front
