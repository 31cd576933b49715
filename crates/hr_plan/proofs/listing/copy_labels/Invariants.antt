-- What was copied so far.
use Rattle.std.proofs.Common.{◌≡◌, take}
use Rattle.hr_plan.proofs.listing.copy_labels.Given as goal

abbrev pub invariant-loop-label : goal.invariant-loop-label
invariant-loop-label l = l.made ≡ take l.label-index l.labels
