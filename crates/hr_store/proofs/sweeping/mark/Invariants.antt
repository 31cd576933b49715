use Rattle.hr_store.proofs.SweepLemmas.{Marking}
use Rattle.hr_store.proofs.sweeping.mark.Given as goal

abbrev pub invariant-newest : goal.invariant-newest
invariant-newest l = Marking l.keep l.fn.entries.entries l.entries.entries l.fn.counts l.counts l.left

abbrev pub decreases-newest : goal.decreases-newest
decreases-newest l = l.left
