use Rattle.std.proofs.Common.{◌≤◌, ◌-◌, length}
use Rattle.hr_store.proofs.RankLemmas.{Lower, NotLower}
use Rattle.hr_store.specs.Execution.{last_job}
use Rattle.hr_store.proofs.places.find_job.Given as goal

abbrev pub invariant-halves : goal.invariant-halves
invariant-halves l = (l.low ≤ l.high) × (l.high ≤ length l.fn.kept) × Lower last_job l.low l.fn.job l.fn.kept × NotLower last_job l.high l.fn.job l.fn.kept

abbrev pub decreases-halves : goal.decreases-halves
decreases-halves l = l.high - l.low
