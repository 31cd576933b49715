use Rattle.std.proofs.Common.{◌-◌, ◌≤◌, length}
use Rattle.hr_queue.proofs.FindLemmas.{Lower, NotLower}
use Rattle.hr_queue.proofs.rows.find.Given as goal

abbrev pub decreases-halves : goal.decreases-halves
decreases-halves l = l.high - l.low

abbrev pub invariant-halves : goal.invariant-halves
invariant-halves l = record {
  lower : Lower l.low l.job.0 l.rows.items;
  others : NotLower l.high l.job.0 l.rows.items;
  ordered : l.low ≤ l.high;
  within : l.high ≤ length l.rows.items;
}
