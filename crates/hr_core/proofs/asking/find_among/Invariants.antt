-- The journals of the lanes so far have no cause of the job.
use Rattle.std.proofs.Common.{◌≡◌, drop}
use Rattle.hr_run.specs.Does.{cause_among}
use Rattle.hr_core.proofs.asking.find_among.Given as goal

abbrev pub invariant-loop-at : goal.invariant-loop-at
invariant-loop-at g l = cause_among l.lanes l.job.0 ≡ cause_among (drop l.at l.lanes) l.job.0
