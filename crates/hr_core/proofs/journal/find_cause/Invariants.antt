-- The newest entries so far say no cause of the job.
use Rattle.std.proofs.Common.{◌≡◌, drop, reverse}
use Rattle.hr_promise.specs.Answer.{cause_in}
use Rattle.hr_core.proofs.journal.find_cause.Given as goal

abbrev pub invariant-loop-back : goal.invariant-loop-back
invariant-loop-back l =
    cause_in (reverse l.log) l.job.0 ≡ cause_in (drop l.back (reverse l.log)) l.job.0
