use Rattle.std.proofs.Common.{◌≡◌, take}
use Rattle.hr_opening.specs.Opening.{jobs_said, jobs_unsaid}
use Rattle.hr_opening.proofs.opening.find_jobs.Given as goal

abbrev pub invariant-loop-numbered : goal.invariant-loop-numbered
invariant-loop-numbered l = l.jobs ≡ jobs_said jobs_unsaid (take l.numbered-index l.lines)
