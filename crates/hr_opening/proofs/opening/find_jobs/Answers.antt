use Rattle.hr_opening.specs.Opening.{jobs_unsaid}
use Rattle.hr_opening.proofs.JobsLemmas.{said_more}
use Rattle.hr_opening.proofs.opening.find_jobs.Goals as goal

pub loop-numbered-preserved : goal.loop-numbered-preserved
loop-numbered-preserved c =
    said_more jobs_unsaid c.args.lines.now c.loop-numbered.numbered-index c.numbered-item.result c.loop-numbered.jobs c.jobs_after-jobs.result
    c.loop-numbered.invariant c.loop-numbered-test.true c.numbered-item.is c.jobs_after-jobs.ensures
