use Rattle.hr_run.proofs.TellLemmas.{swept_over}
use Rattle.hr_run.proofs.laws.swept_jobs_are_over.Goals as goal

pub returns : goal.returns
returns c s t keep job answer row o sound h =
    swept_over c.row_ends_its_job.ensures.over s o
    (λ attempts rev st. (c.row_ends_its_job.ensures.says attempts rev st).0) c.sweep_drops_rows_that_are_over.ensures
    t keep answer sound h job row
