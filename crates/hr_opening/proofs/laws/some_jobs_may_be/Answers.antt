use Rattle.hr_opening.proofs.JobsLemmas.{opened_few}
use Rattle.hr_opening.proofs.laws.some_jobs_may_be.Goals as goal

pub returns : goal.returns
returns c = λ lines opened fit is. opened_few lines opened fit is
