use Rattle.hr_queue.proofs.GainsLemmas.{done_over, idle_over}
use Rattle.hr_queue.proofs.laws.done_jobs_were_over.Goals as goal

pub returns-clause-done : goal.returns-clause-done
returns-clause-done c = done_over

pub returns-clause-idle : goal.returns-clause-idle
returns-clause-idle c = idle_over
