use Rattle.hr_queue.proofs.ListLemmas.{later_new}
use Rattle.hr_queue.proofs.laws.a_later_job_is_new.Goals as goal

pub returns : goal.returns
returns c = later_new
