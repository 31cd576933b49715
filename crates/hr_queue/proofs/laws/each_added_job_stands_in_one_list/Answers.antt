use Rattle.hr_queue.proofs.GainsLemmas.{listed_once}
use Rattle.hr_queue.proofs.laws.each_added_job_stands_in_one_list.Goals as goal

pub returns : goal.returns
returns c = listed_once
