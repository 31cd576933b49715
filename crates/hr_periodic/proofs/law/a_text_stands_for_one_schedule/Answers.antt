use Rattle.hr_periodic.proofs.ReadingLemmas.{one_schedule}
use Rattle.hr_periodic.proofs.law.a_text_stands_for_one_schedule.Goals as goal

pub returns : goal.returns
returns c = one_schedule
