use Rattle.hr_queue.proofs.RowLemmas.{none_held}
use Rattle.hr_queue.proofs.by_job.ByJob.held.Goals as goal

pub returns-in_default : goal.returns-in_default
returns-in_default c = none_held _ c.args.turn c.in_default.ensures
