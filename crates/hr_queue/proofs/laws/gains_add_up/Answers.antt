use Rattle.hr_queue.proofs.GainsLemmas.{none, both}
use Rattle.hr_queue.proofs.laws.gains_add_up.Goals as goal

pub returns-clause-none : goal.returns-clause-none
returns-clause-none c = none

pub returns-clause-both : goal.returns-clause-both
returns-clause-both c = both
