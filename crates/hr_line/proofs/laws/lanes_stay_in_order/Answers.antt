use Rattle.hr_line.proofs.OrderlyLemmas.{admits_orderly, step_orderly}
use Rattle.hr_line.proofs.RunLemmas.{opening_orderly, step_stays}
use Rattle.hr_line.proofs.laws.lanes_stay_in_order.Goals as goal

pub returns-clause-opens : goal.returns-clause-opens
returns-clause-opens c = opening_orderly

pub returns-clause-admits : goal.returns-clause-admits
returns-clause-admits c = admits_orderly

pub returns-clause-steps : goal.returns-clause-steps
returns-clause-steps c = step_orderly

pub returns-clause-others : goal.returns-clause-others
returns-clause-others c = step_stays
