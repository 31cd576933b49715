use Rattle.hr_line.proofs.KeptLemmas.{admits_keeps, step_keeps}
use Rattle.hr_line.proofs.RunLemmas.{destination_promise, opening_keeps}
use Rattle.hr_line.proofs.laws.destinations_keep_their_promise.Goals as goal

pub returns-clause-opens : goal.returns-clause-opens
returns-clause-opens c = opening_keeps

pub returns-clause-admits : goal.returns-clause-admits
returns-clause-admits c = admits_keeps

pub returns-clause-steps : goal.returns-clause-steps
returns-clause-steps c = step_keeps

pub returns-clause-promise : goal.returns-clause-promise
returns-clause-promise c = destination_promise
