use Rattle.hr_line.proofs.FinalLemmas.{admits_once, step_once}
use Rattle.hr_line.proofs.RunLemmas.{opening_once, runs_end}
use Rattle.hr_line.proofs.laws.revisions_end_once.Goals as goal

pub returns-clause-opens : goal.returns-clause-opens
returns-clause-opens c = opening_once

pub returns-clause-admits : goal.returns-clause-admits
returns-clause-admits c = admits_once

pub returns-clause-steps : goal.returns-clause-steps
returns-clause-steps c = step_once

pub returns-clause-runs : goal.returns-clause-runs
returns-clause-runs c calls s t job rev opening runs = (runs_end calls s t opening runs).once.once job rev
