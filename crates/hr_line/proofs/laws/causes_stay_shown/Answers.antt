use Rattle.hr_line.proofs.CauseLemmas.{admits_causes, step_causes}
use Rattle.hr_line.proofs.RunLemmas.{cause_shown, opening_causes, runs_keep}
use Rattle.hr_line.proofs.laws.causes_stay_shown.Goals as goal

pub returns-clause-opens : goal.returns-clause-opens
returns-clause-opens c = opening_causes

pub returns-clause-admits : goal.returns-clause-admits
returns-clause-admits c = admits_causes

pub returns-clause-steps : goal.returns-clause-steps
returns-clause-steps c = step_causes

pub returns-clause-runs : goal.returns-clause-runs
returns-clause-runs c calls s t e a status why opening sound runs within admitted says =
    cause_shown t e a status why (runs_keep calls s t opening sound runs).causes within admitted says
