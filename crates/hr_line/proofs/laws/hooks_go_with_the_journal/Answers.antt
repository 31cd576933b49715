use Rattle.hr_line.proofs.HookLemmas.{admits_hooks, step_hooks}
use Rattle.hr_line.proofs.RunLemmas.{opening_hooks, runs_end}
use Rattle.hr_line.proofs.laws.hooks_go_with_the_journal.Goals as goal

pub returns-clause-opens : goal.returns-clause-opens
returns-clause-opens c = opening_hooks

pub returns-clause-admits : goal.returns-clause-admits
returns-clause-admits c = admits_hooks

pub returns-clause-steps : goal.returns-clause-steps
returns-clause-steps c = step_hooks

pub returns-clause-runs : goal.returns-clause-runs
returns-clause-runs c calls s t opening runs = (runs_end calls s t opening runs).hooks
