use Rattle.hr_line.proofs.EndLemmas.{admits_hold, step_holds}
use Rattle.hr_line.proofs.RunLemmas.{end_shown, opening_ends, runs_end}
use Rattle.hr_line.proofs.laws.ends_are_what_the_journal_shows.Goals as goal

pub returns-clause-opens : goal.returns-clause-opens
returns-clause-opens c = opening_ends

pub returns-clause-admits : goal.returns-clause-admits
returns-clause-admits c = admits_hold

pub returns-clause-steps : goal.returns-clause-steps
returns-clause-steps c = step_holds

pub returns-clause-runs : goal.returns-clause-runs
returns-clause-runs c calls s t e a status cause opening runs within admitted says =
    end_shown t e a status cause (runs_end calls s t opening runs).ends within admitted says
