use Rattle.hr_event.specs.declared.entry.What.TheVariants.{Show}
use Rattle.hr_line.proofs.RunLemmas.{opening_read, runs_keep, show_read}
use Rattle.hr_line.proofs.ShowLemmas.{admits_read, step_read}
use Rattle.hr_line.proofs.laws.tags_are_finished_as_they_were_read.Goals as goal

pub returns-clause-opens : goal.returns-clause-opens
returns-clause-opens c = opening_read

pub returns-clause-admits : goal.returns-clause-admits
returns-clause-admits c = admits_read

pub returns-clause-steps : goal.returns-clause-steps
returns-clause-steps c = step_read

pub returns-clause-runs : goal.returns-clause-runs
returns-clause-runs c calls s t newer older e a tag d old how opening sound runs parts admitted says =
    show_read t newer older e a (Show tag d old how) (runs_keep calls s t opening sound runs).reads parts admitted says
