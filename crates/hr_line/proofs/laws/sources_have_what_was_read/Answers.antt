use Rattle.hr_line.proofs.OriginLemmas.{admits_sourced, step_sourced}
use Rattle.hr_line.proofs.RunLemmas.{opening_sourced}
use Rattle.hr_line.proofs.laws.sources_have_what_was_read.Goals as goal

pub returns-clause-opens : goal.returns-clause-opens
returns-clause-opens c = opening_sourced

pub returns-clause-admits : goal.returns-clause-admits
returns-clause-admits c = admits_sourced

pub returns-clause-steps : goal.returns-clause-steps
returns-clause-steps c = step_sourced
