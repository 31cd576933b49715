use Rattle.hr_store.proofs.LawLemmas.{ends-says, row-over}
use Rattle.hr_store.proofs.laws.row_ends_its_job.Goals as goal

pub returns-clause-says : goal.returns-clause-says
returns-clause-says c = ends-says

pub returns-clause-over : goal.returns-clause-over
returns-clause-over c = row-over
