use Rattle.hr_store.proofs.LawLemmas.{row-stays}
use Rattle.hr_store.proofs.laws.sweep_drops_rows_that_are_over.Goals as goal

pub returns : goal.returns
returns c = row-stays 0 0
