use Rattle.hr_store.proofs.LawLemmas.{of-heard}
use Rattle.hr_store.proofs.laws.hooks_reach_one_row.Goals as goal

pub returns : goal.returns
returns c = of-heard
