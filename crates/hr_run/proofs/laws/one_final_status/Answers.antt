use Rattle.hr_run.proofs.WordLemmas.{one_final}
use Rattle.hr_run.proofs.laws.one_final_status.Goals as goal

pub returns : goal.returns
returns c = one_final
