use Rattle.hr_run.proofs.WordLemmas.{one_each}
use Rattle.hr_run.proofs.laws.each_end_has_one_hook.Goals as goal

pub returns : goal.returns
returns c = one_each
