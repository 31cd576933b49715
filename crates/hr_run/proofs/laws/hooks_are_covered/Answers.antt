use Rattle.hr_run.proofs.WordLemmas.{all_confirmed}
use Rattle.hr_run.proofs.laws.hooks_are_covered.Goals as goal

pub returns : goal.returns
returns c = all_confirmed
