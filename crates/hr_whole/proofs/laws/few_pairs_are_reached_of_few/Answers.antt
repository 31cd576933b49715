use Rattle.hr_whole.proofs.CountLemmas.{few_pairs}
use Rattle.hr_whole.proofs.laws.few_pairs_are_reached_of_few.Goals as goal

pub returns : goal.returns
returns c = few_pairs
