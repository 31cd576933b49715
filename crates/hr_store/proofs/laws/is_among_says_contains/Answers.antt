use Rattle.hr_store.proofs.LawLemmas.{among-says}
use Rattle.hr_store.proofs.laws.is_among_says_contains.Goals as goal

pub returns : goal.returns
returns c = among-says
