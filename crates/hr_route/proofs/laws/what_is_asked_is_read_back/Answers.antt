use Rattle.hr_route.proofs.BackLemmas.{read_back}
use Rattle.hr_route.proofs.laws.what_is_asked_is_read_back.Goals as goal

pub returns : goal.returns
returns c = read_back
