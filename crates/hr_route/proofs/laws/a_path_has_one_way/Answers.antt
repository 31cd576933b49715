use Rattle.hr_route.proofs.PathLemmas.{same_way}
use Rattle.hr_route.proofs.laws.a_path_has_one_way.Goals as goal

pub returns : goal.returns
returns c = same_way
