use Rattle.hr_rest.proofs.PathLemmas.{one_place}
use Rattle.hr_rest.proofs.laws.a_path_leads_to_one_place.Goals as goal

pub returns : goal.returns
returns c = one_place
