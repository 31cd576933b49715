use Rattle.hr_body.proofs.BeginLemmas.{begins}
use Rattle.hr_body.proofs.laws.what_is_cut_off_can_go_on.Goals as goal

pub returns : goal.returns
returns c = begins
