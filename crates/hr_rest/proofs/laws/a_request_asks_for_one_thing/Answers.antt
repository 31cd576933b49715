use Rattle.hr_rest.proofs.AskingLemmas.{one_thing}
use Rattle.hr_rest.proofs.laws.a_request_asks_for_one_thing.Goals as goal

pub returns : goal.returns
returns c = one_thing
