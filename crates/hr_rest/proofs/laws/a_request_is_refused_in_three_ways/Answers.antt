use Rattle.hr_rest.proofs.AskingLemmas.{refused_by}
use Rattle.hr_rest.proofs.laws.a_request_is_refused_in_three_ways.Goals as goal

pub returns : goal.returns
returns c = refused_by
