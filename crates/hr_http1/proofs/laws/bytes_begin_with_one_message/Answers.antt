use Rattle.hr_http1.proofs.LawLemmas.{one_reply, one_request}
use Rattle.hr_http1.proofs.laws.bytes_begin_with_one_message.Goals as goal

pub returns-clause-reply : goal.returns-clause-reply
returns-clause-reply c = one_reply c.bodies_are_read_by_their_framing.ensures

pub returns-clause-request : goal.returns-clause-request
returns-clause-request c = one_request c.bodies_are_read_by_their_framing.ensures
