use Rattle.hr_http1.specs.Reply.{reply_kind}
use Rattle.hr_http1.specs.Request.{request_kind}
use Rattle.hr_http1.proofs.LawLemmas.{there_read}
use Rattle.hr_http1.proofs.ReplyLemmas.{long_replies, replies_are_one}
use Rattle.hr_http1.proofs.RequestLemmas.{long_requests, requests_are_one}
use Rattle.hr_http1.proofs.laws.a_message_that_is_there_is_read.Goals as goal

pub returns-clause-reply : goal.returns-clause-reply
returns-clause-reply c = λ head_only limit bytes rest reply why spells small fault.
    there_read (reply_kind head_only) (replies_are_one head_only) (long_replies head_only) c.bodies_are_read_by_their_framing.ensures limit bytes reply.body rest spells.heads why spells.holds small fault

pub returns-clause-request : goal.returns-clause-request
returns-clause-request c = λ limit bytes rest request why spells small fault.
    there_read request_kind requests_are_one long_requests c.bodies_are_read_by_their_framing.ensures limit bytes request.body rest spells.head why spells.holds small fault
