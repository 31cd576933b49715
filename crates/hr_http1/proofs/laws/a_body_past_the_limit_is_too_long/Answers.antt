use Rattle.hr_http1.specs.Reply.{reply_kind}
use Rattle.hr_http1.specs.Request.{request_kind}
use Rattle.hr_http1.proofs.MessageLemmas.{long_lost}
use Rattle.hr_http1.proofs.ReplyLemmas.{long_replies, replies_are_one}
use Rattle.hr_http1.proofs.RequestLemmas.{long_requests, requests_are_one}
use Rattle.hr_http1.proofs.laws.a_body_past_the_limit_is_too_long.Goals as goal

pub returns-clause-reply : goal.returns-clause-reply
returns-clause-reply c = λ head_only limit bytes rest reply why spells long fault not_failed not_memory.
    long_lost (reply_kind head_only) (replies_are_one head_only) c.bodies_are_read_by_their_framing.ensures (long_replies head_only) bytes reply.body rest spells.heads limit why spells.holds long fault
    not_failed not_memory

pub returns-clause-request : goal.returns-clause-request
returns-clause-request c = λ limit bytes rest request why spells long fault not_failed not_memory.
    long_lost request_kind requests_are_one c.bodies_are_read_by_their_framing.ensures long_requests bytes request.body rest spells.head limit why spells.holds long fault not_failed not_memory
