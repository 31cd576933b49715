use Rattle.httparse.proofs.GrammarLemmas.{request_unique, response_unique}
use Rattle.hr_head.proofs.laws.bytes_begin_with_one_head.Goals as goal

pub returns-clause-reply : goal.returns-clause-reply
returns-clause-reply c = λ bytes rest left one other a b. response_unique bytes one other rest left a.reads b.reads

pub returns-clause-request : goal.returns-clause-request
returns-clause-request c = λ bytes rest left one other a b. request_unique bytes one other rest left a.reads b.reads
