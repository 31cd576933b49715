use Rattle.hr_http1.proofs.BackLemmas.{reply_back, request_back}
use Rattle.hr_http1.proofs.laws.what_is_written_is_read_back.Goals as goal

pub returns-clause-reply : goal.returns-clause-reply
returns-clause-reply c = reply_back

pub returns-clause-request : goal.returns-clause-request
returns-clause-request c = request_back
