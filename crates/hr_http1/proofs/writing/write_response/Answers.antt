use Rattle.std.proofs.lemmas.Result.{err_from_is_err_and}
use Rattle.hr_http1.proofs.WrittenLemmas.{none_sent}
use Rattle.hr_http1.proofs.writing.write_response.Goals as goal

pub returns-in_err-head-clause-err : goal.returns-in_err-head-clause-err
returns-in_err-head-clause-err g c =
    let p = err_from_is_err_and c.from_residual.result c.from_residual.ensures.1 in
    rw p.1 (none_sent _ _)

pub returns-in_err-send_message-clause-err : goal.returns-in_err-send_message-clause-err
returns-in_err-send_message-clause-err g c =
    let p = err_from_is_err_and c.from_residual-in_err-send_message.result c.from_residual-in_err-send_message.ensures.1 in
    rw p.1 (rw (c.deref.ensures.value, c.in_ok-head.ensures, c.content_of.ensures, c.has_no_body-content.ensures) at c.in_err-send_message.ensures.err)
