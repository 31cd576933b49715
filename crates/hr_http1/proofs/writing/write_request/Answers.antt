use Rattle.std.proofs.lemmas.Result.{err_from_is_err_and}
use Rattle.hr_http1.proofs.writing.write_request.Goals as goal

pub returns-in_err-send_message-clause-err : goal.returns-in_err-send_message-clause-err
returns-in_err-send_message-clause-err g c =
    let p = err_from_is_err_and c.from_residual-in_err-send_message.result c.from_residual-in_err-send_message.ensures.1 in
    rw p.1 (rw (c.deref.ensures.value, c.in_ok-head.ensures, c.view.ensures) at c.in_err-send_message.ensures.err)
