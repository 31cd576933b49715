use Rattle.std.proofs.lemmas.Result.{err_from_is_err_and, on_err_weaker}
use Rattle.hr_http1.proofs.WrittenLemmas.{front_sent, more_sent}
use Rattle.hr_http1.proofs.writing.send_message.Goals as goal

pub returns-in_err-send-clause-err : goal.returns-in_err-send-clause-err
returns-in_err-send-clause-err g c =
    let p = err_from_is_err_and c.from_residual.result c.from_residual.ensures.1 in
    rw p.1 (front_sent _ _ c.args.head.now c.args.body.now c.in_err-send.ensures.err)

pub returns-clause-err : goal.returns-clause-err
returns-clause-err g c = on_err_weaker c.send-2.result (more_sent _ _ _ c.args.head.now c.args.body.now c.in_ok-send.ensures.ok) c.send-2.ensures.err
