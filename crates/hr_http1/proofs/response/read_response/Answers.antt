use Rattle.std.proofs.lemmas.Result.{err_from_is_err_and}
use Rattle.hr_http1.proofs.ReplyLemmas.{reply_body_lost}
use Rattle.hr_http1.proofs.response.read_response.Goals as goal

pub returns-in_err-head-clause-err : goal.returns-in_err-head-clause-err
returns-in_err-head-clause-err g c =
    let p = err_from_is_err_and c.from_residual.result c.from_residual.ensures.1 in
    rw (p.1, p.2) (c.in_err-head.ensures.err c.args.limit)

pub returns-in_err-body-clause-err : goal.returns-in_err-body-clause-err
returns-in_err-body-clause-err g c =
    let p = err_from_is_err_and c.from_residual-in_err-body.result c.from_residual-in_err-body.ensures.1 in
    rw (p.1, p.2) (reply_body_lost c.bodies_are_read_by_their_framing.ensures c.args.head_only c.in_ok-head.at c.args.limit _ _ c.in_ok-head.head c.in_ok-head.framing c.in_err-body.field-0.0
    c.in_ok-head.ensures.ok c.in_err-body.ensures.err)
