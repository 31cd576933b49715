use Rattle.std.proofs.lemmas.Result.{err_from_is_err_and}
use Rattle.hr_http1.specs.declared.response.TheConstants.{BODY_LIMIT}
use Rattle.hr_http1.proofs.response.open_response.Goals as goal

pub returns-in_err-head-clause-err : goal.returns-in_err-head-clause-err
returns-in_err-head-clause-err g c =
    let p = err_from_is_err_and c.from_residual.result c.from_residual.ensures.1 in
    rw (p.1, p.2) (c.in_err-head.ensures.err BODY_LIMIT)
