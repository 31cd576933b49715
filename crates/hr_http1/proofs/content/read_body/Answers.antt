use Rattle.std.proofs.lemmas.Result.{err_from_is_err_and}
use Rattle.hr_http1.proofs.BodyLemmas.{body_fault}
use Rattle.hr_http1.proofs.content.read_body.Goals as goal

pub returns-in_err-all-clause-err : goal.returns-in_err-all-clause-err
returns-in_err-all-clause-err g c =
    let p = err_from_is_err_and c.from_residual-in_err-all.result c.from_residual-in_err-all.ensures.1 in
    rw (p.1, p.2) (body_fault c.bodies_are_read_by_their_framing.ensures c.args.framing _ _ c.in_ok-body.body c.args.at c.args.limit c.in_err-all.field-0.0 c.in_ok-body.ensures.ok c.in_err-all.ensures.err)
