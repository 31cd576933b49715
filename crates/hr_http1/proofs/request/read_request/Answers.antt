use Rattle.std.proofs.Common.{◌≡◌, ◌∙◌, ap, sym, refl, arith, Some, None}
use Rattle.std.proofs.lemmas.Result.{err_from_is_err_and}
use Rattle.hr_body.specs.Reading.{in_word}
use Rattle.hr_frame.specs.Framing.{request_framing}
use Rattle.hr_http1.proofs.RequestLemmas.{request_head_lost, request_unframed, request_read, request_body_lost}
use Rattle.hr_http1.proofs.request.read_request.Goals as goal

pub returns-in_err-head-clause-err : goal.returns-in_err-head-clause-err
returns-in_err-head-clause-err g c =
    let p = err_from_is_err_and c.from_residual.result c.from_residual.ensures.1 in
    rw (p.1, p.2) (request_head_lost c.args.limit _ c.in_err-head.field-0.0 c.in_err-head.ensures.err)

pub returns-in_default-request_framing-clause-err : goal.returns-in_default-request_framing-clause-err
returns-in_default-request_framing-clause-err g c =
    let read = rw c.in-Some.is at c.in_ok-head.ensures.some in
    let len = rw c.in-Some.is at c.in_ok-head.ensures.len in
    let small : c.in-Some.head.len ≡ in_word c.in-Some.head.len = omega (arith, len) in
    let none : request_framing c.in-Some.head.heads ≡ None = ap request_framing (sym c.view.ensures) ∙ sym c.request_framing.ensures ∙ c.in_default-request_framing.is in
    request_unframed c.args.limit c.in-Some.head.len _ _ c.in-Some.head refl small read none

pub returns-in_err-body-clause-err : goal.returns-in_err-body-clause-err
returns-in_err-body-clause-err g c =
    let p = err_from_is_err_and c.from_residual-in_err-body.result c.from_residual-in_err-body.ensures.1 in
    let read = rw c.in-Some.is at c.in_ok-head.ensures.some in
    let is : request_framing c.in-Some.head.heads ≡ Some c.in-Some-request_framing.framing = ap request_framing (sym c.view.ensures) ∙ sym c.request_framing.ensures ∙ c.in-Some-request_framing.is in
    rw (p.1, p.2) (request_body_lost c.bodies_are_read_by_their_framing.ensures c.in-Some.head.len c.args.limit _ _ c.in-Some.head c.in-Some-request_framing.framing c.in_err-body.field-0.0 refl read is c.in_err-body.ensures.err)

pub returns-clause-some : goal.returns-clause-some
returns-clause-some g c =
    let read = rw c.in-Some.is at c.in_ok-head.ensures.some in
    let is : request_framing c.in-Some.head.heads ≡ Some c.in-Some-request_framing.framing = ap request_framing (sym c.view.ensures) ∙ sym c.request_framing.ensures ∙ c.in-Some-request_framing.is in
    request_read _ _ _ c.in-Some.head c.in-Some-request_framing.framing _ read is c.in_ok-body.ensures.ok refl refl refl
