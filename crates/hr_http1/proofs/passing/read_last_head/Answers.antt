use Rattle.std.proofs.Common.{◌≡◌, ◌<◌, false, true, arith, ◌∙◌}
use Rattle.std.proofs.lemmas.Grind.{common_steps}
use Rattle.std.proofs.lemmas.Result.{err_from_is_err_and}
use Rattle.hr_body.specs.Reading.{in_word}
use Rattle.hr_http1.specs.Reply.{is_interim}
use Rattle.hr_http1.specs.declared.passing.TheConstants.{INTERIM_LIMIT}
use Rattle.hr_http1.proofs.ReplyLemmas.{heads_lost, heads_found, passed_then, ninth_lost}
use Rattle.hr_http1.proofs.passing.read_last_head.Goals as goal

pub returns-in_err-head-clause-err : goal.returns-in_err-head-clause-err
returns-in_err-head-clause-err g c =
    let p = err_from_is_err_and c.from_residual.result c.from_residual.ensures.1 in
    rw (p.1, p.2) (λ head_only limit. heads_lost head_only limit c.heads.passed c.heads.at _ _ c.in_err-head.field-0.0 c.heads-test.true c.heads.invariant.told c.in_err-head.ensures.err)

pub returns-then-not-is_interim-clause-ok : goal.returns-then-not-is_interim-clause-ok
returns-then-not-is_interim-clause-ok g c =
    let last : is_interim c.in_ok-head.head.status ≡ false = grind (arith, common_steps) in
    heads_found c.heads.passed c.heads.at _ _ _ c.in_ok-head.head c.heads-test.true c.heads.invariant.told c.in_ok-head.ensures.ok last

pub heads-preserved : goal.heads-preserved
heads-preserved g c =
    let interim : is_interim c.in_ok-head.head.status ≡ true = grind (arith, common_steps) in
    let len = c.in_ok-head.ensures.len in
    record {
      told = passed_then c.heads.passed c.heads.at _ _ _ c.in_ok-head.head c.heads.invariant.told c.in_ok-head.ensures.ok interim;
      small = omega (arith, len, c.heads.invariant.small);
      few = omega (arith, c.heads-test.true);
      sent = c.in_ok-head.ensures.sent ∙ c.heads.invariant.sent;
      calm = c.in_ok-head.ensures.cause.calm ∙ c.heads.invariant.calm;
    }

pub returns-clause-err : goal.returns-clause-err
returns-clause-err g c = λ head_only limit.
    let small : c.heads.at ≡ in_word c.heads.at = omega (arith, c.heads.invariant.small, c.heads.invariant.few) in
    let many : INTERIM_LIMIT < c.heads.passed = omega (arith, c.heads-test.false) in
    ninth_lost head_only limit c.heads.passed c.heads.at _ _ many small c.heads.invariant.told
