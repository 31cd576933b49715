use Rattle.std.proofs.Common.{◌≡◌, ◌+◌, arith, sym, ◌∙◌}
use Rattle.std.proofs.lemmas.Grind.{common_steps}
use Rattle.hr_body.specs.Reading.{in_word}
use Rattle.hr_body.proofs.ReadingLemmas.{found_more, lost_stuck}
use Rattle.hr_body.proofs.piece.find_data.Goals as goal

pub returns-in_default-step-clause-err : goal.returns-in_default-step-clause-err
returns-in_default-step-clause-err g c = λ room limit.
    let one = rw c.in-Some.is at c.in_ok-byte.ensures.ok in
    let count : c.saturating_add-at.result ≡ in_word (c.loop-stage.at + 1) = grind (arith, common_steps) in
    lost_stuck _ _ _ _ _ c.in-Between.coding _ room limit _ _ c.in-Some.byte c.loop-stage.invariant.passed c.in-Between.is one (sym c.step.ensures.next ∙ c.in_default-step.is) count

pub loop-stage-preserved : goal.loop-stage-preserved
loop-stage-preserved g c =
    let one = rw c.in-Some.is at c.in_ok-byte.ensures.ok in
    let count : c.saturating_add-at.result ≡ in_word (c.loop-stage.at + 1) = grind (arith, common_steps) in
    record {
      passed = found_more _ _ _ _ _ _ c.in-Between.coding _ _ _ c.in-Some.byte c.loop-stage.invariant.passed c.in-Between.is one (sym c.step.ensures.next ∙ c.in-Some-step.is) count;
      sent = c.in_ok-byte.ensures.sent ∙ c.loop-stage.invariant.sent;
      calm = omega (arith, c.in_ok-byte.ensures.cause.calm, c.loop-stage.invariant.calm);
    }
