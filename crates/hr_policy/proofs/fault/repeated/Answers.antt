use Rattle.std.proofs.Common.{◌≡◌, ◌∷◌, get_or, not, true, false, Bool, sym, refl, ◌∙◌}
use Rattle.hr_policy.proofs.FaultLemmas.{repeated-later, seen-more}
use Rattle.hr_policy.proofs.fault.repeated.Goals as goal

new : (b added : Bool) → added ≡ not b → added ≡ true → b ≡ false
new true added e f = absurd cc
new false added e f = refl

pub loop-number-preserved : goal.loop-number-preserved
loop-number-preserved c =
    let seen = c.loop-number.invariant.0 in
    let n = get_or c.args.numbers.now c.loop-number.number-index 0 in
    let fresh = sym (c.loop-number.invariant.1 n) ∙ new _ c.in_ok-insert.field-0 c.in_ok-insert.ensures.added c.if-not-branch.false in (
      n ∷ seen,
      (λ q. seen-more n q _ _ seen (c.in_ok-insert.ensures.updates.0 q) (c.loop-number.invariant.1 q)),
      c.loop-number.invariant.2 ∙ repeated-later seen c.args.numbers.now c.loop-number.number-index c.loop-number-test.true fresh,
    )
