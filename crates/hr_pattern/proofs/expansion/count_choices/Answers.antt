use Rattle.std.proofs.Common.{◌≡◌, ◌+◌, ◌-◌, ℕ, subst, arith}
use Rattle.hr_pattern.proofs.ChoiceLemmas.{Met, met_none, met_item, met_comma}
use Rattle.hr_pattern.proofs.expansion.count_choices.Goals as goal

pub loop-place-init : goal.loop-place-init
loop-place-init c = record {
  within = c.sign_at-sign.ensures.within;
  met = met_none c.args.text.now c.args.at c.sign_at-sign.result.1;
  some = omega arith;
  few = let later = c.sign_at-sign.ensures.later in omega arith;
}

pub loop-place-preserved-in-Stands-sign : goal.loop-place-preserved-in-Stands-sign
loop-place-preserved-in-Stands-sign c = record {
  within = c.sign_at-sign-in-loop-place.ensures.within;
  met = met_item c.args.text.now c.args.at _ c.loop-place.place _ _ _ _ c.loop-place.invariant.met c.sign_at-sign-in-loop-place.ensures.sign c.in-Stands-sign.is;
  some = c.loop-place.invariant.some;
  few = let later = c.sign_at-sign-in-loop-place.ensures.later in let few = c.loop-place.invariant.few in omega arith;
}

pub loop-place-preserved : goal.loop-place-preserved
loop-place-preserved c =
    let some = c.loop-place.invariant.some in
    let again : c.loop-place.count - 1 + 1 ≡ c.loop-place.count + 1 - 1 = omega arith in
    let P : ℕ → Type 0 = λ n. Met c.args.text.now c.args.at c.sign_at-sign.result.1 c.sign_at-sign-in-loop-place.result.1 n in
    record {
      within = c.sign_at-sign-in-loop-place.ensures.within;
      met = subst P again (met_comma c.args.text.now c.args.at _ c.loop-place.place _ _ _ c.loop-place.invariant.met c.sign_at-sign-in-loop-place.ensures.sign c.in-Comma.is);
      some = omega arith;
      few = let later = c.sign_at-sign-in-loop-place.ensures.later in let few = c.loop-place.invariant.few in omega arith;
    }
