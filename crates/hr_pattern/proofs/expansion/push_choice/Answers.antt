use Rattle.std.proofs.Common.{refl, arith}
use Rattle.hr_pattern.proofs.ChoiceLemmas.{put_none, put_item, put_other, put_comma}
use Rattle.hr_pattern.proofs.expansion.push_choice.Goals as goal

pub loop-place-init : goal.loop-place-init
loop-place-init c =
    let later = c.sign_at-sign.ensures.later in
    let room = c.requires.room in
    record {
      within = c.sign_at-sign.ensures.within;
      later = later;
      room = omega arith;
      few = omega arith;
      put = put_none c.args.text.now c.args.at c.sign_at-sign.result.1 c.args.choice c.args.form.now.items;
    }

pub loop-place-preserved-then-met-choice : goal.loop-place-preserved-then-met-choice
loop-place-preserved-then-met-choice c =
    let later = c.sign_at-sign-in-loop-place.ensures.later in
    let before = c.loop-place.invariant.later in
    let room = c.loop-place.invariant.room in
    let few = c.loop-place.invariant.few in
    let len = c.push-then-met-choice.ensures.len in
    record {
      within = c.sign_at-sign-in-loop-place.ensures.within;
      later = omega arith;
      room = omega arith;
      few = omega arith;
      put = put_item c.args.text.now c.args.at _ c.loop-place.place _ _ _ _ _ _ _ _ c.loop-place.invariant.put c.sign_at-sign-in-loop-place.ensures.sign c.in-Stands-sign.is c.if-met-choice.true c.push-then-met-choice.ensures.items;
    }

pub loop-place-preserved-else-met-choice : goal.loop-place-preserved-else-met-choice
loop-place-preserved-else-met-choice c =
    let later = c.sign_at-sign-in-loop-place.ensures.later in
    let before = c.loop-place.invariant.later in
    let room = c.loop-place.invariant.room in
    let few = c.loop-place.invariant.few in
    record {
      within = c.sign_at-sign-in-loop-place.ensures.within;
      later = omega arith;
      room = omega arith;
      few = omega arith;
      put = put_other c.args.text.now c.args.at _ c.loop-place.place _ _ _ _ _ _ _ _ c.loop-place.invariant.put c.sign_at-sign-in-loop-place.ensures.sign c.in-Stands-sign.is c.if-met-choice.false refl;
    }

pub loop-place-preserved : goal.loop-place-preserved
loop-place-preserved c =
    let later = c.sign_at-sign-in-loop-place.ensures.later in
    let before = c.loop-place.invariant.later in
    let room = c.loop-place.invariant.room in
    let few = c.loop-place.invariant.few in
    record {
      within = c.sign_at-sign-in-loop-place.ensures.within;
      later = omega arith;
      room = omega arith;
      few = omega arith;
      put = put_comma c.args.text.now c.args.at _ c.loop-place.place _ _ _ _ _ _ _ c.loop-place.invariant.put c.sign_at-sign-in-loop-place.ensures.sign c.in-Comma-sign.is refl;
    }
