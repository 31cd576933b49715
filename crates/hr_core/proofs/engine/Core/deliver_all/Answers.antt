use Rattle.std.proofs.Common.{◌≡◌, ◌≤◌, ◌+◌, suc, false, true, length, subst, sym, ◌∙◌, rules, refl}
use Rattle.hr_run.specs.State.{CoreState, was_delivered}
use Rattle.hr_core.specs.Marks.{AreSet}
use Rattle.hr_core.proofs.RoundLemmas.{Delivering, again_from, again_some, delivers_all, delivers_cut, on_err, one_from, one_hooks, one_ready, one_some, passes_from, passes_some}
use Rattle.hr_core.proofs.engine.Core.deliver_all.Goals.{then-not-has+in_ok-deliver_at, else-not-has}
use Rattle.hr_core.proofs.engine.Core.deliver_all.Goals as goal

pub returns-in_err-deliver_at-clause-err : goal.returns-in_err-deliver_at-clause-err
returns-in_err-deliver_at-clause-err g c =
    on_err c.from_residual.result _ (delivers_cut c.args.self.now c.loop-place.self c.deliver_at.new.self c.loop-place.place
    c.loop-place.invariant.some c.in_err-deliver_at.ensures.err)

pub loop-place-init : goal.loop-place-init
loop-place-init g c =
    let set = subst (λ (p : CoreState). AreSet p.delivered c.front-first.result) c.self.view_is c.front-first.ensures in
    record {
      from = passes_from c.args.self.now c.front-first.result set;
      some = passes_some c.args.self.now c.front-first.result set;
      ready = c.requires.ready;
      sound = c.is_sound.ensures;
      hooks = refl;
    }

pub loop-place-preserved : goal.loop-place-preserved
loop-place-preserved g c =
    let o = c.args.self.now in
    let s = c.loop-place.self in
    let place = c.loop-place.place in
    let before = c.loop-place.invariant in
    let next : Delivering o c.if-not-has.self (place + 1) = elim c.if-not-has.branch [
      | then-not-has+in_ok-deliver_at w ↦ (
          let unheard : was_delivered s.delivered (suc place) ≡ false = search rules in
          let m = w.deliver_at.new.self in
          let came = w.in_ok-deliver_at.field-0 in
          let gives = w.in_ok-deliver_at.ensures.ok in
          let sound = w.is_sound-then-not-has.ensures in
          subst (λ (x : CoreState). Delivering o x (place + 1)) (sym w.self-is) (record {
            from = one_from o s m place came unheard gives sound before.from;
            some = one_some o s m place came unheard gives sound before.some;
            ready = one_ready o s m place came unheard gives sound c.core_stays_ready.ensures.does before.ready before.sound;
            sound = sound;
            hooks = one_hooks o s m place came unheard gives sound ∙ before.hooks;
          }))
      | else-not-has w ↦ (
          let heard : was_delivered s.delivered (suc place) ≡ true = search rules in
          subst (λ (x : CoreState). Delivering o x (place + 1)) (sym w.self-is) (record {
            from = again_from o s place heard before.from;
            some = again_some o s place heard before.some;
            ready = before.ready;
            sound = before.sound;
            hooks = before.hooks;
          }))
    ] in
    record { from = next.from; some = next.some; ready = next.ready; sound = next.sound; hooks = next.hooks }

pub returns-clause-ok : goal.returns-clause-ok
returns-clause-ok g c =
    let past : length c.loop-place.self.hooks ≤ c.loop-place.place = search rules in
    delivers_all c.args.self.now c.loop-place.self c.loop-place.place c.loop-place.invariant.from past
