use Rattle.std.proofs.Common.{◌∙◌, ap, refl, subst}
use Rattle.hr_run.specs.State.{CoreState}
use Rattle.hr_run.specs.Turning.{NoneHolds}
use Rattle.hr_core.proofs.RoundLemmas.{on_err, step_outs, step_ready, step_some, step_turns, steps_away, steps_cut}
use Rattle.hr_core.proofs.engine.Core.step_away.Goals as goal

pub returns-in_default-clause-ok : goal.returns-in_default-clause-ok
returns-in_default-clause-ok g c =
    steps_away c.args.self.now c.steps.self c.args.turn c.steps.invariant.outs c.steps.invariant.ready c.steps.invariant.turns
    c.requires.out
    (subst (λ lanes. NoneHolds lanes c.args.turn.job) (c.deref.ensures.value ∙ ap (λ (p : CoreState). p.lanes) c.self.view_is)
    c.in_default.ensures)

pub returns-in_err-step_at-clause-err : goal.returns-in_err-step_at-clause-err
returns-in_err-step_at-clause-err g c =
    on_err c.from_residual.result _ (steps_cut c.args.self.now c.steps.self c.step_at.new.self c.args.turn.job
    c.steps.invariant.some c.in_err-step_at.ensures.err)

pub steps-preserved : goal.steps-preserved
steps-preserved g c =
    let o = c.args.self.now in
    let s = c.steps.self in
    let m = c.step_at.new.self in
    let job = c.args.turn.job in
    let came = c.in_ok-step_at.field-0 in
    let does = c.in_ok-step_at.ensures.ok in
    let sound = c.is_sound-in-steps.ensures in
    let before = c.steps.invariant in
    record {
      outs = step_outs o s m c.in-Some.at job came does sound before.outs;
      some = step_some o s m c.in-Some.at job came does sound before.some;
      ready = step_ready o s m c.in-Some.at job came does sound c.core_stays_ready.ensures.does before.ready before.sound;
      sound = sound;
      turns = step_turns o s m c.in-Some.at job came does sound ∙ before.turns;
    }

pub returns-clause-err : goal.returns-clause-err
returns-clause-err g c = steps_cut c.args.self.now c.steps.self c.steps.self c.args.turn.job c.steps.invariant.some refl
