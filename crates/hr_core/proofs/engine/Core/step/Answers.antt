use Rattle.std.proofs.Common.{◌≡◌, ◌∙◌, ap, subst, sym}
use Rattle.std.specs.Prelude.{Some, slice_get}
use Rattle.hr_line.specs.State.{State}
use Rattle.hr_run.specs.State.{CoreState}
use Rattle.hr_core.proofs.TurnLemmas.{at_is, step_told, step_untold, worked_there}
use Rattle.hr_core.proofs.engine.Core.step.Goals as goal

pub returns-clause-ok : goal.returns-clause-ok
returns-clause-ok g c =
    let does = c.in_ok-came.ensures.ok in
    let there : slice_get c.self-2.inside.lanes.items c.in-Some.at ≡ Some does.worked =
    subst (λ (p : CoreState). slice_get p.lanes c.in-Some.at ≡ Some does.worked) (sym c.self-2.view_is)
    (worked_there c.args.self.now c.step_at.new.self c.in-Some.at c.args.job c.in_ok-came.came does) in
    step_told c.args.self.now c.step_at.new.self c.in-Some.at c.args.job c.in_ok-came.came _ c.tell_step.result does
    (c.journal.ensures ∙ ap (λ (l : State). l.log) (c.index.ensures ∙ at_is c.self-2.inside.lanes.items c.in-Some.at does.worked _ there))
    c.tell_step.ensures

pub returns-clause-err : goal.returns-clause-err
returns-clause-err g c =
    step_untold c.args.self.now c.step_at.new.self c.in-Some.at c.args.job c.in_ok-came.came c.tell_step.result
    c.in_ok-came.ensures.ok
