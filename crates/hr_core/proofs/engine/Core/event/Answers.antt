use Rattle.std.proofs.Common.{ap, refl, [], ◌∷◌}
use Rattle.hr_event.specs.declared.event.Event.TheVariants as event
use Rattle.hr_event.specs.declared.told.Told.{Told}
use Rattle.hr_core.proofs.EventLemmas.{comes_as, comes_before, comes_cut, comes_finished, comes_one, comes_tags, step_cut, take_cut, trigger_cut}
use Rattle.hr_core.proofs.engine.Core.event.Goals as goal

pub returns-in_err-trigger-in-Trigger : goal.returns-in_err-trigger-in-Trigger
returns-in_err-trigger-in-Trigger g c =
    comes_cut c.args.self.now c.trigger.new.self c.args.event (event.Trigger c.in-Trigger.policy) c.from_residual.result c.in-Trigger.is c.from_residual.ensures.0
    (trigger_cut c.args.self.now c.trigger.new.self c.in-Trigger.policy c.in_err-trigger-in-Trigger.ensures.err)

pub returns-in_ok-trigger-in-Trigger : goal.returns-in_ok-trigger-in-Trigger
returns-in_ok-trigger-in-Trigger g c =
    comes_as c.args.self.now c.trigger.new.self c.args.event (event.Trigger c.in-Trigger.policy) c.one.result c.in-Trigger.is
    (comes_one c.args.self.now c.trigger.new.self (event.Trigger c.in-Trigger.policy) c.in_ok-trigger-in-Trigger.field-0 c.one.result
    (c.in_ok-trigger-in-Trigger.field-0, refl, c.in_ok-trigger-in-Trigger.ensures.ok) c.one.ensures)

pub returns-in_err-take-in-Take : goal.returns-in_err-take-in-Take
returns-in_err-take-in-Take g c =
    comes_cut c.args.self.now c.take.new.self c.args.event event.Take c.from_residual-in_err-take-in-Take.result c.in-Take.is c.from_residual-in_err-take-in-Take.ensures.0
    (take_cut c.args.self.now c.take.new.self c.in_err-take-in-Take.ensures.err)

pub returns-in_ok-take-in-Take : goal.returns-in_ok-take-in-Take
returns-in_ok-take-in-Take g c =
    comes_as c.args.self.now c.take.new.self c.args.event event.Take c.one-in-Take.result c.in-Take.is
    (comes_one c.args.self.now c.take.new.self event.Take c.in_ok-take-in-Take.field-0 c.one-in-Take.result
    (c.in_ok-take-in-Take.field-0, refl, c.in_ok-take-in-Take.ensures.ok) c.one-in-Take.ensures)

pub returns-in_err-step-in-Step : goal.returns-in_err-step-in-Step
returns-in_err-step-in-Step g c =
    comes_cut c.args.self.now c.step.new.self c.args.event (event.Step c.in-Step.job) c.from_residual-in_err-step-in-Step.result c.in-Step.is c.from_residual-in_err-step-in-Step.ensures.0
    (step_cut c.args.self.now c.step.new.self c.in-Step.job c.in_err-step-in-Step.ensures.err)

pub returns-in_ok-step-in-Step : goal.returns-in_ok-step-in-Step
returns-in_ok-step-in-Step g c =
    comes_as c.args.self.now c.step.new.self c.args.event (event.Step c.in-Step.job) c.one-in-Step.result c.in-Step.is
    (comes_one c.args.self.now c.step.new.self (event.Step c.in-Step.job) c.in_ok-step-in-Step.field-0 c.one-in-Step.result
    (c.in_ok-step-in-Step.field-0, refl, c.in_ok-step-in-Step.ensures.ok) c.one-in-Step.ensures)

pub returns-in_err-stop-in-Stop : goal.returns-in_err-stop-in-Stop
returns-in_err-stop-in-Stop g c =
    comes_cut c.args.self.now c.stop.new.self c.args.event (event.Stop c.in-Stop.job) c.from_residual-in_err-stop-in-Stop.result c.in-Stop.is c.from_residual-in_err-stop-in-Stop.ensures.0
    (comes_before c.args.self.now c.stop.new.self (event.Stop c.in-Stop.job) c.in_err-stop-in-Stop.ensures.err)

pub returns-in_ok-stop-in-Stop : goal.returns-in_ok-stop-in-Stop
returns-in_ok-stop-in-Stop g c =
    comes_as c.args.self.now c.stop.new.self c.args.event (event.Stop c.in-Stop.job) c.one-in-Stop.result c.in-Stop.is
    (comes_one c.args.self.now c.stop.new.self (event.Stop c.in-Stop.job) c.in_ok-stop-in-Stop.field-0 c.one-in-Stop.result
    (c.in_ok-stop-in-Stop.field-0, refl, c.in_ok-stop-in-Stop.ensures.ok) c.one-in-Stop.ensures)

pub returns-in_err-deliver-in-Deliver : goal.returns-in_err-deliver-in-Deliver
returns-in_err-deliver-in-Deliver g c =
    comes_cut c.args.self.now c.deliver.new.self c.args.event (event.Deliver c.in-Deliver.hook) c.from_residual-in_err-deliver-in-Deliver.result c.in-Deliver.is c.from_residual-in_err-deliver-in-Deliver.ensures.0
    (comes_before c.args.self.now c.deliver.new.self (event.Deliver c.in-Deliver.hook) c.in_err-deliver-in-Deliver.ensures.err)

pub returns-in_ok-deliver-in-Deliver : goal.returns-in_ok-deliver-in-Deliver
returns-in_ok-deliver-in-Deliver g c =
    comes_as c.args.self.now c.deliver.new.self c.args.event (event.Deliver c.in-Deliver.hook) c.one-in-Deliver.result c.in-Deliver.is
    (comes_one c.args.self.now c.deliver.new.self (event.Deliver c.in-Deliver.hook) c.in_ok-deliver-in-Deliver.field-0 c.one-in-Deliver.result
    (c.in_ok-deliver-in-Deliver.field-0, refl, c.in_ok-deliver-in-Deliver.ensures.ok) c.one-in-Deliver.ensures)

pub returns-in-Settle : goal.returns-in-Settle
returns-in-Settle g c =
    comes_as c.args.self.now c.settle.new.self c.args.event (event.Settle c.in-Settle.job) c.one-in-Settle.result c.in-Settle.is
    (comes_one c.args.self.now c.settle.new.self (event.Settle c.in-Settle.job) c.settle.result c.one-in-Settle.result (c.settle.result, refl, c.settle.ensures)
    c.one-in-Settle.ensures)

pub returns-in-Forge : goal.returns-in-Forge
returns-in-Forge g c =
    comes_as c.args.self.now c.forge.new.self c.args.event (event.Forge c.in-Forge.hook) c.one-in-Forge.result c.in-Forge.is
    (comes_one c.args.self.now c.forge.new.self (event.Forge c.in-Forge.hook) c.forge.result c.one-in-Forge.result (c.forge.result, refl, c.forge.ensures)
    c.one-in-Forge.ensures)

pub returns-in-Wait : goal.returns-in-Wait
returns-in-Wait g c =
    comes_as c.args.self.now c.wait.new.self c.args.event (event.Wait c.in-Wait.seconds) c.one-in-Wait.result c.in-Wait.is
    (comes_one c.args.self.now c.wait.new.self (event.Wait c.in-Wait.seconds) c.wait.result c.one-in-Wait.result (c.wait.result, refl, c.wait.ensures)
    c.one-in-Wait.ensures)

pub returns-in-Sweep : goal.returns-in-Sweep
returns-in-Sweep g c =
    comes_as c.args.self.now c.sweep.new.self c.args.event (event.Sweep c.in-Sweep.keep) c.one-in-Sweep.result c.in-Sweep.is
    (comes_one c.args.self.now c.sweep.new.self (event.Sweep c.in-Sweep.keep) c.sweep.result c.one-in-Sweep.result (c.sweep.result, refl, c.sweep.ensures)
    c.one-in-Sweep.ensures)

pub returns-in-Word : goal.returns-in-Word
returns-in-Word g c =
    comes_as c.args.self.now c.word.new.self c.args.event (event.Word c.in-Word.job c.in-Word.rev) c.one-in-Word.result c.in-Word.is
    (comes_one c.args.self.now c.word.new.self (event.Word c.in-Word.job c.in-Word.rev) c.word.result c.one-in-Word.result
    (c.word.result, refl, c.word.ensures) c.one-in-Word.ensures)

pub returns-in-Row : goal.returns-in-Row
returns-in-Row g c =
    comes_as c.args.self.now c.args.self.now c.args.event (event.Row c.in-Row.job) c.one-in-Row.result c.in-Row.is
    (comes_one c.args.self.now c.args.self.now (event.Row c.in-Row.job) c.row.result c.one-in-Row.result
    (refl, ap (λ (t : Told). t ∷ []) c.row.ensures) c.one-in-Row.ensures)

pub returns-in-Exec : goal.returns-in-Exec
returns-in-Exec g c =
    comes_as c.args.self.now c.args.self.now c.args.event (event.Exec c.in-Exec.exec) c.one-in-Exec.result c.in-Exec.is
    (comes_one c.args.self.now c.args.self.now (event.Exec c.in-Exec.exec) c.exec.result c.one-in-Exec.result
    (refl, ap (λ (t : Told). t ∷ []) c.exec.ensures) c.one-in-Exec.ensures)

pub returns-in_err-cause_of-in-CauseOf : goal.returns-in_err-cause_of-in-CauseOf
returns-in_err-cause_of-in-CauseOf g c =
    comes_cut c.args.self.now c.args.self.now c.args.event (event.CauseOf c.in-CauseOf.job) c.from_residual-in_err-cause_of-in-CauseOf.result c.in-CauseOf.is
    c.from_residual-in_err-cause_of-in-CauseOf.ensures.0 (comes_before c.args.self.now c.args.self.now (event.CauseOf c.in-CauseOf.job) refl)

pub returns-in_ok-cause_of-in-CauseOf : goal.returns-in_ok-cause_of-in-CauseOf
returns-in_ok-cause_of-in-CauseOf g c =
    comes_as c.args.self.now c.args.self.now c.args.event (event.CauseOf c.in-CauseOf.job) c.one-in-CauseOf.result c.in-CauseOf.is
    (comes_one c.args.self.now c.args.self.now (event.CauseOf c.in-CauseOf.job) c.in_ok-cause_of-in-CauseOf.field-0 c.one-in-CauseOf.result
    (refl, ap (λ (t : Told). t ∷ []) c.in_ok-cause_of-in-CauseOf.ensures) c.one-in-CauseOf.ensures)

pub returns-in_ok-finish-in-Finish : goal.returns-in_ok-finish-in-Finish
returns-in_ok-finish-in-Finish g c =
    comes_as c.args.self.now c.finish.new.self c.args.event event.Finish c.one-in-Finish.result c.in-Finish.is
    (comes_finished c.args.self.now c.finish.new.self c.one-in-Finish.result c.in_ok-finish-in-Finish.ensures.ok
    c.one-in-Finish.ensures)

pub returns-in_err-finish-in-Finish : goal.returns-in_err-finish-in-Finish
returns-in_err-finish-in-Finish g c =
    comes_cut c.args.self.now c.finish.new.self c.args.event event.Finish c.from_residual-in_err-finish-in-Finish.result c.in-Finish.is
    c.from_residual-in_err-finish-in-Finish.ensures.0 c.in_err-finish-in-Finish.ensures.err

pub returns-in-Tags : goal.returns-in-Tags
returns-in-Tags g c =
    comes_as c.args.self.now c.args.self.now c.args.event (event.Tags c.in-Tags.reg) c.tags.result c.in-Tags.is
    (comes_tags c.args.self.now c.in-Tags.reg c.tags.result c.tags.ensures)
