use Rattle.std.proofs.Common.{◌≡◌, ◌∙◌, ap, sym, suc, ℕ, ◌+◌, List, ◌++◌, ◌∷◌, [], take, arith}
use Rattle.hr_event.specs.declared.task.TaskSpec.{TaskSpec}
use Rattle.hr_queue.specs.declared.answer.Queued.{Queued}
use Rattle.hr_run.specs.State.{queued_from}
use Rattle.hr_core.proofs.PlanLemmas.{Q, queued_take}
use Rattle.hr_core.proofs.triggering.queue_tasks.Goals as goal

pub loop-at-preserved : goal.loop-at-preserved
loop-at-preserved c =
    c.in_ok-push.ensures.items
    ∙ ap (λ (t : TaskSpec). c.loop-at.queued.items ++ Q (c.args.before + c.loop-at.at + 1) t.attempts ∷ []) (sym c.index-tasks-at.is)
    ∙ ap (λ (qs : List Queued). qs ++ Q (c.args.before + c.loop-at.at + 1) c.index-tasks-at.result.attempts ∷ []) c.loop-at.invariant
    ∙ sym (queued_take c.args.before c.loop-at.at c.args.tasks.now c.index-tasks-at.result c.loop-at-test.true c.index-tasks-at.is)
    ∙ ap (λ (n : ℕ). queued_from c.args.before (take n c.args.tasks.now)) (let e : suc c.loop-at.at ≡ c.loop-at.at + 1 = omega arith in e)
