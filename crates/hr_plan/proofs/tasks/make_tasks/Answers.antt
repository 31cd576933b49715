use Rattle.hr_plan.proofs.TaskLemmas.{tasks_more}
use Rattle.hr_plan.proofs.tasks.make_tasks.Goals as goal

pub loop-pick-preserved : goal.loop-pick-preserved
loop-pick-preserved c =
    tasks_more c.args.policy.now c.args.picks.now c.loop-pick.pick-index c.pick-item.result c.loop-pick.specs c.push.new.self c.in-Ok.spec
    c.loop-pick.invariant c.loop-pick-test.true c.pick-item.is c.in_ok-push.ensures.ok c.in-Ok.ensures
