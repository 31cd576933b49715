-- The picks so far have their tasks.
use Rattle.std.proofs.Common.{take}
use Rattle.hr_plan.specs.Tasks.{AreTasks}
use Rattle.hr_plan.proofs.tasks.make_tasks.Given as goal

abbrev pub invariant-loop-pick : goal.invariant-loop-pick
invariant-loop-pick l = AreTasks l.policy (take l.pick-index l.picks) l.specs
