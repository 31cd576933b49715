-- What was copied so far.
use Rattle.std.proofs.Common.{◌≡◌, take}
use Rattle.hr_core.proofs.triggering.copy_tasks.Given as goal

abbrev pub invariant-loop-task : goal.invariant-loop-task
invariant-loop-task l = l.made ≡ take l.task-index l.tasks
