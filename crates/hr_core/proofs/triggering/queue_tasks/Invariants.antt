-- The jobs of the tasks so far.
use Rattle.std.proofs.Common.{◌≡◌, take}
use Rattle.hr_run.specs.State.{queued_from}
use Rattle.hr_core.proofs.triggering.queue_tasks.Given as goal

abbrev pub invariant-loop-at : goal.invariant-loop-at
invariant-loop-at l = l.queued.items ≡ queued_from l.before (take l.at l.tasks)
