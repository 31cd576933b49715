-- What a trigger of policy 1 does, by its plan. (Our own.)
use Rattle.std.specs.Prelude.{◌≡◌, ◌⊎◌, List}
use Rattle.hr_event.specs.declared.task.TaskSpec.{TaskSpec}
use Rattle.hr_event.specs.declared.told.Told.{Told}
use Rattle.hr_run.specs.State.{CoreState}
use Rattle.hr_run.specs.Triggering.{Creates, FailsToPlan, IsFull, Reserves}

-- the plan failed: an execution was made and marked so, or the store is full
abbrev pub FailsAsPlanned : CoreState → Told → CoreState → Type 0
FailsAsPlanned s answer t = FailsToPlan s answer t ⊎ IsFull s answer t

-- these tasks are planned: an execution of them was made, or the store is full
abbrev pub RunsPlan : CoreState → List TaskSpec → Told → CoreState → Type 0
RunsPlan s specs answer t = Creates s specs answer t ⊎ IsFull s answer t

-- memory was wanting: nothing was done, or the queue took room and nothing else
abbrev pub TriggerCut : CoreState → CoreState → Type 0
TriggerCut s t = (t ≡ s) ⊎ Reserves s t
