-- What comes of an event, and which events may come. (Our own, after Harbor's job service and its
-- task manager.)
use Rattle.std.specs.Prelude.{◌≤◌, ⊤, List, Result, Ok, Err}
use Rattle.hr_base.specs.declared.memory.Memory.{Memory}
use Rattle.hr_event.specs.declared.event.Event.{Event}
use Rattle.hr_event.specs.declared.event.Event.TheVariants as event
use Rattle.hr_event.specs.declared.told.Told.{Told}
use Rattle.hr_run.specs.Run.{Cut, Does}
use Rattle.hr_run.specs.State.{CoreState}

-- an event that the core takes: each revision that it names is from 0 to 3, and it triggers no
-- schedule
abbrev pub IsTaken : Event → Type 0
IsTaken (event.Forge hook) = hook.rev ≤ 3
IsTaken (event.Word job rev) = rev ≤ 3
IsTaken event.Due = ⊥
IsTaken _ = ⊤

-- what comes of an event: it is done and answered, or cut short for want of memory
abbrev pub Comes : CoreState → Event → Result (List Told) Memory → CoreState → Type 0
Comes s e (Ok answers) t = Does s e answers t
Comes s e (Err memory) t = Cut s e t
