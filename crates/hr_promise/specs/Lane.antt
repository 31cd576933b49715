-- A lane at every moment, and what is answered to its steps. (Our own.)
use Rattle.std.specs.Prelude.{◌≡◌, ◌+◌, ◌≤◌, ◌⊎◌, List, length, slice_get, Some}
use Rattle.hr_base.specs.declared.number.JobNo.{JobNo}
use Rattle.hr_event.specs.declared.entry.Entry.{Entry}
use Rattle.hr_event.specs.declared.entry.What.{What}
use Rattle.hr_event.specs.declared.told.Told.{Told}
use Rattle.hr_event.specs.declared.told.Told.TheVariants as told
use Rattle.hr_line.specs.State.{AreSound, State}
use Rattle.hr_line.specs.declared.answer.Stepped.{Stepped}
use Rattle.hr_line.specs.declared.answer.Stepped.TheVariants as stepped
use Rattle.hr_promise.specs.Answer.{last_cause, last_done}

-- every connection of a lane is as each one is at every moment
pub record IsLaneSound (lane : State) : Type 0 where
  pub sources : AreSound lane.sources
  pub dests : AreSound lane.dests

-- what is answered to a step, by the journal after it
abbrev pub StepTells : JobNo → Stepped → List Entry → Told → Type 0
StepTells job stepped.NotHere log answer = answer ≡ told.NotHere job
StepTells job stepped.Did log answer =
    (what : What) × (last_done log ≡ Some what) × (answer ≡ told.Did job what)
StepTells job (stepped.Lost mark) log answer = answer ≡ told.Lost job mark
StepTells job (stepped.Ended status) log answer =
    answer ≡ told.Ended job status (last_cause log)
