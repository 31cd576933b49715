-- When a task can be copied by a lane, and that memory was wanting. (Our own, over OCI Image 1.1 and
-- Harbor's job service.)
use Rattle.std.specs.Prelude.{◌≡◌, Contains, Some}
use Rattle.hr_base.specs.declared.status.Status.{Status}
use Rattle.hr_event.specs.declared.cause.Cause.{Cause}
use Rattle.hr_event.specs.declared.entry.Entry.{Entry}
use Rattle.hr_event.specs.declared.entry.What.TheVariants.{Ended}
use Rattle.hr_event.specs.declared.task.TaskSpec.{TaskSpec}
use Rattle.hr_adapter.specs.Content.{Content}
use Rattle.hr_line.specs.State.{State}
use Rattle.hr_line.specs.declared.held.Admitted.{Admitted}
use Rattle.hr_whole.specs.Copied.{BothUnfailing, CanBeCopied}
use Rattle.hr_whole.specs.Texts.{OpensWithOneText}

-- a task as the first revision of job 1
abbrev pub as_first : TaskSpec → Admitted
as_first spec = record { job = record { 0 = 1 }; rev = 0; spec = spec }

-- a task can be copied, as the lane was opened: its tags are whole at a source that is calm, neither
-- of its connections can fail, and no digest stands for two texts
pub record TaskCanArrive (opened : State) (spec : TaskSpec) : Type 0 where
  pub from : Content
  pub to : Content
  pub copied : CanBeCopied opened (as_first spec) from to
  pub unfailing : BothUnfailing opened (as_first spec)
  pub one_text : OpensWithOneText opened to

-- a revision ended by want of memory
pub record RanOutOfMemory (lane : State) : Type 0 where
  pub entry : Entry
  pub logged : Contains lane.log entry
  pub status : Status
  pub says : entry.what ≡ Ended status (Some Cause.Memory)
