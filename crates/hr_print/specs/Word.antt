-- The words of statuses and marks in answers. (Our own; the names are those of Harbor's job
-- service and of its replication executions.)
use Rattle.std.specs.Prelude.{codes}
use Rattle.hr_base.specs.Bytes.{Text}
use Rattle.hr_base.specs.declared.status.Mark.{Mark}
use Rattle.hr_base.specs.declared.status.Mark.TheVariants.{Unopened, At}
use Rattle.hr_base.specs.declared.status.Status.{Status}
use Rattle.hr_base.specs.declared.status.Status.TheVariants as status
use Rattle.hr_event.specs.declared.view.ExecStatus.{ExecStatus}
use Rattle.hr_event.specs.declared.view.ExecStatus.TheVariants as execution

-- the status of a revision, by its name
abbrev pub status_text : Status → Text
status_text status.Pending = codes "Pending"
status_text status.Scheduled = codes "Scheduled"
status_text status.Running = codes "Running"
status_text status.Stopped = codes "Stopped"
status_text status.Error = codes "Error"
status_text status.Success = codes "Success"

-- the mark of a revision: that it is unopened, or its status
abbrev pub mark_text : Mark → Text
mark_text Unopened = codes "Unopened"
mark_text (At known) = status_text known

-- the status of an execution, by its name
abbrev pub exec_status_text : ExecStatus → Text
exec_status_text execution.InProgress = codes "InProgress"
exec_status_text execution.Succeed = codes "Succeed"
exec_status_text execution.Failed = codes "Failed"
exec_status_text execution.Stopped = codes "Stopped"
