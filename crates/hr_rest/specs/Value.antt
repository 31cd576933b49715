-- The JSON values of replies, with the members of each object in the order of their bytes. (After
-- Harbor's replication API.)
use Rattle.std.specs.Prelude.{ℕ, List, codes}
use Rattle.std.specs.Str.Lossy.{utf8_lossy}
use Rattle.serde_json.specs.Data.{Data, number, string, array, object, no_members, member, unsigned}
use Rattle.serde_json.specs.View.{items_of}
use Rattle.hr_base.specs.Bytes.{Text}
use Rattle.hr_base.specs.declared.status.Status.{Status}
use Rattle.hr_base.specs.declared.status.Status.TheVariants as status
use Rattle.hr_event.specs.declared.view.ExecStatus.{ExecStatus}
use Rattle.hr_event.specs.declared.view.ExecStatus.TheVariants as stands
use Rattle.hr_event.specs.declared.view.ExecView.{ExecView}
use Rattle.hr_event.specs.declared.view.RowView.{RowView}
use Rattle.hr_event.specs.declared.view.Trigger.{Trigger}
use Rattle.hr_event.specs.declared.view.Trigger.TheVariants as trigger

-- a JSON list of these values
abbrev pub list_value : List Data → Data
list_value items = array (items_of items)

-- a whole number
abbrev pub whole_value : ℕ → Data
whole_value n = number (unsigned n)

-- a text, in which U+FFFD stands for what is no UTF-8 (Unicode 15, section 3.9)
abbrev pub text_value : Text → Data
text_value text = string (utf8_lossy text)

-- the word for what started an execution
abbrev pub trigger_text : Trigger → Text
trigger_text trigger.Manual = codes "manual"
trigger_text trigger.Scheduled = codes "scheduled"

-- the word for the status of an execution
abbrev pub exec_status_text : ExecStatus → Text
exec_status_text stands.InProgress = codes "InProgress"
exec_status_text stands.Succeed = codes "Succeed"
exec_status_text stands.Failed = codes "Failed"
exec_status_text stands.Stopped = codes "Stopped"

-- the word for the status of a task
abbrev pub status_text : Status → Text
status_text status.Pending = codes "Pending"
status_text status.Scheduled = codes "Scheduled"
status_text status.Running = codes "Running"
status_text status.Stopped = codes "Stopped"
status_text status.Error = codes "Error"
status_text status.Success = codes "Success"

-- the value of an execution, with the moment at which it was made in seconds
abbrev pub exec_value : ExecView → Data
exec_value exec =
    object (member (codes "failed") (whole_value exec.failed)
    (member (codes "id") (whole_value exec.exec.0)
    (member (codes "in_progress") (whole_value exec.in_progress)
    (member (codes "policy_id") (whole_value exec.policy.0)
    (member (codes "start_time") (whole_value exec.began.0)
    (member (codes "status") (string (exec_status_text exec.status))
    (member (codes "stopped") (whole_value exec.stopped)
    (member (codes "succeed") (whole_value exec.succeed)
    (member (codes "total") (whole_value exec.total)
    (member (codes "trigger") (string (trigger_text exec.trigger)) no_members))))))))))

-- the value of a task
abbrev pub row_value : RowView → Data
row_value row =
    object (member (codes "dst_resource") (text_value row.to)
    (member (codes "execution_id") (whole_value row.exec.0)
    (member (codes "id") (whole_value row.job.0)
    (member (codes "revision") (whole_value row.rev)
    (member (codes "src_resource") (text_value row.from)
    (member (codes "status") (string (status_text row.status)) no_members))))))
