-- Whether executions succeeded. (Our own.)
use Rattle.std.specs.Prelude.{Bool, true, false}
use Rattle.hr_event.specs.declared.view.ExecStatus.{ExecStatus}
use Rattle.hr_event.specs.declared.view.ExecStatus.TheVariants.{Succeed}
use Rattle.hr_event.specs.declared.view.ExecView.{ExecView}

-- a status is Succeed
abbrev pub is_succeed : ExecStatus → Bool
is_succeed Succeed = true
is_succeed other = false

-- an execution, as it is told, succeeded
abbrev pub view_succeeds : ExecView → Bool
view_succeeds view = is_succeed view.status
