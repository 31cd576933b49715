-- The texts of answers, each a line ended by a line feed. (Our own.)
use Rattle.std.specs.Prelude.{⊤, List, [], ◌∷◌, ◌++◌, codes, flat_map, Option, Some, None}
use Rattle.std.specs.Fmt.{decimal}
use Rattle.hr_base.specs.Bytes.{Text}
use Rattle.hr_base.specs.declared.status.Status.{Status}
use Rattle.hr_digest.specs.Digest.{text_of_digest}
use Rattle.hr_event.specs.declared.cause.Cause.{Cause}
use Rattle.hr_event.specs.declared.told.Told.{Told}
use Rattle.hr_event.specs.declared.told.Told.TheVariants as answer
use Rattle.hr_event.specs.declared.view.ExecView.{ExecView}
use Rattle.hr_event.specs.declared.view.Received.{Received}
use Rattle.hr_event.specs.declared.view.Received.TheVariants as became
use Rattle.hr_print.specs.Cause.{cause_text}
use Rattle.hr_print.specs.Step.{TellsStep, step_text}
use Rattle.hr_print.specs.Word.{exec_status_text, mark_text, status_text}

-- how a revision ended: its status, and behind it the cause where there is one
abbrev pub end_text : Status → Option Cause → Text
end_text status None = status_text status
end_text status (Some cause) = status_text status ++ 32 ∷ cause_text cause

-- what became of a hook
abbrev pub received_text : Received → Text
received_text became.Raised = codes "raised"
received_text became.Known = codes "known"
received_text (became.Unconfirmed mark) = codes "unconfirmed " ++ mark_text mark
received_text became.Unknown = codes "unknown"
received_text became.Swept = codes "swept"

-- how many rows an execution has, and how many of each kind
abbrev pub counts_text : ExecView → Text
counts_text view =
    codes " total " ++ decimal view.total ++ codes " succeed " ++ decimal view.succeed
    ++ codes " failed " ++ decimal view.failed ++ codes " in_progress " ++ decimal view.in_progress
    ++ codes " stopped " ++ decimal view.stopped

-- an execution: its number, its status, and the counts of its rows
abbrev pub view_text : ExecView → Text
view_text view =
    codes "execution " ++ decimal view.exec.0 ++ codes " " ++ exec_status_text view.status
    ++ counts_text view

-- the words of an answer
abbrev pub answer_text : Told → Text
answer_text (answer.Created exec tasks) =
    codes "execution " ++ decimal exec.0 ++ codes " tasks " ++ decimal tasks
answer_text (answer.PlanFailed exec) = codes "execution " ++ decimal exec.0 ++ codes " failed"
answer_text (answer.Full jobs) = codes "full " ++ decimal jobs
answer_text (answer.NoPolicy policy) = codes "no policy " ++ decimal policy.0
answer_text (answer.Off policy) = codes "policy " ++ decimal policy.0 ++ codes " off"
answer_text (answer.Began job rev) =
    codes "job " ++ decimal job.0 ++ codes " rev " ++ decimal rev ++ codes " begins"
answer_text (answer.Lost job mark) =
    codes "job " ++ decimal job.0 ++ codes " lost " ++ mark_text mark
answer_text (answer.Later due) = codes "later " ++ decimal due.0
answer_text (answer.Busy out) = codes "busy " ++ decimal out
answer_text answer.Idle = codes "idle"
answer_text (answer.Did job what) = codes "job " ++ decimal job.0 ++ codes " " ++ step_text what
answer_text (answer.Ended job status cause) =
    codes "job " ++ decimal job.0 ++ codes " ended " ++ end_text status cause
answer_text (answer.NotHere job) = codes "job " ++ decimal job.0 ++ codes " not here"
answer_text (answer.Done job status) =
    codes "job " ++ decimal job.0 ++ codes " done " ++ status_text status
answer_text (answer.Again job due) =
    codes "job " ++ decimal job.0 ++ codes " again " ++ decimal due.0
answer_text (answer.Back job) = codes "job " ++ decimal job.0 ++ codes " back"
answer_text (answer.NotOut job) = codes "job " ++ decimal job.0 ++ codes " not out"
answer_text (answer.InLane job) = codes "job " ++ decimal job.0 ++ codes " busy"
answer_text (answer.Stopped job rev) =
    codes "job " ++ decimal job.0 ++ codes " stopped " ++ decimal rev
answer_text (answer.FinalAt job rev status) =
    codes "job " ++ decimal job.0 ++ codes " final " ++ decimal rev ++ 32 ∷ status_text status
answer_text (answer.NoJob job) = codes "no job " ++ decimal job.0
answer_text (answer.Heard hook received) =
    codes "hook " ++ decimal hook ++ codes " " ++ received_text received
answer_text (answer.NoHook hook) = codes "no hook " ++ decimal hook
answer_text (answer.Now now) = codes "now " ++ decimal now.0
answer_text (answer.Swept count) = codes "swept " ++ decimal count
answer_text (answer.TagIs repo tag digest) = repo ++ 32 ∷ tag ++ 32 ∷ text_of_digest digest
answer_text (answer.RowIs job rev status) =
    codes "row " ++ decimal job.0 ++ codes " " ++ decimal rev ++ 32 ∷ status_text status
answer_text (answer.NoRow job) = codes "no row " ++ decimal job.0
answer_text (answer.ExecIs view) = view_text view
answer_text (answer.NoExec exec) = codes "no execution " ++ decimal exec.0
answer_text (answer.WordIs job rev mark) =
    codes "word " ++ decimal job.0 ++ codes " " ++ decimal rev ++ 32 ∷ mark_text mark
answer_text (answer.CauseIs job rev cause) =
    codes "cause " ++ decimal job.0 ++ codes " " ++ decimal rev ++ codes " " ++ cause_text cause
answer_text (answer.NoCause job) = codes "no cause " ++ decimal job.0

-- the text of an answer: its words as a line, ended by a line feed
abbrev pub text_of : Told → Text
text_of told = answer_text told ++ 10 ∷ []

-- the texts of answers, one behind the other
abbrev pub texts_of : List Told → Text
texts_of = flat_map text_of

-- the answer has a text: where it says what a step did, it does so by an entry that tells a step
abbrev pub HasText : Told → Type 0
HasText (answer.Did job what) = TellsStep what
HasText _ = ⊤
