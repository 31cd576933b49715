-- What an event's line means, by the words behind its first one. (Our own.)
use Rattle.std.specs.Prelude.{ℕ, List, [], ◌∷◌}
use Rattle.hr_base.specs.Bytes.{Text}
use Rattle.hr_base.specs.declared.number.JobNo.{JobNo}
use Rattle.hr_event.specs.declared.event.Event.TheVariants as event
use Rattle.hr_script.specs.declared.line.Line.{Line}
use Rattle.hr_script.specs.declared.line.Line.TheVariants.{Event}
use Rattle.hr_script.specs.declared.refusal.Why.TheVariants as why
use Rattle.hr_script.specs.Meaning.{Meaning, gives, refuses, ◌>>=◌}
use Rattle.hr_script.specs.Status.{status_in}
use Rattle.hr_script.specs.Word.{job_in, policy_in, registry_in, revision_in, seconds_in, small_in}

-- what the words left of a line mean where the number of a job is all that is left
abbrev pub only_job : List Text → Meaning JobNo
only_job (job ∷ []) = job_in job
only_job _ = refuses why.Count

-- what the words left of a line mean where a number below 2^32 is all that is left
abbrev pub only_number : List Text → Meaning ℕ
only_number (number ∷ []) = small_in number
only_number _ = refuses why.Count

-- what the words behind `trigger` mean
abbrev pub trigger_of : List Text → Meaning Line
trigger_of (policy ∷ []) = do
  policy ← policy_in policy
  gives (Event (event.Trigger policy))
trigger_of _ = refuses why.Count

-- what the words behind `take` mean, of which there are none
abbrev pub take_of : List Text → Meaning Line
take_of [] = gives (Event event.Take)
take_of _ = refuses why.Count

-- what the words behind `step` mean
abbrev pub step_of : List Text → Meaning Line
step_of words = do
  job ← only_job words
  gives (Event (event.Step job))

-- what the words behind `settle` mean
abbrev pub settle_of : List Text → Meaning Line
settle_of words = do
  job ← only_job words
  gives (Event (event.Settle job))

-- what the words behind `stop` mean
abbrev pub stop_of : List Text → Meaning Line
stop_of words = do
  job ← only_job words
  gives (Event (event.Stop job))

-- what the words behind `deliver` mean: the number of a hook
abbrev pub deliver_of : List Text → Meaning Line
deliver_of words = do
  hook ← only_number words
  gives (Event (event.Deliver hook))

-- what the words behind `forge` mean: a hook, by its job, its revision and its status
abbrev pub forge_of : List Text → Meaning Line
forge_of (job ∷ rev ∷ status ∷ []) = do
  job ← job_in job
  rev ← revision_in rev
  status ← status_in status
  gives (Event (event.Forge (record { job = job; rev = rev; status = status })))
forge_of _ = refuses why.Count

-- what the words behind `wait` mean
abbrev pub wait_of : List Text → Meaning Line
wait_of (seconds ∷ []) = do
  seconds ← seconds_in seconds
  gives (Event (event.Wait seconds))
wait_of _ = refuses why.Count

-- what the words behind `sweep` mean: how many executions are kept of each policy
abbrev pub sweep_of : List Text → Meaning Line
sweep_of words = do
  keep ← only_number words
  gives (Event (event.Sweep keep))

-- what the words behind `finish` mean, of which there are none
abbrev pub finish_of : List Text → Meaning Line
finish_of [] = gives (Event event.Finish)
finish_of _ = refuses why.Count

-- what the words behind `tags` mean
abbrev pub tags_of : List Text → Meaning Line
tags_of (reg ∷ []) = do
  reg ← registry_in reg
  gives (Event (event.Tags reg))
tags_of _ = refuses why.Count

-- what the words behind `row` mean
abbrev pub row_of : List Text → Meaning Line
row_of words = do
  job ← only_job words
  gives (Event (event.Row job))

-- what the words behind `exec` mean: the number of an execution
abbrev pub exec_of : List Text → Meaning Line
exec_of words = do
  exec ← only_number words
  gives (Event (event.Exec (record { 0 = exec })))

-- what the words behind `word` mean
abbrev pub word_of : List Text → Meaning Line
word_of (job ∷ rev ∷ []) = do
  job ← job_in job
  rev ← revision_in rev
  gives (Event (event.Word job rev))
word_of _ = refuses why.Count

-- what the words behind `cause` mean
abbrev pub cause_of : List Text → Meaning Line
cause_of words = do
  job ← only_job words
  gives (Event (event.CauseOf job))
