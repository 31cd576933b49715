-- The names of statuses in the lines of a script. (Our own; the names are those of Harbor's job
-- service.)
use Rattle.std.specs.Prelude.{◌≡◌, if◌then◌else◌, codes, Result, Ok, Err}
use Rattle.hr_base.specs.Bytes.{Text}
use Rattle.hr_base.specs.declared.status.Status.{Status}
use Rattle.hr_base.specs.declared.status.Status.TheVariants as status
use Rattle.hr_script.specs.Kind.{is_same}
use Rattle.hr_script.specs.Meaning.{Meaning}
use Rattle.hr_script.specs.declared.refusal.Why.{Why}
use Rattle.hr_script.specs.declared.refusal.Why.TheVariants as why

-- the status that a word names, byte by byte
abbrev pub status_named : Text → Result Status Why
status_named word =
    if is_same word (codes "Pending") then Ok status.Pending
    else (if is_same word (codes "Scheduled") then Ok status.Scheduled
    else (if is_same word (codes "Running") then Ok status.Running
    else (if is_same word (codes "Stopped") then Ok status.Stopped
    else (if is_same word (codes "Error") then Ok status.Error
    else (if is_same word (codes "Success") then Ok status.Success
    else Err why.Policy)))))

-- what a word means as a status
abbrev pub status_in : Text → Meaning Status
status_in word answer = answer ≡ status_named word
