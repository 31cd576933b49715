-- How a revision ends: at most once, with an error only by its cause, and with success only where
-- each of its tags was finished. (Our own.)
use Rattle.std.specs.Prelude.{◌≡◌, ◌≢◌, ◌≤◌, ⊤, ℕ, if◌then◌else◌, List, [], length, take, Option, Some, None, IfSome}
use Rattle.std.specs.List.{AllByRecursion, filter_map}
use Rattle.hr_base.specs.declared.status.Status.{Status}
use Rattle.hr_base.specs.declared.status.Status.TheVariants.{Error, Success}
use Rattle.hr_digest.specs.declared.digest.Digest.{Digest}
use Rattle.hr_name.specs.Tag.{TagName}
use Rattle.hr_event.specs.declared.cause.Cause.{Cause}
use Rattle.hr_event.specs.declared.entry.Entry.{Entry}
use Rattle.hr_event.specs.declared.entry.How.{How}
use Rattle.hr_event.specs.declared.entry.How.TheVariants.{Unsure}
use Rattle.hr_event.specs.declared.entry.What.{What}
use Rattle.hr_event.specs.declared.entry.What.TheVariants as what
use Rattle.hr_journal.specs.Says.{is_of}
use Rattle.hr_line.specs.Evidence.{Says}
use Rattle.hr_line.specs.Orderly.{admitted_at}
use Rattle.hr_line.specs.State.{State, held_at}
use Rattle.hr_line.specs.declared.held.Admitted.{Admitted}

-- the status with which an entry says that its revision ended
abbrev pub ended_as : What → Option Status
ended_as (what.Ended status cause) = Some status
ended_as _ = None

-- the statuses with which a revision of a job ended
abbrev pub endings : ℕ → ℕ → List Entry → List Status
endings job rev log = filter_map (λ e. if is_of job rev e then ended_as e.what else None) log

-- no revision ended twice, and none that is held ended
pub record EndOnce (s : State) : Type 0 where
  pub once : (job rev : ℕ) → length (endings job rev s.log) ≤ 1
  pub going : (job : ℕ) → IfSome (held_at s.held job) (λ h. endings h.by.job.0 h.by.rev s.log ≡ [])

-- a revision put a tag, or found that it names the manifest already, or another one that is kept
pub record IsFinished (a : Admitted) (log : List Entry) (tag : TagName) : Type 0 where
  pub digest : Digest
  pub old : Option Digest
  pub how : How
  pub says : Says a log (what.Show tag digest old how)
  pub sure : how ≢ Unsure

-- a revision ended with success by no cause, where each of its tags was finished, or with an error
-- by its cause
abbrev pub EndHolds : Admitted → List Entry → Status → Option Cause → Type 0
EndHolds a log status None = (status ≡ Success) × AllByRecursion (IsFinished a log) a.spec.tags
EndHolds a log status (Some why) = status ≡ Error

-- so it did where an entry says that it ended
abbrev pub SaysEnd : Admitted → List Entry → What → Type 0
SaysEnd a log (what.Ended status cause) = EndHolds a log status cause
SaysEnd a log _ = ⊤

-- each end that the journal has is such a one, and each revision that is held finished the tags
-- before its next one
pub record EndsHold (s : State) : Type 0 where
  pub logged : AllByRecursion (λ e. IfSome (admitted_at s.admitted e.job.0 e.rev)
      (λ a. SaysEnd a s.log e.what)) s.log
  pub held : (job : ℕ) → IfSome (held_at s.held job)
      (λ h. AllByRecursion (IsFinished h.by s.log) (take h.next h.by.spec.tags))
