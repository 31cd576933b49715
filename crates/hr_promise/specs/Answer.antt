-- What the core answers to an event, by what was done. (Our own.)
use Rattle.std.specs.Prelude.{◌≡◌, ◌≢◌, ⊤, ℕ, nat_eq, if◌then◌else◌, List, [], ◌∷◌, Option, Some, None}
use Rattle.hr_base.specs.declared.number.JobNo.{JobNo}
use Rattle.hr_event.specs.declared.cause.Cause.{Cause}
use Rattle.hr_event.specs.declared.entry.Entry.{Entry}
use Rattle.hr_event.specs.declared.entry.How.TheVariants.{Unsure}
use Rattle.hr_event.specs.declared.entry.What.{What}
use Rattle.hr_event.specs.declared.entry.What.TheVariants as what
use Rattle.hr_event.specs.declared.told.Told.{Told}
use Rattle.hr_event.specs.declared.told.Told.TheVariants as told
use Rattle.hr_adapter.specs.declared.listed.TagNow.{TagNow}

-- ---- what a step did

-- the entry that tells a step, where the newest says this: the entry before it where that says that
-- a blob was put, which goes with its read
abbrev pub told_by : What → List Entry → Option What
told_by (what.PutBlob digest sure) [] = None
told_by (what.PutBlob digest sure) (e ∷ older) = Some e.what
told_by newest older = Some newest

-- what the last step did, by a journal, the newest entry first
abbrev pub last_done : List Entry → Option What
last_done [] = None
last_done (e ∷ older) = told_by e.what older

-- the entries by which a step is told. The begin of a revision and its end have answers of their
-- own; a put blob is told by its read; a tag whose put failed, and a revision that was given up, by
-- what ended them.
abbrev pub IsToldStep : What → Type 0
IsToldStep what.Began = ⊥
IsToldStep (what.PutBlob digest sure) = ⊥
IsToldStep (what.Show tag digest old how) = how ≢ Unsure
IsToldStep (what.Ended status cause) = ⊥
IsToldStep what.Dropped = ⊥
IsToldStep _ = ⊤

-- a journal tells what the last step did
pub record IsTold (log : List Entry) : Type 0 where
  pub what : What
  pub last : last_done log ≡ Some what
  pub tells : IsToldStep what

-- ---- causes

-- the cause with which an entry says that a revision ended
abbrev pub cause_said : What → Option Cause
cause_said (what.Ended status cause) = cause
cause_said _ = None

-- the cause of the newest entry
abbrev pub last_cause : List Entry → Option Cause
last_cause [] = None
last_cause (e ∷ older) = cause_said e.what

-- a revision and the cause by which it ended
abbrev pub with_rev : ℕ → Option Cause → Option (ℕ × Cause) → Option (ℕ × Cause)
with_rev rev None older = older
with_rev rev (Some why) older = Some (rev, why)

-- the newest cause of a job's errors, with its revision, by a journal, the newest entry first
abbrev pub cause_in : List Entry → ℕ → Option (ℕ × Cause)
cause_in [] job = None
cause_in (e ∷ older) job =
    if nat_eq e.job.0 job then with_rev e.rev (cause_said e.what) (cause_in older job) else cause_in older job

-- the answer to a question for a cause
abbrev pub cause_told : JobNo → Option (ℕ × Cause) → Told
cause_told job None = told.NoCause job
cause_told job (Some found) = told.CauseIs job found.0 found.1

-- ---- tags

-- a tag of a registry, as an answer
abbrev pub tag_told : TagNow → Told
tag_told now = told.TagIs now.repo now.tag now.digest
