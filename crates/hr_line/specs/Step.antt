-- What one step of a lane does, by its answer: it does one line of the table for a job, or ends the
-- job's revision, or gives the job up. (Our own.)
use Rattle.std.specs.Prelude.{◌≡◌, ◌⊎◌, ◌+◌, Bool, true, false, List, ◌∷◌, slice_get, Option, Some, None, Result, Ok, Err}
use Rattle.hr_base.specs.declared.status.Hook.{Hook}
use Rattle.hr_base.specs.declared.status.Mark.{Mark}
use Rattle.hr_base.specs.declared.status.Status.{Status}
use Rattle.hr_base.specs.declared.status.Status.TheVariants.{Error, Success}
use Rattle.hr_base.specs.declared.number.JobNo.{JobNo}
use Rattle.hr_digest.specs.Order.{digest_eq}
use Rattle.hr_digest.specs.declared.digest.Digest.{Digest}
use Rattle.hr_name.specs.Tag.{TagName}
use Rattle.hr_event.specs.declared.cause.Cause.{Cause}
use Rattle.hr_event.specs.declared.cause.Cause.TheVariants as cause
use Rattle.hr_event.specs.declared.entry.Entry.{Entry}
use Rattle.hr_event.specs.declared.entry.What.TheVariants as what
use Rattle.hr_graph.specs.declared.need.Need.{Need}
use Rattle.hr_graph.specs.declared.need.Need.TheVariants as need
use Rattle.hr_adapter.specs.Reg.{Reg}
use Rattle.hr_line.specs.Line.{BlobLine, ChildLine, CopyLine, LineEnd, LookLine, PutLine, RootLine, TagLine, entry_of}
use Rattle.hr_line.specs.State.{HeldAfter, State, held_at, link_at, with_link}
use Rattle.hr_line.specs.declared.answer.Stepped.{Stepped}
use Rattle.hr_line.specs.declared.answer.Stepped.TheVariants as stepped
use Rattle.hr_line.specs.declared.held.Admitted.{Admitted}
use Rattle.hr_line.specs.declared.held.Held.{Held}
use Rattle.hr_line.specs.declared.held.Work.{Work}

-- ---- one line, by the work

-- a manifest is put: the root under its tag, a child under its digest
abbrev pub StoreLine : Bool → Admitted → TagName → Work → Digest → Reg → Reg → List Entry
    → List Entry → LineEnd → Type 0
StoreLine true a tag w d p q log after end = RootLine a tag w p q log after end
StoreLine false a tag w d p q log after end = PutLine a w d p q log after end

-- what the walk needs: f and g are the source before and after, p and q the destination
abbrev pub WalkLine : Need → Admitted → TagName → Work → Reg → Reg → Reg → Reg → List Entry
    → List Entry → LineEnd → Type 0
WalkLine (need.Manifest d) a tag w f g p q log after end = (q ≡ p) × ChildLine a w d f g log after end
WalkLine (need.HasBlob d) a tag w f g p q log after end = (g ≡ f) × BlobLine a w d p q log after end
WalkLine (need.CopyBlob d) a tag w f g p q log after end = CopyLine a w d f g p q log after end
WalkLine (need.PutManifest d) a tag w f g p q log after end =
    (g ≡ f) × StoreLine (digest_eq d w.walk.root) a tag w d p q log after end
WalkLine need.Done a tag w f g p q log after end = ⊥

-- a tag that was read is looked at first
abbrev pub WorkLine : Bool → Admitted → TagName → Work → Reg → Reg → Reg → Reg → List Entry
    → List Entry → LineEnd → Type 0
WorkLine true a tag w f g p q log after end = WalkLine w.walk.need a tag w f g p q log after end
WorkLine false a tag w f g p q log after end = (g ≡ f) × LookLine a tag w p q log after end

-- one line for a tag, by how far it is
abbrev pub Line : Admitted → TagName → Option Work → Reg → Reg → Reg → Reg → List Entry
    → List Entry → LineEnd → Type 0
Line a tag None f g p q log after end = (q ≡ p) × TagLine a tag f g log after end
Line a tag (Some w) f g p q log after end = WorkLine w.looked a tag w f g p q log after end

-- ---- a line in a lane

-- the two connections of a revision did something, and no other
pub record Moves (a : Admitted) (f g p q : Reg) (s t : State) : Type 0 where
  pub source : link_at s.sources a.spec.src ≡ Some f
  pub dest : link_at s.dests a.spec.dst ≡ Some p
  pub sources : t.sources ≡ with_link s.sources a.spec.src g
  pub dests : t.dests ≡ with_link s.dests a.spec.dst q

-- the next tag of a revision that is held
abbrev pub next_tag : Held → Option TagName
next_tag h = slice_get h.by.spec.tags h.next

-- one line was done for a revision, with this end
pub record DoesLine (h : Held) (s t : State) (end : LineEnd) : Type 0 where
  pub tag : TagName
  pub next : next_tag h ≡ Some tag
  pub f : Reg
  pub g : Reg
  pub p : Reg
  pub q : Reg
  pub moves : Moves h.by f g p q s t
  pub line : Line h.by tag h.work f g p q s.log t.log end
  pub hooks : t.hooks ≡ s.hooks
  pub admitted : t.admitted ≡ s.admitted

-- how far a revision is after a line that didn't end it
abbrev pub goes_on : Held → Option Work → Held
goes_on h None = record h { next = h.next + 1; work = None }
goes_on h (Some w) = record h { work = Some w }

-- the revision goes on
pub record GoesOn (s t : State) (job : JobNo) : Type 0 where
  pub held : Held
  pub here : held_at s.held job.0 ≡ Some held
  pub work : Option Work
  pub line : DoesLine held s t (Ok work)
  pub now : HeldAfter job.0 (Some (goes_on held work)) s.held t.held

-- ---- the end of a revision

-- nothing was done
pub record Rests (s t : State) : Type 0 where
  pub sources : t.sources ≡ s.sources
  pub dests : t.dests ≡ s.dests
  pub log : t.log ≡ s.log
  pub hooks : t.hooks ≡ s.hooks
  pub admitted : t.admitted ≡ s.admitted

-- what leads to an end: no tag is left; or a line ended the revision, or there was no room for one
abbrev pub ComesToEnd : Held → State → State → Option Cause → Type 0
ComesToEnd h s t None = (next_tag h ≡ None) × Rests s t
ComesToEnd h s t (Some why) = DoesLine h s t (Err why) ⊎ ((why ≡ cause.Memory) × Rests s t)

-- the status with which a revision ends
abbrev pub end_status : Option Cause → Status
end_status None = Success
end_status (Some why) = Error

-- a hook of a revision
abbrev pub hook_of : Admitted → Status → Hook
hook_of a status = record { job = a.job; rev = a.rev; status = status }

-- the last move was made, or a stop came first
abbrev pub Closes : Admitted → Option Cause → State → State → Result Status Mark → Type 0
Closes a why s t (Ok status) = (status ≡ end_status why)
    × (t.log ≡ entry_of a (what.Ended status why) ∷ s.log) × (t.hooks ≡ hook_of a status ∷ s.hooks)
Closes a why s t (Err mark) = (t.log ≡ entry_of a what.Dropped ∷ s.log) × (t.hooks ≡ s.hooks)

-- the revision ended, or its last move was lost, and the job is held no more
pub record Ends (s t : State) (job : JobNo) (closed : Result Status Mark) : Type 0 where
  pub held : Held
  pub here : held_at s.held job.0 ≡ Some held
  pub why : Option Cause
  pub mid : State
  pub comes : ComesToEnd held s mid why
  pub closes : Closes held.by why mid t closed
  pub sources : t.sources ≡ mid.sources
  pub dests : t.dests ≡ mid.dests
  pub admitted : t.admitted ≡ mid.admitted
  pub gone : HeldAfter job.0 None s.held t.held

-- the word was found at another mark: the job is given up, and no registry was asked
pub record Drops (s t : State) (job : JobNo) : Type 0 where
  pub held : Held
  pub here : held_at s.held job.0 ≡ Some held
  pub log : t.log ≡ entry_of held.by what.Dropped ∷ s.log
  pub hooks : t.hooks ≡ s.hooks
  pub sources : t.sources ≡ s.sources
  pub dests : t.dests ≡ s.dests
  pub admitted : t.admitted ≡ s.admitted
  pub gone : HeldAfter job.0 None s.held t.held

-- one step of a job, by its answer
abbrev pub Step : State → State → JobNo → Stepped → Type 0
Step s t job stepped.NotHere = (held_at s.held job.0 ≡ None) × (t ≡ s)
Step s t job stepped.Did = GoesOn s t job
Step s t job (stepped.Lost mark) = Drops s t job ⊎ Ends s t job (Err mark)
Step s t job (stepped.Ended status) = Ends s t job (Ok status)
