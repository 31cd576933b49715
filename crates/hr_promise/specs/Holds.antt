-- What operators rest on, of a lane after any calls. (Our own, over OCI Image 1.1 and Harbor's job
-- service.)
use Rattle.std.specs.Prelude.{◌≡◌, ◌≤◌, ℕ, length, List, ◌∷◌, ◌++◌, Contains, Option, Some, IsSome}
use Rattle.hr_base.specs.declared.number.RegNo.{RegNo}
use Rattle.hr_base.specs.declared.status.Status.{Status}
use Rattle.hr_digest.specs.declared.digest.Digest.{Digest}
use Rattle.hr_name.specs.Name.{RepoName}
use Rattle.hr_name.specs.Tag.{TagName}
use Rattle.hr_event.specs.declared.cause.Cause.{Cause}
use Rattle.hr_event.specs.declared.entry.Entry.{Entry}
use Rattle.hr_event.specs.declared.entry.How.{How}
use Rattle.hr_event.specs.declared.entry.What.TheVariants.{Ended, Show}
use Rattle.hr_event.specs.declared.task.TaskSpec.{TaskSpec}
use Rattle.hr_adapter.specs.Content.{Content}
use Rattle.hr_journal.specs.OneEach.{OneEach}
use Rattle.hr_journal.specs.Origin.{AllTell, OneText, ShowedManifest, Source}
use Rattle.hr_journal.specs.Says.{placed}
use Rattle.hr_journal.specs.Shown.{WasRead}
use Rattle.hr_line.specs.Causes.{IsCauseShown}
use Rattle.hr_line.specs.Finals.{EndHolds, endings}
use Rattle.hr_line.specs.Hooks.{HooksTell}
use Rattle.hr_line.specs.Orderly.{admitted_at, placement}
use Rattle.hr_line.specs.Run.{AreComplete, Call, IsDestination, Runs}
use Rattle.hr_line.specs.Shows.{SaysShow}
use Rattle.hr_line.specs.Sources.{origin}
use Rattle.hr_line.specs.State.{State, link_at}
use Rattle.hr_line.specs.declared.held.Admitted.{Admitted}
use Rattle.hr_whole.specs.Copied.{BothUnfailing, CanBeCopied, EndsWell}
use Rattle.hr_whole.specs.Texts.{HaveSources, OpensWithOneText}

-- a lane came from one state to another by calls, one after the other
pub record LaneRuns (s t : State) : Type 0 where
  pub calls : List Call
  pub runs : Runs calls s t

-- the entry of a revision says that it ended so
pub record SaysEnded (t : State) (a : Admitted) (e : Entry) (status : Status) (why : Option Cause)
    : Type 0 where
  pub logged : Contains t.log e
  pub by : admitted_at t.admitted e.job.0 e.rev ≡ Some a
  pub says : e.what ≡ Ended status why

-- each tag that was put, and names that manifest still, names one whose graph is there, at each
-- destination of which no two texts of the opening and the sources have one digest, as all was opened
-- or as it is now, or no digest stands for two contents in the journal
pub record AreTagsComplete (s t : State) (reg : RegNo) (o c : Content) : Type 0 where
  pub opened : OpensWithOneText s o → HaveSources s t
      → AreComplete (placement reg t.admitted) t.log c
  pub told : AllTell (placement reg t.admitted) (origin t.sources t.admitted) t.log
      → OneText o (origin t.sources t.admitted) → AreComplete (placement reg t.admitted) t.log c
  pub untold : OneEach (placement reg t.admitted) o t.log
      → AreComplete (placement reg t.admitted) t.log c

-- each tag that was put at a destination was read at the source before, by the same revision
abbrev pub AreTagsRead : State → RegNo → Type 0
AreTagsRead t reg = (newer older : List Entry) (e : Entry) (repo : RepoName) (tag : TagName)
    (d : Digest) (old : Option Digest) (how : How)
    → t.log ≡ newer ++ e ∷ older → placed (placement reg t.admitted) e ≡ Some repo
    → e.what ≡ Show tag d old how → WasRead older e tag d

-- what was read under a tag the source showed there, where it tells
abbrev pub AreTagsShown : State → Type 0
AreTagsShown t = (newer older : List Entry) (e : Entry) (src : Source) (tag : TagName) (d : Digest)
    → t.log ≡ newer ++ e ∷ older → origin t.sources t.admitted e.job.0 e.rev ≡ Some src
    → (was : WasRead older e tag d) → ShowedManifest src tag was.media was.bytes

-- each tag that a revision finished is one of its task, and came out as the look just before decides
abbrev pub AreTagsFinished : State → Type 0
AreTagsFinished t = (newer older : List Entry) (e : Entry) (a : Admitted)
    → t.log ≡ newer ++ e ∷ older → admitted_at t.admitted e.job.0 e.rev ≡ Some a
    → SaysShow a older e.what

-- a task that could be copied as the lane was opened ends with success, or by want of memory
abbrev pub IsCopied : State → State → Type 0
IsCopied s t = (e : Entry) (a : Admitted) (c o : Content) (status : Status) (why : Option Cause)
    → CanBeCopied s a c o → BothUnfailing s a → OpensWithOneText s o → HaveSources s t
    → SaysEnded t a e status why → EndsWell a t.log status why

-- what operators rest on, of a lane as it was opened and as it is
pub record LaneHolds (s t : State) : Type 0 where
  -- tags that were put are complete, and were read before
  pub complete : (reg : RegNo) (o c : Content) → IsDestination s.dests t reg o c
      → AreTagsComplete s t reg o c
  pub read : (reg : RegNo) (o c : Content) → IsDestination s.dests t reg o c → AreTagsRead t reg
  pub shown : AreTagsShown t
  pub finished : AreTagsFinished t
  -- each revision ended at most once: with success where each of its tags was finished, or with an
  -- error by a cause that is shown
  pub final : (job rev : ℕ) → length (endings job rev t.log) ≤ 1
  pub ends : (e : Entry) (a : Admitted) (status : Status) (why : Option Cause)
      → SaysEnded t a e status why → EndHolds a t.log status why
  pub caused : (e : Entry) (a : Admitted) (status : Status) (why : Cause)
      → SaysEnded t a e status (Some why) → IsCauseShown t a why
  -- each hook goes with an entry
  pub hooks : HooksTell t
  pub copied : IsCopied s t

-- a task reads from a connection that the lane was opened with
abbrev pub HasSource : State → TaskSpec → Type 0
HasSource opened spec = IsSome (link_at opened.sources spec.src)
