-- What a step does for a revision whose word is at Running. (Our own.)
use Rattle.std.specs.Prelude.{◌≡◌, ◌⊎◌, ⊤, List, Option, Some, None, IfSome, Result, Ok, Err}
use Rattle.hr_name.specs.Tag.{TagName}
use Rattle.hr_event.specs.declared.cause.Cause.{Cause}
use Rattle.hr_event.specs.declared.cause.Cause.TheVariants as cause
use Rattle.hr_event.specs.declared.entry.Entry.{Entry}
use Rattle.hr_line.specs.Line.{LineEnd}
use Rattle.hr_line.specs.State.{HeldAfter, Link}
use Rattle.hr_line.specs.Step.{goes_on, next_tag}
use Rattle.hr_line.specs.declared.held.Held.{Held}
use Rattle.hr_line.specs.declared.held.Work.{Work}
use Rattle.hr_lane.specs.Line.{DoesBetween, IsLive}
use Rattle.hr_lane.specs.declared.going.Over.{Over}

-- a line was tried for the next tag of a revision
pub record TriesNext (h : Held) (sources from dests to : List Link) (log after : List Entry)
    (end : LineEnd) : Type 0 where
  pub tag : TagName
  pub next : next_tag h ≡ Some tag
  pub between : DoesBetween h.by tag h.work sources from dests to log after end

-- nothing was done
pub record Idles (sources from dests to : List Link) (log after : List Entry) : Type 0 where
  pub no_source : from ≡ sources
  pub no_dest : to ≡ dests
  pub no_entry : after ≡ log

-- the revision goes on, and is held again
pub record IsHeldAgain (h : Held) (sources from dests to : List Link) (log after : List Entry)
    (held later : List Held) : Type 0 where
  pub work : Option Work
  pub line : TriesNext h sources from dests to log after (Ok work)
  pub live : IfSome work IsLive
  pub now : HeldAfter h.by.job.0 (Some (goes_on h work)) held later

-- the revision is to end: no tag is left, or there was no room, or a line ended it
abbrev pub IsOver : Held → List Link → List Link → List Link → List Link → List Entry → List Entry
    → Option Cause → Type 0
IsOver h sources from dests to log after None =
    (next_tag h ≡ None) × Idles sources from dests to log after
IsOver h sources from dests to log after (Some why) =
    TriesNext h sources from dests to log after (Err why)
    ⊎ ((why ≡ cause.Memory) × Idles sources from dests to log after)

-- one line for a revision that was taken out
abbrev pub WorksOn : Held → List Link → List Link → List Link → List Link → List Entry → List Entry
    → List Held → List Held → Result ⊤ Over → Type 0
WorksOn h sources from dests to log after held later (Ok done) =
    IsHeldAgain h sources from dests to log after held later
WorksOn h sources from dests to log after held later (Err over) =
    (over.by ≡ h.by) × (later ≡ held) × IsOver h sources from dests to log after over.why
