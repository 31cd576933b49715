-- A line of the step's table, or none where there is no room for it. (Our own.)
use Rattle.std.specs.Prelude.{◌≡◌, ◌≢◌, ◌⊎◌, List, Option, Some, Err}
use Rattle.hr_digest.specs.Order.{digest_eq}
use Rattle.hr_digest.specs.declared.digest.Digest.{Digest}
use Rattle.hr_name.specs.Tag.{TagName}
use Rattle.hr_event.specs.declared.cause.Cause.TheVariants as cause
use Rattle.hr_event.specs.declared.entry.Entry.{Entry}
use Rattle.hr_graph.specs.Sound.{IsSound}
use Rattle.hr_graph.specs.declared.need.Need.TheVariants as need
use Rattle.hr_adapter.specs.Reg.{IsSound as IsSoundReg, Reg}
use Rattle.hr_line.specs.Line.{LineEnd}
use Rattle.hr_line.specs.State.{Link, link_at, with_link}
use Rattle.hr_line.specs.Step.{Line, StoreLine}
use Rattle.hr_line.specs.declared.held.Admitted.{Admitted}
use Rattle.hr_line.specs.declared.held.Work.{Work}

-- the walk of a work goes on
pub record IsLive (w : Work) : Type 0 where
  pub sound : IsSound w.walk
  pub undone : w.walk.need ≢ need.Done

-- there was no room for a line: nothing was done
pub record HasNoRoom (f g p q : Reg) (log after : List Entry) (end : LineEnd) : Type 0 where
  pub source : g ≡ f
  pub dest : q ≡ p
  pub writes : after ≡ log
  pub is : end ≡ Err cause.Memory

-- a line for a tag was done, or there was no room for it
abbrev pub Tries : Admitted → TagName → Option Work → Reg → Reg → Reg → Reg → List Entry
    → List Entry → LineEnd → Type 0
Tries a tag work f g p q log after end =
    Line a tag work f g p q log after end ⊎ HasNoRoom f g p q log after end

-- a manifest that is ready was put, or there was no room for it
abbrev pub Stores : Admitted → TagName → Work → Digest → Reg → Reg → List Entry → List Entry
    → LineEnd → Type 0
Stores a tag w d p q log after end = StoreLine (digest_eq d w.walk.root) a tag w d p q log after end
    ⊎ HasNoRoom p p p q log after end

-- a line was tried between the two connections of a revision, and every other one stays
pub record DoesBetween (a : Admitted) (tag : TagName) (work : Option Work) (sources from dests to : List Link)
    (log after : List Entry) (end : LineEnd) : Type 0 where
  pub f : Reg
  pub g : Reg
  pub p : Reg
  pub q : Reg
  pub source : link_at sources a.spec.src ≡ Some f
  pub dest : link_at dests a.spec.dst ≡ Some p
  pub moved_source : from ≡ with_link sources a.spec.src g
  pub moved_dest : to ≡ with_link dests a.spec.dst q
  pub tries : Tries a tag work f g p q log after end
  pub sound_source : IsSoundReg g
  pub sound_dest : IsSoundReg q
