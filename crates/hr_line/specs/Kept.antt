-- What stands behind a revision that is held: entries of it, for all that its walk has open or
-- finished. (Our own.)
use Rattle.std.specs.Prelude.{⊤, List, Some, None, Ok, Err}
use Rattle.hr_event.specs.declared.entry.Entry.{Entry}
use Rattle.hr_graph.specs.Reached.{AreFromReadings}
use Rattle.hr_graph.specs.Sound.{IsSound}
use Rattle.hr_adapter.specs.Reg.{Reg}
use Rattle.hr_line.specs.Evidence.{IsRootOf, IsShown, MeasuredFor, ReadFor}
use Rattle.hr_line.specs.Line.{LineEnd}
use Rattle.hr_line.specs.declared.held.Admitted.{Admitted}
use Rattle.hr_line.specs.declared.held.Work.{Work}

-- the work on a tag: the revision read its manifest, and read or found all that the walk has
pub record WorkSeen (a : Admitted) (log : List Entry) (w : Work) : Type 0 where
  pub sound : IsSound w.walk
  pub root : IsRootOf a log w.walk.root
  pub read : AreFromReadings (ReadFor a log) (MeasuredFor a log) w.walk

-- a line's end has its evidence: the work that goes on, or the cause that ends the revision
abbrev pub EndSeen : Admitted → List Entry → Reg → Reg → LineEnd → Type 0
EndSeen a log source dest (Ok None) = ⊤
EndSeen a log source dest (Ok (Some w)) = WorkSeen a log w
EndSeen a log source dest (Err why) = IsShown a log source dest why
