use Rattle.std.proofs.Common.{take}
use Rattle.hr_name.specs.Place.{Alike, front_of}
use Rattle.hr_name.proofs.place.name_fault.Given as goal

abbrev pub invariant-loop-at : goal.invariant-loop-at
invariant-loop-at l = Alike (take l.at l.text) (front_of l.place)
