-- No connection of the lanes so far is to the registry.
use Rattle.std.proofs.Common.{◌≡◌, drop}
use Rattle.hr_run.specs.Does.{links_of}
use Rattle.hr_core.specs.Tags.{told_of}
use Rattle.hr_core.proofs.tags.tell_lanes.Given as goal

abbrev pub invariant-loop-at : goal.invariant-loop-at
invariant-loop-at g l = told_of (links_of l.lanes) l.reg ≡ told_of (links_of (drop l.at l.lanes)) l.reg
