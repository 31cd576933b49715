use Rattle.std.proofs.Common.{take}
use Rattle.hr_frame.specs.Named.{values_named}
use Rattle.hr_route.specs.Found.{IsFound}
use Rattle.hr_wire.proofs.lines.find_line.Given as goal

-- the lines so far were looked at
abbrev pub invariant-loop-head : goal.invariant-loop-head
invariant-loop-head l = IsFound (values_named l.name (take l.head-index l.heads)) l.found
