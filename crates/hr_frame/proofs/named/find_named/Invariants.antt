use Rattle.std.proofs.Common.{take}
use Rattle.hr_frame.specs.Named.{values_named, IsNamed}
use Rattle.hr_frame.proofs.named.find_named.Given as goal

-- the lines so far were looked at
abbrev pub invariant-loop-head : goal.invariant-loop-head
invariant-loop-head l = IsNamed (values_named l.name (take l.head-index l.heads)) l.found
