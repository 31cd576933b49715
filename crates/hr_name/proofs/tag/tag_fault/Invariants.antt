use Rattle.std.proofs.Common.{take}
use Rattle.hr_name.proofs.TagLemmas.{StandFrom}
use Rattle.hr_name.proofs.tag.tag_fault.Given as goal

abbrev pub invariant-loop-at : goal.invariant-loop-at
invariant-loop-at l = StandFrom 0 (take l.at l.text)
