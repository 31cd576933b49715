-- The row, raised by the marks so far.
use Rattle.std.proofs.Common.{◌≡◌, take}
use Rattle.hr_rest.specs.Raising.{raised}
use Rattle.hr_rest.proofs.raising.raise.Given as goal

abbrev pub invariant-loop-mark : goal.invariant-loop-mark
invariant-loop-mark l = record { rev : l.rev ≡ l.mark-index; known : l.known ≡ raised l.fn.row (take l.mark-index l.marks) }
