use Rattle.std.proofs.Common.{◌≡◌, take}
use Rattle.hr_adapter.specs.Plan.{moved_at}
use Rattle.hr_memreg.proofs.standing.make_changes.Given as goal

abbrev pub invariant-loop-change : goal.invariant-loop-change
invariant-loop-change l = l.held ≡ moved_at l.number (take l.change-index l.moves) l.initial.held
