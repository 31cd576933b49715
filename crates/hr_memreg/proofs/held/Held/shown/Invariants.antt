use Rattle.std.proofs.Common.{◌≡◌, ◌++◌}
use Rattle.hr_adapter.specs.Listing.{tags_shown}
use Rattle.hr_memreg.proofs.held.Held.shown.Given as goal

abbrev pub invariant-loop-name : goal.invariant-loop-name
invariant-loop-name l = l.shown ++ tags_shown l.name-iterator ≡ tags_shown l.self
