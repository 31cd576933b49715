use Rattle.std.proofs.Common.{◌≡◌, ◌++◌}
use Rattle.hr_adapter.specs.Listing.{repos_of}
use Rattle.hr_memreg.proofs.held.Held.copied_names.Given as goal

abbrev pub invariant-loop-name : goal.invariant-loop-name
invariant-loop-name l = l.names ++ l.name-iterator ≡ repos_of l.self
