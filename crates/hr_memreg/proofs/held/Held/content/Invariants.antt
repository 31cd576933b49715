use Rattle.std.proofs.Common.{◌≡◌, ◌++◌, map}
use Rattle.hr_memreg.specs.Listed.{repo_line}
use Rattle.hr_memreg.proofs.held.Held.content.Given as goal

abbrev pub invariant-loop-name : goal.invariant-loop-name
invariant-loop-name l = l.repos ++ map repo_line l.name-iterator ≡ map repo_line l.self
