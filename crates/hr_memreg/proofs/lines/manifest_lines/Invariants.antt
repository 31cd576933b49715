use Rattle.std.proofs.Common.{◌≡◌, ◌++◌, map}
use Rattle.hr_memreg.specs.Listed.{manifest_line}
use Rattle.hr_memreg.proofs.lines.manifest_lines.Given as goal

abbrev pub invariant-loop-digest : goal.invariant-loop-digest
invariant-loop-digest l = l.lines ++ map manifest_line l.digest-iterator ≡ map manifest_line l.manifests.entries
