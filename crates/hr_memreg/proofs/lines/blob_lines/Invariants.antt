use Rattle.std.proofs.Common.{◌≡◌, ◌++◌, map}
use Rattle.hr_memreg.specs.Listed.{blob_line}
use Rattle.hr_memreg.proofs.lines.blob_lines.Given as goal

abbrev pub invariant-loop-digest : goal.invariant-loop-digest
invariant-loop-digest l = l.lines ++ map blob_line l.digest-iterator ≡ map blob_line l.blobs.entries
