use Rattle.std.proofs.Common.{◌≡◌, ◌++◌, ◌+◌, take}
use Rattle.std.specs.List.{All}
use Rattle.hr_manifest.specs.Writable.{IsFit}
use Rattle.hr_manifest.specs.Canonical.{descriptors}
use Rattle.hr_manifest.proofs.writing.push_children.Given as goal

-- the descriptors of the first child and of the others so far were written
abbrev pub invariant-loop-child : goal.invariant-loop-child
invariant-loop-child l =
    (l.text.items ≡ l.fn.text.items ++ descriptors (take (l.child-index + 1) l.children))
    × All IsFit (take (l.child-index + 1) l.children)
