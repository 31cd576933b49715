use Rattle.std.proofs.Common.{◌≡◌, drop}
use Rattle.hr_opening.specs.Stored.{children_of}
use Rattle.hr_opening.proofs.StoreLemmas.{behind}
use Rattle.hr_opening.proofs.storing.find_children.Given as goal

abbrev pub invariant-loop-tag : goal.invariant-loop-tag
invariant-loop-tag l =
    children_of l.content l.repo l.tag-items ≡ behind l.children (children_of l.content l.repo (drop l.tag-index l.tag-items))
