use Rattle.std.proofs.Common.{◌≡◌, drop, max}
use Rattle.hr_graph.specs.Step.{height_of}
use Rattle.hr_graph.proofs.opened.height.Given as goal

abbrev pub invariant-loop-child : goal.invariant-loop-child
invariant-loop-child l =
    max l.height (height_of l.manifests.entries (drop l.child-index l.children))
    ≡ height_of l.manifests.entries l.children
