-- The children of the descriptors so far stand behind those that were read before.
use Rattle.std.proofs.Common.{◌≡◌, ◌++◌, Ok, map, take, List}
use Rattle.hr_json.specs.Node.{values_of}
use Rattle.hr_manifest.specs.Descriptor.{child_of}
use Rattle.hr_manifest.specs.Step.{each}
use Rattle.hr_manifest.specs.declared.child.Child.{Child}
use Rattle.hr_manifest.proofs.reading.read_each.Given as goal

abbrev pub invariant-loop-at : goal.invariant-loop-at
invariant-loop-at l =
    (more : List Child) × (l.children ≡ l.fn.before ++ more)
    × (each (map (child_of l.role) (take l.at (values_of l.descriptors))) ≡ Ok more)
