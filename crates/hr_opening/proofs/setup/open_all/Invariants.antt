use Rattle.std.proofs.Common.{◌≡◌, ◌++◌}
use Rattle.std.specs.Vec.Iter.{into_iter_items}
use Rattle.hr_opening.specs.Setup.{registries_of}
use Rattle.hr_opening.proofs.setup.open_all.Given as goal

abbrev pub invariant-loop-setup : goal.invariant-loop-setup
invariant-loop-setup l =
    l.regs ++ registries_of (into_iter_items l.setup-iterator) ≡ registries_of l.fn.setups.items
