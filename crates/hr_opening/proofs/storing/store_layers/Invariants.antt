use Rattle.std.proofs.Common.{◌≡◌}
use Rattle.std.specs.Vec.Iter.{into_iter_items}
use Rattle.hr_opening.specs.Stored.{with_blobs}
use Rattle.hr_opening.proofs.storing.store_layers.Given as goal

abbrev pub invariant-loop-layer : goal.invariant-loop-layer
invariant-loop-layer l =
    with_blobs l.content l.repo (into_iter_items l.layer-iterator) ≡ with_blobs l.initial.content l.repo l.fn.layers
