use Rattle.std.proofs.Common.{◌≡◌, ◌++◌, ◌+◌, ℕ, List, map, take, length, ◌<◌, ◌^◌}
use Rattle.std.specs.List.{All, join_with_byte}
use Rattle.hr_manifest.specs.Canonical.{descriptor, layer_of}
use Rattle.hr_manifest.proofs.writing.push_layers.Given as goal

-- the descriptors of the first layer and of the others so far were written
abbrev pub invariant-loop-layer : goal.invariant-loop-layer
invariant-loop-layer l =
    (l.text.items
    ≡ l.fn.text.items ++ join_with_byte 44 (map (λ (layer : List ℕ). descriptor (layer_of layer)) (take (l.layer-index + 1) l.layers)))
    × All (λ (layer : List ℕ). length layer < 2 ^ 63) (take (l.layer-index + 1) l.layers)
