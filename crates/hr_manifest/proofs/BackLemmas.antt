-- The canonical texts read back.
use Rattle.std.proofs.Common.{◌≡◌, ◌^◌, ◌<◌, ℕ, List, [], ◌∷◌, Some, length, map, sym, ap, ◌∙◌}
use Rattle.std.specs.List.{AllByRecursion}
use Rattle.serde_json.specs.Read.{read}
use Rattle.hr_manifest.specs.declared.child.Child.{Child}
use Rattle.hr_manifest.specs.Canonical.{config_of, layer_of, image_text, index_text}
use Rattle.hr_manifest.specs.Document.{image_value, index_value}
use Rattle.hr_manifest.specs.Writable.{IsWritable}
use Rattle.hr_manifest.proofs.TextLemmas.{IsPlainChild, image_compact, index_compact}
use Rattle.hr_manifest.proofs.ValueLemmas.{FitsChild, image_reads, index_reads}
use Rattle.hr_manifest.proofs.PlainLemmas.{IsPlainChild-writable, writable_config, writable_layers}

each : (P Q : Child → Type 0) → ((child : Child) → P child → Q child) → (children : List Child) → AllByRecursion P children → AllByRecursion Q children
each P Q f [] h = tt
each P Q f (child ∷ children) h = (f child h.0, each P Q f children h.1)

pub index_back : (children : List Child) → AllByRecursion IsWritable children → read (index_text children) ≡ Some (index_value children)
index_back children h =
    ap read (sym (index_compact children (each IsWritable IsPlainChild IsPlainChild-writable children h)))
    ∙ index_reads children (each IsWritable FitsChild (λ child w. w.fit.small) children h)

pub image_back : (config : List ℕ) (layers : List (List ℕ)) → length config < 2 ^ 64 → AllByRecursion (λ layer. length layer < 2 ^ 64) layers
    → read (image_text config layers) ≡ Some (image_value (config_of config) (map layer_of layers))
image_back config layers h hs =
    let child = writable_config config h in
    let children = writable_layers layers hs in
    ap read (sym (image_compact config layers (IsPlainChild-writable (config_of config) child) (each IsWritable IsPlainChild IsPlainChild-writable (map layer_of layers) children)))
    ∙ image_reads (config_of config) (map layer_of layers) h (each IsWritable FitsChild (λ layer w. w.fit.small) (map layer_of layers) children)
