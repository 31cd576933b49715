-- The canonical texts read back as their JSON values.
use Rattle.std.proofs.Common.{◌≡◌, ◌^◌, ◌<◌, ◌≤◌, List, [], ◌∷◌, Option, Some, option_and_then, refl, sym, ap, ◌∙◌, arith, append-nil}
use Rattle.std.specs.List.{AllByRecursion}
use Rattle.json.specs.Lex.{tokens}
use Rattle.json.specs.Token.{Token}
use Rattle.json.specs.Json as json
use Rattle.json.specs.Tree.{json_tokens, depth, items_depth, HasNumbers, ItemsHaveNumbers}
use Rattle.json.proofs.Printed.Tokens.{tokens-print}
use Rattle.json.proofs.Printed.Trees.{value-json_tokens, ArePrintable-json_tokens}
use Rattle.json.proofs.Printed.Decimals.{IsNumber-decimal}
use Rattle.serde_json.specs.Data.{Data}
use Rattle.serde_json.specs.Read.{read, max_depth, of_json, of_items}
use Rattle.serde_json.specs.Written.{compact_text, outline, items_outline}
use Rattle.serde_json.proofs.Numbers.{number_of-decimal}
use Rattle.serde_json.proofs.Texts.{print-outline}
use Rattle.hr_manifest.specs.declared.child.Child.{Child}
use Rattle.hr_manifest.specs.Document.{descriptor_value, descriptor_values, image_value, index_value}
use Rattle.hr_manifest.proofs.TextLemmas.{descriptor_in_order, descriptors_in_order, image_in_order, index_in_order}

-- the data of what a parser of the grammar gives
abbrev whole : Option (json.Json × List Token) → Option Data
whole o = option_and_then of_json (option_and_then (λ p. json.if_last p.0 p.1) o)

-- a value whose outline reads as another, once it is written, is read as that
read_outline : (d e : Data) → HasNumbers (outline d) → depth (outline d) ≤ max_depth → of_json (outline d) ≡ Some e → read (compact_text d) ≡ Some e
read_outline d e numbers shallow same =
    let ts = json_tokens (outline d) in
    let back : tokens (compact_text d) ≡ ts = ap tokens (sym (print-outline d)) ∙ tokens-print ts (ArePrintable-json_tokens (outline d) numbers) in
    ap whole (ap (json.value max_depth) (back ∙ sym (append-nil ts)) ∙ value-json_tokens (outline d) max_depth [] shallow) ∙ same

-- its size fits 64 bits
abbrev pub FitsChild : Child → Type 0
FitsChild child = child.size < 2 ^ 64

descriptor_numbers : (child : Child) → FitsChild child → HasNumbers (outline (descriptor_in_order child))
descriptor_numbers child fits = (tt, (tt, (IsNumber-decimal child.size fits, tt)))

descriptors_numbers : (children : List Child) → AllByRecursion FitsChild children → ItemsHaveNumbers (items_outline (descriptors_in_order children))
descriptors_numbers [] h = tt
descriptors_numbers (child ∷ children) h = (descriptor_numbers child h.0, descriptors_numbers children h.1)

descriptors_depth : (children : List Child) → items_depth (items_outline (descriptors_in_order children)) ≤ 1
descriptors_depth [] = omega arith
descriptors_depth (child ∷ children) = omega (arith, descriptors_depth children)

descriptor_read : (child : Child) → FitsChild child → of_json (outline (descriptor_in_order child)) ≡ Some (descriptor_value child)
descriptor_read child fits = rw (number_of-decimal child.size fits) refl

descriptors_read : (children : List Child) → AllByRecursion FitsChild children → of_items (items_outline (descriptors_in_order children)) ≡ Some (descriptor_values children)
descriptors_read [] h = refl
descriptors_read (child ∷ children) h = rw (descriptor_read child h.0) (rw (descriptors_read children h.1) refl)

two : 2 < 2 ^ 64
two = omega arith

image_read : (config : Child) (layers : List Child) → FitsChild config → AllByRecursion FitsChild layers
    → of_json (outline (image_in_order config layers)) ≡ Some (image_value config layers)
image_read config layers h hs = rw (number_of-decimal 2 two) (rw (descriptor_read config h) (rw (descriptors_read layers hs) refl))

index_read : (children : List Child) → AllByRecursion FitsChild children → of_json (outline (index_in_order children)) ≡ Some (index_value children)
index_read children hs = rw (number_of-decimal 2 two) (rw (descriptors_read children hs) refl)

-- what is written for an image reads as its value
pub image_reads : (config : Child) (layers : List Child) → FitsChild config → AllByRecursion FitsChild layers
    → read (compact_text (image_in_order config layers)) ≡ Some (image_value config layers)
image_reads config layers h hs =
    read_outline (image_in_order config layers) (image_value config layers)
    (IsNumber-decimal 2 two, (tt, (descriptor_numbers config h, (descriptors_numbers layers hs, tt))))
    (omega (arith, descriptors_depth layers))
    (image_read config layers h hs)

-- what is written for an index reads as its value
pub index_reads : (children : List Child) → AllByRecursion FitsChild children
    → read (compact_text (index_in_order children)) ≡ Some (index_value children)
index_reads children hs =
    read_outline (index_in_order children) (index_value children)
    (IsNumber-decimal 2 two, (tt, (descriptors_numbers children hs, tt)))
    (omega (arith, descriptors_depth children))
    (index_read children hs)
