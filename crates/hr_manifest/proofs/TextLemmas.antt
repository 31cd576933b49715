-- The canonical texts are what is written for their JSON values, with the members in the order of
-- the text.
use Rattle.std.proofs.Common.{true, false, ◌≡◌, ℕ, List, [], ◌∷◌, ◌++◌, map, codes, decimal, refl, sym, ap, ap₂, ◌∙◌, append_assoc}
use Rattle.std.specs.List.{AllByRecursion}
use Rattle.std.specs.Fmt.{digits}
use Rattle.json.specs.Print.{escape, escape_byte}
use Rattle.serde_json.specs.Data.{Data, number, string, array, object, Items, no_items, item, no_members, member, unsigned}
use Rattle.serde_json.specs.Written.{compact_text, items_text}
use Rattle.hr_digest.specs.Digest.{text_of_digest}
use Rattle.hr_manifest.specs.declared.child.Child.{Child}
use Rattle.hr_manifest.specs.Canonical.{config_of, layer_of, descriptor, descriptors, image_text, index_text}

-- ---- the values in the order of the text

abbrev pub descriptor_in_order : Child → Data
descriptor_in_order child =
    object (member (codes "mediaType") (string child.media)
    (member (codes "digest") (string (text_of_digest child.digest))
    (member (codes "size") (number (unsigned child.size)) no_members)))

abbrev pub descriptors_in_order : List Child → Items
descriptors_in_order [] = no_items
descriptors_in_order (child ∷ children) = item (descriptor_in_order child) (descriptors_in_order children)

abbrev pub image_in_order : Child → List Child → Data
image_in_order config layers =
    object (member (codes "schemaVersion") (number (unsigned 2))
    (member (codes "mediaType") (string (codes "application/vnd.oci.image.manifest.v1+json"))
    (member (codes "config") (descriptor_in_order config)
    (member (codes "layers") (array (descriptors_in_order layers)) no_members))))

abbrev pub index_in_order : List Child → Data
index_in_order children =
    object (member (codes "schemaVersion") (number (unsigned 2))
    (member (codes "mediaType") (string (codes "application/vnd.oci.image.index.v1+json"))
    (member (codes "manifests") (array (descriptors_in_order children)) no_members)))

-- ---- their texts

-- the strings of a child are written as they are
pub record IsPlainChild (child : Child) : Type 0 where
  pub media : escape child.media ≡ child.media
  pub digest : escape (text_of_digest child.digest) ≡ text_of_digest child.digest

seven : (a b c d e f g : List ℕ) → a ++ (b ++ (c ++ (d ++ (e ++ (f ++ g))))) ≡ a ++ b ++ c ++ d ++ e ++ f ++ g
seven a b c d e f g = simp append_assoc refl

pieces : (media digest size : List ℕ) → codes "{\"mediaType\":\"" ++ ((media ++ 34 ∷ []) ++ (codes ",\"digest\":\"" ++ ((digest ++ 34 ∷ []) ++ (codes ",\"size\":" ++ (size ++ codes "}")))))
    ≡ codes "{\"mediaType\":\"" ++ media ++ codes "\",\"digest\":\"" ++ digest ++ codes "\",\"size\":" ++ size ++ codes "}"
pieces media digest size =
    rw (append_assoc media (34 ∷ []), append_assoc digest (34 ∷ []))
    (seven (codes "{\"mediaType\":\"") media (codes "\",\"digest\":\"") digest (codes "\",\"size\":") size (codes "}"))

descriptor_text : (child : Child) → IsPlainChild child → compact_text (descriptor_in_order child) ≡ descriptor child
unfolding escape_byte
descriptor_text child h =
    ap₂ (λ m d. codes "{\"mediaType\":\"" ++ ((m ++ 34 ∷ []) ++ (codes ",\"digest\":\"" ++ ((d ++ 34 ∷ []) ++ (codes ",\"size\":" ++ (decimal child.size ++ codes "}")))))) h.media h.digest
    ∙ pieces child.media (text_of_digest child.digest) (decimal child.size)

further_texts : (child : Child) (children : List Child) → AllByRecursion IsPlainChild (child ∷ children)
    → compact_text (descriptor_in_order child) ++ items_text true (descriptors_in_order children) ≡ descriptors (child ∷ children) ++ 93 ∷ []
further_texts child [] h = ap (λ l. l ++ 93 ∷ []) (descriptor_text child h.0)
further_texts child (next ∷ children) h =
    ap₂ (λ l m. l ++ 44 ∷ m) (descriptor_text child h.0) (further_texts next children h.1)
    ∙ sym (append_assoc (descriptor child) (44 ∷ descriptors (next ∷ children)) (93 ∷ []))

texts : (children : List Child) → AllByRecursion IsPlainChild children → items_text false (descriptors_in_order children) ≡ descriptors children ++ 93 ∷ []
texts [] h = refl
texts (child ∷ children) h = further_texts child children h

image_form : (config : Child) (layers : List Child) → compact_text (image_in_order config layers)
    ≡ codes "{\"schemaVersion\":2,\"mediaType\":\"application/vnd.oci.image.manifest.v1+json\",\"config\":"
    ++ (compact_text (descriptor_in_order config) ++ (codes ",\"layers\":[" ++ (items_text false (descriptors_in_order layers) ++ codes "}")))
unfolding escape_byte digits
image_form config layers = refl

five : (a b c d e f : List ℕ) → a ++ (b ++ (c ++ ((d ++ e) ++ f))) ≡ a ++ b ++ c ++ d ++ (e ++ f)
five a b c d e f = simp append_assoc refl

-- the text of an image's value, in that order
pub image_compact : (config : List ℕ) (layers : List (List ℕ)) → IsPlainChild (config_of config) → AllByRecursion IsPlainChild (map layer_of layers)
    → compact_text (image_in_order (config_of config) (map layer_of layers)) ≡ image_text config layers
image_compact config layers h hs =
    let child = config_of config in
    let children = map layer_of layers in
    let head = codes "{\"schemaVersion\":2,\"mediaType\":\"application/vnd.oci.image.manifest.v1+json\",\"config\":" in
    image_form child children
    ∙ ap₂ (λ x y. head ++ (x ++ (codes ",\"layers\":[" ++ (y ++ codes "}")))) (descriptor_text child h) (texts children hs)
    ∙ five head (descriptor child) (codes ",\"layers\":[") (descriptors children) (93 ∷ []) (codes "}")

index_form : (children : List Child) → compact_text (index_in_order children)
    ≡ codes "{\"schemaVersion\":2,\"mediaType\":\"application/vnd.oci.image.index.v1+json\",\"manifests\":["
    ++ (items_text false (descriptors_in_order children) ++ codes "}")
unfolding escape_byte digits
index_form children = refl

three : (a d e f : List ℕ) → a ++ ((d ++ e) ++ f) ≡ a ++ d ++ (e ++ f)
three a d e f = simp append_assoc refl

-- the text of an index's value, in that order
pub index_compact : (children : List Child) → AllByRecursion IsPlainChild children → compact_text (index_in_order children) ≡ index_text children
index_compact children hs =
    let head = codes "{\"schemaVersion\":2,\"mediaType\":\"application/vnd.oci.image.index.v1+json\",\"manifests\":[" in
    index_form children
    ∙ ap (λ y. head ++ (y ++ codes "}")) (texts children hs)
    ∙ three head (descriptors children) (93 ∷ []) (codes "}")
