-- The JSON values of canonical texts list the children that were written.
use Rattle.std.proofs.Common.{◌≡◌, ℕ, ◌+◌, ◌^◌, ◌<◌, ◌≤◌, suc, true, List, [], ◌∷◌, length, map, Some, Ok, refl, sym, ap, arith, lt-ltb, le-leb}
use Rattle.std.specs.List.{All, AllByRecursion}
use Rattle.std.proofs.lemmas.List.Elements.{All-head, All-tail, recursion_from_All}
use Rattle.std.specs.Str.{IsUtf8, bytes_eq}
use Rattle.std.proofs.lemmas.Str.{is_utf8-from_IsUtf8}
use Rattle.std.proofs.lemmas.Slice.Eq.{bytes_eq-Decides}
use Rattle.hex.proofs.HexLemmas.{decode_of-encode_lower}
use Rattle.serde_json.specs.Data.{Data}
use Rattle.serde_json.specs.Read.{read}
use Rattle.hr_json.specs.Doc.{document_of}
use Rattle.hr_json.specs.Node.{list_of}
use Rattle.hr_digest.specs.declared.digest.Digest.{Digest}
use Rattle.hr_digest.specs.declared.digest.Digest.TheVariants.{Sha256}
use Rattle.hr_digest.specs.Digest.{text_of_digest}
use Rattle.hr_digest.specs.Reading.{IsWhole}
use Rattle.hr_manifest.specs.declared.child.Child.{Child}
use Rattle.hr_manifest.specs.declared.descriptor.Role.{Role}
use Rattle.hr_manifest.specs.declared.descriptor.Role.TheVariants.{Config, Layer}
use Rattle.hr_manifest.specs.declared.descriptor.Role.TheVariants as role
use Rattle.hr_manifest.specs.declared.form.Form.TheVariants.{Image, Index}
use Rattle.hr_manifest.specs.Canonical.{config_of, layer_of, image_children, image_media, image_text, index_media, index_text}
use Rattle.hr_manifest.specs.Descriptor.{child_of, digest_in, kind_of}
use Rattle.hr_manifest.specs.Document.{descriptor_value, descriptor_values, image_value, index_value}
use Rattle.hr_manifest.specs.Reading.{Reads, listed}
use Rattle.hr_manifest.specs.Step.{each}
use Rattle.hr_manifest.specs.Writable.{IsFit, IsListed, IsWritable}
use Rattle.hr_text.specs.Escaping.{IsUnescaped}
use Rattle.hr_manifest.proofs.BackLemmas.{image_back, index_back}
use Rattle.hr_manifest.proofs.PlainLemmas.{image_utf8, index_utf8, whole_digest, writable_config, writable_layers}

same_bytes : (xs : List ℕ) → bytes_eq xs xs ≡ true
same_bytes xs = (bytes_eq-Decides xs xs).1 refl

digest_back : (digest : Digest) → IsWhole digest → digest_in (text_of_digest digest) ≡ Some digest
digest_back (Sha256 hash) h = rw (decode_of-encode_lower hash h.1) (rw (h.0, same_bytes (text_of_digest (Sha256 hash))) refl)

-- a descriptor says what it was written for
child_back : (place : Role) (child : Child) → IsWhole child.digest → child.size < 2 ^ 63 → kind_of place child.media ≡ child.kind
    → child_of place (descriptor_value child) ≡ Ok child
child_back place child whole small kind =
    rw (digest_back child.digest whole, lt-ltb child.size (2 ^ 63) small) (ap (λ k. Ok (record { kind = k; digest = child.digest; size = child.size; media = child.media })) kind)

-- each of some children has its kind by this role, a whole digest and a size below 2^63
pub record IsAt (place : Role) (child : Child) : Type 0 where
  pub whole : IsWhole child.digest
  pub small : child.size < 2 ^ 63
  pub kind : kind_of place child.media ≡ child.kind

length_values : (children : List Child) → length (list_of (descriptor_values children)) ≡ length children
length_values [] = refl
length_values (child ∷ children) = ap suc (length_values children)

children_back : (place : Role) (children : List Child) → AllByRecursion (IsAt place) children
    → each (map (child_of place) (list_of (descriptor_values children))) ≡ Ok children
children_back place [] h = refl
children_back place (child ∷ children) h =
    rw (child_back place child h.0.whole h.0.small h.0.kind) (rw (children_back place children h.1) refl)

image_listed : (config : Child) (layers : List Child) → IsAt role.Config config → AllByRecursion (IsAt role.Layer) layers → length layers < 4096
    → listed Image (image_value config layers) ≡ Ok (config ∷ layers)
image_listed config layers h hs few =
    rw (length_values layers, le-leb (length layers + 1) 4096 (omega (arith, few)))
    (rw (child_back role.Config config h.whole h.small h.kind) (rw (children_back role.Layer layers hs) refl))

index_listed : (children : List Child) → AllByRecursion (IsAt role.Manifest) children → length children ≤ 4096
    → listed Index (index_value children) ≡ Ok children
index_listed children hs few =
    rw (length_values children, le-leb (length children) 4096 few) (children_back role.Manifest children hs)

value_of_text : (text : List ℕ) (value : Data) → IsUtf8 text → read text ≡ Some value → document_of text ≡ Some value
value_of_text text value utf8 e = rw (is_utf8-from_IsUtf8 text utf8) e

pub image_reading : (text : List ℕ) (config : Child) (layers : List Child) → IsUtf8 text → read text ≡ Some (image_value config layers) → length text ≤ 4194304
    → IsAt role.Config config → AllByRecursion (IsAt role.Layer) layers → length layers < 4096
    → Reads image_media text (config ∷ layers)
image_reading text config layers utf8 value short h hs few =
    rw (le-leb (length text) 4194304 short, value_of_text text _ utf8 value) (image_listed config layers h hs few)

pub index_reading : (text : List ℕ) (children : List Child) → IsUtf8 text → read text ≡ Some (index_value children) → length text ≤ 4194304
    → AllByRecursion (IsAt role.Manifest) children → length children ≤ 4096
    → Reads index_media text children
index_reading text children utf8 value short hs few =
    rw (le-leb (length text) 4194304 short, value_of_text text _ utf8 value) (index_listed children hs few)

-- ---- the children that are written

listed_at : (children : List Child) → AllByRecursion IsWritable children → AllByRecursion IsListed children → AllByRecursion (IsAt role.Manifest) children
listed_at [] w l = tt
listed_at (child ∷ children) w l = (record { whole = w.0.fit.whole; small = l.0.size; kind = sym l.0.kind }, listed_at children w.1 l.1)

config_at : (content : List ℕ) → length content < 2 ^ 63 → IsAt role.Config (config_of content)
config_at content h = record { whole = whole_digest content; small = h; kind = refl }

layers_at : (layers : List (List ℕ)) → AllByRecursion (λ layer. length layer < 2 ^ 63) layers → AllByRecursion (IsAt role.Layer) (map layer_of layers)
layers_at [] h = tt
layers_at (layer ∷ layers) h = (record { whole = whole_digest layer; small = h.0; kind = refl }, layers_at layers h.1)

count : (layers : List (List ℕ)) → length (map layer_of layers) ≡ length layers
count [] = refl
count (layer ∷ layers) = ap suc (count layers)

below : (layers : List (List ℕ)) → AllByRecursion (λ layer. length layer < 2 ^ 63) layers → AllByRecursion (λ layer. length layer < 2 ^ 64) layers
below [] h = tt
below (layer ∷ layers) h = (omega (arith, h.0), below layers h.1)

pub index_children_back : (children : List Child) → AllByRecursion IsWritable children → AllByRecursion IsListed children → length children ≤ 4096 → length (index_text children) ≤ 4194304
    → Reads index_media (index_text children) children
index_children_back children w l few short =
    index_reading (index_text children) children (index_utf8 children w) (index_back children w) short (listed_at children w l) few

pub image_children_back : (config : List ℕ) (layers : List (List ℕ)) → length config < 2 ^ 63 → AllByRecursion (λ layer. length layer < 2 ^ 63) layers → length layers < 4096
    → length (image_text config layers) ≤ 4194304 → Reads image_media (image_text config layers) (image_children config layers)
image_children_back config layers h hs few short =
    let small : length config < 2 ^ 64 = omega (arith, h) in
    let each_small = below layers hs in
    image_reading (image_text config layers) (config_of config) (map layer_of layers) (image_utf8 config layers (writable_config config small) (writable_layers layers each_small))
    (image_back config layers small each_small) short (config_at config h) (layers_at layers hs) (omega (arith, few, count layers))

-- children that are fit and can be listed, under media types without escapes, can be written
pub writable_each : (children : List Child) → All IsFit children → All IsListed children → All (λ child. IsUnescaped child.media) children
    → AllByRecursion IsWritable children
writable_each [] f l p = tt
writable_each (child ∷ children) f l p =
    let listed = All-head IsListed child children l in (
      record { fit = All-head IsFit child children f; text = listed.text; plain = All-head (λ c. IsUnescaped c.media) child children p },
      writable_each children (All-tail IsFit child children f) (All-tail IsListed child children l) (All-tail (λ c. IsUnescaped c.media) child children p),
    )

pub listed_each : (children : List Child) → All IsListed children → AllByRecursion IsListed children
listed_each children l = recursion_from_All IsListed children l
