-- The strings of canonical texts need no escapes, and are UTF-8.
use Rattle.std.proofs.Common.{◌≡◌, ◌/◌, ◌%◌, ◌<◌, ◌≤◌, ◌^◌, ℕ, zero, suc, Bool, true, false, ◌&&◌, List, [], ◌∷◌, ◌++◌, length, map, codes, decimal, slice_index, refl, ap, ap₂, inl, inr, arith, nat_lt, IsUtf8}
use Rattle.std.specs.Prelude.{◌==◌, not}
use Rattle.std.specs.List.{AllByRecursion}
use Rattle.std.proofs.lemmas.Bool.{and_parts, cases_lt, or_parts, not-true, eqb-false}
use Rattle.std.proofs.lemmas.Fmt.{IsAscii-decimal}
use Rattle.std.proofs.lemmas.List.Elements.{All-head, All-tail}
use Rattle.std.proofs.lemmas.Str.{IsUtf8-append, IsUtf8-from_ascii, IsUtf8-nil}
use Rattle.hr_digest.specs.Hex.{IsBytes, encode_lower, encode_with, lower_digits}
use Rattle.hr_digest.specs.Sha256.{digest_bytes, sha256}
use Rattle.std.proofs.lemmas.Bool.Decides.{nat_tests}
use Rattle.sha2.proofs.Facts256.{length-sha256}
use Rattle.json.specs.Print.{escape, escape_byte}
use Rattle.json.proofs.Printed.Strings.{escape_byte_plain}
use Rattle.json.proofs.Printed.Utf8.{are_ascii, IsUtf8-are_ascii}
use Rattle.hr_digest.specs.declared.digest.Digest.{Digest}
use Rattle.hr_digest.specs.declared.digest.Digest.TheVariants.{Sha256}
use Rattle.hr_digest.specs.Digest.{digest_of, text_of_digest}
use Rattle.hr_digest.specs.Reading.{IsWhole}
use Rattle.hr_manifest.specs.declared.child.Child.{Child}
use Rattle.hr_manifest.specs.Canonical.{config_of, layer_of, descriptor, descriptors, image_text, index_text}
use Rattle.hr_manifest.specs.Writable.{IsWritable}
use Rattle.hr_text.specs.Escaping.{IsUnescaped, is_escaped}
use Rattle.hr_text.proofs.EscapeLaws.{unescaped_text}
use Rattle.hr_manifest.proofs.TextLemmas.{IsPlainChild}

-- ---- plain bytes stand for themselves

above_controls : (x : ℕ) → is_escaped x ≡ false → 32 ≤ x
above_controls x h = grind (arith, nat_tests)

plain_cons : (x : ℕ) (xs : List ℕ) → is_escaped x ≡ false → escape xs ≡ xs → escape (x ∷ xs) ≡ x ∷ xs
plain_cons x xs h rest =
    let tests = or_parts (x == 34) _ (or_parts _ _ h).1 in
    ap₂ (λ (a b : List ℕ). a ++ b) (escape_byte_plain x (eqb-false x 34 tests.0) (eqb-false x 92 tests.1) (above_controls x h)) rest

pub escape_plain : (xs : List ℕ) → IsUnescaped xs → escape xs ≡ xs
escape_plain [] h = refl
escape_plain (x ∷ xs) h = plain_cons x xs (All-head (λ b. is_escaped b ≡ false) x xs h) (escape_plain xs (All-tail (λ b. is_escaped b ≡ false) x xs h))

-- ---- hexadecimal digits

abbrev is_plain_digit : ℕ → Bool
is_plain_digit d = not (is_escaped (slice_index lower_digits d)) && nat_lt (slice_index lower_digits d) 128

abbrev all_plain_digits : ℕ → Bool
all_plain_digits zero = true
all_plain_digits (suc n) = is_plain_digit n && all_plain_digits n

all_plain_digits-at : (n k : ℕ) → all_plain_digits n ≡ true → k < n → is_plain_digit k ≡ true
all_plain_digits-at zero k h lt = absurd (omega arith)
all_plain_digits-at (suc n) k h lt =
    let parts = and_parts (is_plain_digit n) (all_plain_digits n) h in
    elim (cases_lt k n) [
      | inl below ↦ all_plain_digits-at n k parts.1 below
      | inr top ↦
          let e : k ≡ n = omega arith in
          rw e parts.0
    ]

plain_digit : (d : ℕ) → d < 16 → (is_escaped (slice_index lower_digits d) ≡ false) × (nat_lt (slice_index lower_digits d) 128 ≡ true)
plain_digit d small =
    let parts = and_parts _ _ (all_plain_digits-at 16 d refl small) in
    (not-true _ parts.0, parts.1)

abbrev AreBytes : List ℕ → Type 0
AreBytes = AllByRecursion (λ b. b < 256)

AreBytes-from_index : (xs : List ℕ) → IsBytes xs → AreBytes xs
AreBytes-from_index [] h = tt
AreBytes-from_index (x ∷ xs) h = (h 0, AreBytes-from_index xs (λ i. h (suc i)))

escape_hex : (bytes : List ℕ) → AreBytes bytes → escape (encode_lower bytes) ≡ encode_lower bytes
unfolding encode_with
escape_hex [] h = refl
escape_hex (b ∷ bytes) h =
    let high : b / 16 < 16 = omega (arith, h.0) in
    let low : b % 16 < 16 = omega arith in
    plain_cons _ _ (plain_digit (b / 16) high).0 (plain_cons _ _ (plain_digit (b % 16) low).0 (escape_hex bytes h.1))

ascii_hex : (bytes : List ℕ) → AreBytes bytes → are_ascii (encode_lower bytes) ≡ true
unfolding encode_with
ascii_hex [] h = refl
ascii_hex (b ∷ bytes) h =
    let high : b / 16 < 16 = omega (arith, h.0) in
    let low : b % 16 < 16 = omega arith in
    rw ((plain_digit (b / 16) high).1, (plain_digit (b % 16) low).1) (ascii_hex bytes h.1)

-- ---- digests

pub escape_digest : (digest : Digest) → IsWhole digest → escape (text_of_digest digest) ≡ text_of_digest digest
unfolding escape_byte
escape_digest (Sha256 hash) h = ap (λ l. codes "sha256:" ++ l) (escape_hex hash (AreBytes-from_index hash h.1))

pub utf8_digest : (digest : Digest) → IsWhole digest → IsUtf8 (text_of_digest digest)
utf8_digest (Sha256 hash) h = IsUtf8-append (codes "sha256:") (encode_lower hash) (IsUtf8-are_ascii _ refl) (IsUtf8-are_ascii _ (ascii_hex hash (AreBytes-from_index hash h.1)))

-- ---- texts

utf8_decimal : (n : ℕ) → n < 2 ^ 64 → IsUtf8 (decimal n)
utf8_decimal n h = IsUtf8-from_ascii (decimal n) (IsAscii-decimal n h)

utf8_descriptor : (child : Child) → IsWritable child → IsUtf8 (descriptor child)
utf8_descriptor child h =
    IsUtf8-append _ _ (IsUtf8-append _ _ (IsUtf8-append _ _ (IsUtf8-append _ _ (IsUtf8-append _ _ (IsUtf8-append _ _ (IsUtf8-are_ascii (codes "{\"mediaType\":\"") refl) h.text)
    (IsUtf8-are_ascii (codes "\",\"digest\":\"") refl)) (utf8_digest child.digest h.fit.whole)) (IsUtf8-are_ascii (codes "\",\"size\":") refl)) (utf8_decimal child.size h.fit.small)) (IsUtf8-are_ascii (codes "}") refl)

utf8_descriptors : (children : List Child) → AllByRecursion IsWritable children → IsUtf8 (descriptors children)
utf8_descriptors [] h = IsUtf8-nil
utf8_descriptors (child ∷ []) h = utf8_descriptor child h.0
utf8_descriptors (child ∷ next ∷ children) h =
    IsUtf8-append (descriptor child) (44 ∷ descriptors (next ∷ children)) (utf8_descriptor child h.0)
    (IsUtf8-append (44 ∷ []) (descriptors (next ∷ children)) (IsUtf8-are_ascii (44 ∷ []) refl) (utf8_descriptors (next ∷ children) h.1))

pub IsPlainChild-writable : (child : Child) → IsWritable child → IsPlainChild child
IsPlainChild-writable child h = record { media = escape_plain child.media h.plain; digest = escape_digest child.digest h.fit.whole }

pub index_utf8 : (children : List Child) → AllByRecursion IsWritable children → IsUtf8 (index_text children)
index_utf8 children h =
    IsUtf8-append _ _ (IsUtf8-append _ _ (IsUtf8-append _ _ (IsUtf8-are_ascii (codes "{\"schemaVersion\":2,\"mediaType\":\"application/vnd.oci.image.index.v1+json\"") refl)
    (IsUtf8-are_ascii (codes ",\"manifests\":[") refl)) (utf8_descriptors children h)) (IsUtf8-are_ascii (codes "]}") refl)

pub image_utf8 : (config : List ℕ) (layers : List (List ℕ)) → IsWritable (config_of config) → AllByRecursion IsWritable (map layer_of layers) → IsUtf8 (image_text config layers)
image_utf8 config layers h hs =
    IsUtf8-append _ _ (IsUtf8-append _ _ (IsUtf8-append _ _ (IsUtf8-append _ _ (IsUtf8-append _ _ (IsUtf8-are_ascii (codes "{\"schemaVersion\":2,\"mediaType\":\"application/vnd.oci.image.manifest.v1+json\"") refl)
    (IsUtf8-are_ascii (codes ",\"config\":") refl)) (utf8_descriptor (config_of config) h)) (IsUtf8-are_ascii (codes ",\"layers\":[") refl)) (utf8_descriptors (map layer_of layers) hs)) (IsUtf8-are_ascii (codes "]}") refl)

-- ---- the digest of content

AreBytes-append : (xs ys : List ℕ) → AreBytes xs → AreBytes ys → AreBytes (xs ++ ys)
AreBytes-append [] ys h k = k
AreBytes-append (x ∷ xs) ys h k = (h.0, AreBytes-append xs ys h.1 k)

digest_bytes_small : (h : List ℕ) (n : ℕ) → AreBytes (digest_bytes h n)
unfolding digest_bytes
digest_bytes_small h zero = tt
digest_bytes_small h (suc n) =
    AreBytes-append (digest_bytes h n) _ (digest_bytes_small h n) (omega arith, (omega arith, (omega arith, (omega arith, tt))))

IsBytes-from_each : (xs : List ℕ) → AreBytes xs → IsBytes xs
IsBytes-from_each [] h i = omega arith
IsBytes-from_each (x ∷ xs) h zero = h.0
IsBytes-from_each (x ∷ xs) h (suc i) = IsBytes-from_each xs h.1 i

pub whole_digest : (content : List ℕ) → IsWhole (digest_of content)
unfolding sha256
whole_digest content = (length-sha256 content, IsBytes-from_each _ (digest_bytes_small _ 8))

pub writable_config : (content : List ℕ) → length content < 2 ^ 64 → IsWritable (config_of content)
writable_config content h = record {
  fit = record { whole = whole_digest content; small = h };
  text = IsUtf8-are_ascii _ refl;
  plain = unescaped_text (config_of content).media refl;
}

writable_layer : (content : List ℕ) → length content < 2 ^ 64 → IsWritable (layer_of content)
writable_layer content h = record {
  fit = record { whole = whole_digest content; small = h };
  text = IsUtf8-are_ascii _ refl;
  plain = unescaped_text (layer_of content).media refl;
}

pub writable_layers : (layers : List (List ℕ)) → AllByRecursion (λ layer. length layer < 2 ^ 64) layers → AllByRecursion IsWritable (map layer_of layers)
writable_layers [] h = tt
writable_layers (layer ∷ layers) h = (writable_layer layer h.0, writable_layers layers h.1)
