-- How long the canonical texts of images and indexes are at most.
use Rattle.std.proofs.Common.{◌≡◌, ◌≤◌, ◌<◌, ◌+◌, ◌*◌, ◌^◌, ℕ, List, [], ◌∷◌, ◌++◌, length, map, codes, decimal, refl, arith, length-append}
use Rattle.std.specs.List.{AllByRecursion}
use Rattle.std.proofs.lemmas.Fmt.{length-decimal-le}
use Rattle.hex.specs.Hex.{encode_lower, encode_with, lower_digits}
use Rattle.hr_base.specs.Bytes.{ByteList}
use Rattle.hr_digest.specs.Digest.{text_of_digest}
use Rattle.hr_digest.specs.Reading.{IsWhole}
use Rattle.hr_digest.specs.declared.digest.Digest.{Digest}
use Rattle.hr_digest.specs.declared.digest.Digest.TheVariants.{Sha256}
use Rattle.hr_manifest.specs.Canonical.{config_of, descriptor, descriptors, image_text, index_text, layer_of}
use Rattle.hr_manifest.specs.declared.child.Child.{Child}

-- a child whose descriptor is short
pub record IsShort (child : Child) : Type 0 where
  pub whole : IsWhole child.digest
  pub size : child.size < 2 ^ 64
  pub media : length child.media ≤ 64

twice_as_long : (t bytes : List ℕ) → length (encode_with t bytes) ≡ 2 * length bytes
unfolding encode_with
twice_as_long t [] = refl
twice_as_long t (b ∷ rest) = let e = twice_as_long t rest in omega (arith, e)

digest_long : (d : Digest) → IsWhole d → length (text_of_digest d) ≡ 71
digest_long (Sha256 hash) whole =
    let e = twice_as_long lower_digits hash in
    let sum = length-append (codes "sha256:") (encode_lower hash) in
    omega (arith, e, sum, whole.0)

long_of_seven : (a b c d e f g : List ℕ)
    → length (a ++ b ++ c ++ d ++ e ++ f ++ g) ≡ length a + length b + length c + length d + length e + length f + length g
long_of_seven a b c d e f g =
    omega (
      arith,
      length-append a b,
      length-append (a ++ b) c,
      length-append (a ++ b ++ c) d,
      length-append (a ++ b ++ c ++ d) e,
      length-append (a ++ b ++ c ++ d ++ e) f,
      length-append (a ++ b ++ c ++ d ++ e ++ f) g,
    )

descriptor_short : (child : Child) → IsShort child → length (descriptor child) ≤ 199
descriptor_short child short =
    omega (
      arith,
      long_of_seven (codes "{\"mediaType\":\"") child.media (codes "\",\"digest\":\"") (text_of_digest child.digest) (codes "\",\"size\":")
          (decimal child.size) (codes "}"),
      digest_long child.digest short.whole,
      length-decimal-le 20 child.size (omega arith) (omega (arith, short.size)) short.size,
      short.media,
    )

descriptors_short : (children : List Child) → AllByRecursion IsShort children → length (descriptors children) ≤ 200 * length children
descriptors_short [] each = omega arith
descriptors_short (child ∷ []) each = let one = descriptor_short child each.0 in omega (arith, one)
descriptors_short (child ∷ next ∷ more) each =
    let one = descriptor_short child each.0 in
    let rest = descriptors_short (next ∷ more) each.1 in
    omega (arith, one, rest, length-append (descriptor child) (44 ∷ descriptors (next ∷ more)))

-- the text of an index of at most 4096 children is short enough for a manifest
pub index_short : (children : List Child) → AllByRecursion IsShort children → length children ≤ 4096 → length (index_text children) ≤ 4194304
index_short children each few =
    let list = descriptors_short children each in
    let first = codes "{\"schemaVersion\":2,\"mediaType\":\"application/vnd.oci.image.index.v1+json\"" in
    let second = codes ",\"manifests\":[" in
    omega (
      arith,
      list,
      few,
      length-append first second,
      length-append (first ++ second) (descriptors children),
      length-append (first ++ second ++ descriptors children) (codes "]}"),
    )

-- the text of an image of fewer than 4096 layers is short enough for a manifest
pub image_short : (config : ByteList) (layers : List ByteList) → IsShort (config_of config) → AllByRecursion IsShort (map layer_of layers)
    → length (map layer_of layers) < 4096 → length (image_text config layers) ≤ 4194304
image_short config layers one each few =
    let list = descriptors_short (map layer_of layers) each in
    let head = descriptor_short (config_of config) one in
    let first = codes "{\"schemaVersion\":2,\"mediaType\":\"application/vnd.oci.image.manifest.v1+json\"" in
    let second = codes ",\"config\":" in
    let third = descriptor (config_of config) in
    let fourth = codes ",\"layers\":[" in
    let fifth = descriptors (map layer_of layers) in
    omega (
      arith,
      list,
      head,
      few,
      length-append first second,
      length-append (first ++ second) third,
      length-append (first ++ second ++ third) fourth,
      length-append (first ++ second ++ third ++ fourth) fifth,
      length-append (first ++ second ++ third ++ fourth ++ fifth) (codes "]}"),
    )
