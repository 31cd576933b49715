-- A manifest is refused as too long only by the number of its bytes.
use Rattle.std.proofs.Common.{◌≡◌, ◌<◌, ◌+◌, Bool, true, false, refl, ℕ, List, [], ◌∷◌, length, map, arith}
use Rattle.std.proofs.lemmas.Bool.{leb-false}
use Rattle.std.specs.Prelude.{Option, Some, None, Result, Ok, Err, nat_le, not, codes, ⊤, option_and_then}
use Rattle.std.specs.Option.{ok_or}
use Rattle.serde_json.specs.Data.{Data}
use Rattle.hr_base.specs.Bytes.{ByteList, Media, Text}
use Rattle.hr_base.specs.declared.limit.TheConstants.{MANIFEST_LIMIT}
use Rattle.hr_digest.specs.declared.digest.Digest.{Digest}
use Rattle.hr_json.specs.Doc.{document_of}
use Rattle.hr_manifest.specs.Descriptor.{child_of, digest_in, has, items_at, kind_of, number_at, object_at, object_in, size_in, text_at}
use Rattle.hr_manifest.specs.Reading.{Refuses, form_of, listed, says_media, says_two, within}
use Rattle.hr_manifest.specs.Step.{◌>>=◌, ◌>>◌, check, each, field}
use Rattle.hr_manifest.specs.declared.child.Child.{Child}
use Rattle.hr_manifest.specs.declared.descriptor.Role.{Role}
use Rattle.hr_manifest.specs.declared.descriptor.Role.TheVariants as role
use Rattle.hr_manifest.specs.declared.form.Form.{Form}
use Rattle.hr_manifest.specs.declared.form.Form.TheVariants.{Image, Index}
use Rattle.hr_manifest.specs.declared.refusal.ManifestKey.{ManifestKey}
use Rattle.hr_manifest.specs.declared.refusal.ManifestKey.TheVariants as key
use Rattle.hr_manifest.specs.declared.refusal.Unreadable.{Unreadable}
use Rattle.hr_manifest.specs.declared.refusal.Unreadable.TheVariants as form

-- a test does not fail by a number of bytes
abbrev NotLong : {A : Type 0} → Result A Unreadable → Type 0
NotLong {A} r = (len : ℕ) → r ≡ Err (form.TooLong len) → ⊥

ok_short : {A : Type 0} (x : A) → NotLong (Ok x)
ok_short x len is = cc

bind_short : {A B : Type 0} (found : Result A Unreadable) (next : A → Result B Unreadable) → NotLong found
    → ((x : A) → NotLong (next x)) → NotLong (found >>= next)
bind_short (Ok x) next first rest len is = rest x len is
bind_short (Err why) next first rest len is = first len cc

then_short : {A B : Type 0} (found : Result A Unreadable) (next : Result B Unreadable) → NotLong found → NotLong next
    → NotLong (found >> next)
then_short (Ok x) next first rest len is = rest len is
then_short (Err why) next first rest len is = first len cc

abbrev IsOther : Unreadable → Type 0
IsOther (form.TooLong len) = ⊥
IsOther _ = ⊤

other_short : {A : Type 0} (why : Unreadable) → IsOther why → NotLong {A = A} (Err why)
other_short (form.TooLong n) other len is = other
other_short form.Media other len is = cc
other_short form.NotJson other len is = cc
other_short (form.Field name) other len is = cc
other_short (form.TooMany count) other len is = cc
other_short form.Memory other len is = cc

check_short : (b : Bool) (why : Unreadable) → IsOther why → NotLong (check b why)
check_short true why other = ok_short tt
check_short false why other = other_short why other

found_short : {A : Type 0} (o : Option A) (why : Unreadable) → IsOther why → NotLong (ok_or o why)
found_short (Some x) why other = ok_short x
found_short None why other = other_short why other

within_short : (count : ℕ) → NotLong (within count)
within_short count = check_short _ (form.TooMany count) tt

field_short : {A : Type 0} (name : ManifestKey) (o : Option A) → NotLong (field name o)
field_short name o = found_short o (form.Field name) tt

each_short : {A : Type 0} (f : A → Result Child Unreadable) → ((x : A) → NotLong (f x)) → (xs : List A)
    → NotLong (each (map f xs))
each_short f one [] = ok_short []
each_short f one (x ∷ xs) =
    bind_short (f x) (λ c. each (map f xs) >>= λ cs. Ok (c ∷ cs)) (one x)
    (λ c. bind_short (each (map f xs)) (λ cs. Ok (c ∷ cs)) (each_short f one xs) (λ cs. ok_short (c ∷ cs)))

child_short : (place : Role) (value : Data) → NotLong (child_of place value)
child_short place value =
    bind_short (field key.ChildMedia media_of) _ (field_short key.ChildMedia media_of)
    (λ media. bind_short (field key.ChildDigest digest_is) _ (field_short key.ChildDigest digest_is)
    (λ digest. bind_short (field key.ChildSize size_is) _ (field_short key.ChildSize size_is)
    (λ size. ok_short (record { kind = kind_of place media; digest = digest; size = size; media = media }))))
  where
    media_of : Option Text
    media_of = text_at (codes "mediaType") value

    digest_is : Option Digest
    digest_is = option_and_then digest_in (text_at (codes "digest") value)

    size_is : Option ℕ
    size_is = option_and_then size_in (number_at (codes "size") value)

layers_short : (config : Data) (layers : List Data)
    → NotLong (child_of role.Config config >>= λ first. each (map (child_of role.Layer) layers) >>= λ rest. Ok (first ∷ rest))
layers_short config layers =
    bind_short (child_of role.Config config) _ (child_short role.Config config)
    (λ first. bind_short (each (map (child_of role.Layer) layers)) _
    (each_short (child_of role.Layer) (child_short role.Layer) layers) (λ rest. ok_short (first ∷ rest)))

listed_short : (f : Form) (value : Data) → NotLong (listed f value)
listed_short Image value =
    then_short (check (not (has (codes "manifests") value)) (form.Field key.Manifests)) _ (check_short _ (form.Field key.Manifests) tt)
    (bind_short (field key.Config config_is) _ (field_short key.Config config_is)
    (λ config. bind_short (field key.Layers layers_are) _ (field_short key.Layers layers_are)
    (λ layers. then_short (within (length layers + 1)) _ (within_short (length layers + 1)) (layers_short config layers))))
  where
    config_is : Option Data
    config_is = object_at (codes "config") value

    layers_are : Option (List Data)
    layers_are = items_at (codes "layers") value
listed_short Index value =
    then_short (check (not (has (codes "config") value)) (form.Field key.Config)) _ (check_short _ (form.Field key.Config) tt)
    (then_short (check (not (has (codes "layers") value)) (form.Field key.Layers)) _ (check_short _ (form.Field key.Layers) tt)
    (bind_short (field key.Manifests manifests_are) _ (field_short key.Manifests manifests_are)
    (λ manifests. then_short (within (length manifests)) _ (within_short (length manifests))
    (each_short (child_of role.Manifest) (child_short role.Manifest) manifests))))
  where
    manifests_are : Option (List Data)
    manifests_are = items_at (codes "manifests") value

-- what follows the test of the length
abbrev after_length : Media → ByteList → Result (List Child) Unreadable
after_length media bytes = ok_or (form_of media) form.Media >>= λ f.
    ok_or (option_and_then object_in (document_of bytes)) form.NotJson >>= λ value.
    check (says_two value) (form.Field key.SchemaVersion) >> (check (says_media media value) (form.Field key.MediaType) >> listed f value)

after_short : (media : Media) (bytes : ByteList) → NotLong (after_length media bytes)
after_short media bytes =
    bind_short (ok_or (form_of media) form.Media) _ (found_short (form_of media) form.Media tt)
    (λ f. bind_short (ok_or document form.NotJson) _ (found_short document form.NotJson tt)
    (λ value. then_short (check (says_two value) (form.Field key.SchemaVersion)) _ (check_short _ (form.Field key.SchemaVersion) tt)
    (then_short (check (says_media media value) (form.Field key.MediaType)) _ (check_short _ (form.Field key.MediaType) tt)
    (listed_short f value))))
  where
    document : Option Data
    document = option_and_then object_in (document_of bytes)

long_by : (b : Bool) (n : ℕ) (next : Result (List Child) Unreadable) → NotLong next → (len : ℕ)
    → check b (form.TooLong n) >> next ≡ Err (form.TooLong len) → (b ≡ false) × (len ≡ n)
long_by true n next short len is = absurd (short len is)
long_by false n next short len is = (refl, cc)

-- a manifest that is refused as too long has that many bytes, which are more than it may have
pub refuses-long : (media : Media) (bytes : ByteList) (len : ℕ) → Refuses media bytes (form.TooLong len)
    → (len ≡ length bytes) × (MANIFEST_LIMIT < len)
refuses-long media bytes len is =
    let at = long_by (nat_le (length bytes) MANIFEST_LIMIT) (length bytes) (after_length media bytes) (after_short media bytes) len is in
    (at.1, let over : MANIFEST_LIMIT < length bytes = leb-false (length bytes) MANIFEST_LIMIT at.0 in let same = at.1 in omega (arith, over, same))
