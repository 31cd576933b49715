-- What setup lines keep of a registry's content: that it is honest, and that an index can list it.
use Rattle.std.proofs.Common.{◌≡◌, List, [], ◌∷◌, Option, Some, None, IfSome, inl, inr, refl, sym, subst}
use Rattle.std.specs.Prelude.{IsSome, option_and_then}
use Rattle.hr_base.specs.Bytes.{ByteList, Media}
use Rattle.hr_digest.specs.Digest.{digest_of}
use Rattle.hr_digest.specs.declared.digest.Digest.{Digest}
use Rattle.hr_name.specs.Name.{RepoName}
use Rattle.hr_name.specs.Tag.{TagName}
use Rattle.hr_event.specs.declared.reference.Fetched.{Fetched}
use Rattle.hr_event.specs.declared.reference.Reference.TheVariants as by
use Rattle.hr_manifest.specs.Canonical.{image_media, image_text, index_media}
use Rattle.hr_text.specs.Escaping.{IsUnescaped}
use Rattle.hr_text.proofs.EscapeLaws.{unescaped_text}
use Rattle.hr_adapter.specs.Content.{Content, Honest, Target, blob_at, manifest_at, repo_at, target_at, with_blob, with_manifest}
use Rattle.hr_adapter.specs.Put.{as_manifest, put_under}
use Rattle.hr_adapter.proofs.ContentLaws.{manifest_at-with_blob, manifest_at-with_manifest-cases}
use Rattle.hr_adapter.proofs.HonestLaws.{Honest-put_under, Honest-with_blob, Honest-with_manifest}
use Rattle.hr_adapter.proofs.PutLaws.{manifest_at-put_under-cases}
use Rattle.hr_opening.specs.Stored.{IsPlain, config_text, with_blobs, with_image, with_orphan}

-- ---- a content that holds nothing

no_manifest : (repo : RepoName) (d : Digest) → manifest_at [] repo d ≡ None
unfolding manifest_at repo_at
no_manifest repo d = refl

no_blob : (repo : RepoName) (d : Digest) → blob_at [] repo d ≡ None
unfolding blob_at repo_at
no_blob repo d = refl

no_target : (repo : RepoName) (tag : TagName) → target_at [] repo tag ≡ None
unfolding target_at repo_at
no_target repo tag = refl

if_none : {X : Type 0} (P : X → Type 0) (o : Option X) → o ≡ None → IfSome o P
if_none P (Some x) e = cc e
if_none P None e = tt

if_same : {X : Type 0} (P : X → Type 0) (o p : Option X) → o ≡ p → IfSome p P → IfSome o P
if_same P o p e h = subst (λ (t : Option _). IfSome t P) (sym e) h

pub nothing_honest : Honest []
nothing_honest = record {
  blobs = λ repo d. if_none (λ bytes. digest_of bytes ≡ d) (blob_at [] repo d) (no_blob repo d);
  manifests = λ repo d. if_none (λ m. digest_of m.bytes ≡ d) (manifest_at [] repo d) (no_manifest repo d);
  tags = λ repo tag. if_none (λ (target : Target). IsSome (option_and_then (manifest_at [] repo) target)) (target_at [] repo tag) (no_target repo tag);
}

pub nothing_plain : IsPlain []
nothing_plain repo d = if_none (λ m. IsUnescaped m.media) (manifest_at [] repo d) (no_manifest repo d)

-- ---- honest

blobs_honest : (c : Content) (repo : RepoName) (blobs : List ByteList) → Honest c → Honest (with_blobs c repo blobs)
blobs_honest c repo [] h = h
blobs_honest c repo (bytes ∷ blobs) h =
    blobs_honest (with_blob c repo (digest_of bytes) bytes) repo blobs (Honest-with_blob c repo (digest_of bytes) bytes refl h)

pub tagged_honest : (c : Content) (repo : RepoName) (tag : TagName) (media : Media) (bytes : ByteList) → Honest c
    → Honest (put_under repo (by.Tag tag) media bytes c)
tagged_honest c repo tag media bytes h = Honest-put_under c repo (by.Tag tag) media bytes tt h

pub image_honest : (c : Content) (repo : RepoName) (tag : TagName) (layers : List ByteList) → Honest c → Honest (with_image repo tag layers c)
image_honest c repo tag layers h =
    tagged_honest (with_blobs c repo (config_text ∷ layers)) repo tag image_media (image_text config_text layers)
    (blobs_honest c repo (config_text ∷ layers) h)

pub orphan_honest : (c : Content) (repo : RepoName) (layers : List ByteList) → Honest c → Honest (with_orphan repo layers c)
orphan_honest c repo layers h =
    let text = image_text config_text layers in
    Honest-with_manifest c repo (digest_of text) (as_manifest image_media text) refl h

-- ---- listed by an index

pub blob_plain : (c : Content) (repo : RepoName) (d : Digest) (bytes : ByteList) → IsPlain c → IsPlain (with_blob c repo d bytes)
blob_plain c repo d bytes plain q e =
    if_same (λ m. IsUnescaped m.media) (manifest_at (with_blob c repo d bytes) q e) (manifest_at c q e) (manifest_at-with_blob c repo d bytes q e) (plain q e)

blobs_plain : (c : Content) (repo : RepoName) (blobs : List ByteList) → IsPlain c → IsPlain (with_blobs c repo blobs)
blobs_plain c repo [] plain = plain
blobs_plain c repo (bytes ∷ blobs) plain =
    blobs_plain (with_blob c repo (digest_of bytes) bytes) repo blobs (blob_plain c repo (digest_of bytes) bytes plain)

pub tagged_plain : (c : Content) (repo : RepoName) (tag : TagName) (media : Media) (bytes : ByteList) → IsUnescaped media → IsPlain c
    → IsPlain (put_under repo (by.Tag tag) media bytes c)
tagged_plain c repo tag media bytes unescaped plain q e =
    let after = manifest_at (put_under repo (by.Tag tag) media bytes c) q e in
    elim (manifest_at-put_under-cases c repo (by.Tag tag) media bytes q e) [
      | inl at ↦ if_same (λ m. IsUnescaped m.media) after (Some (as_manifest media bytes)) at.2 unescaped
      | inr same ↦ if_same (λ m. IsUnescaped m.media) after (manifest_at c q e) same (plain q e)
    ]

pub image_is_plain : IsUnescaped image_media
image_is_plain = unescaped_text image_media refl

pub index_is_plain : IsUnescaped index_media
index_is_plain = unescaped_text index_media refl

pub image_plain : (c : Content) (repo : RepoName) (tag : TagName) (layers : List ByteList) → IsPlain c → IsPlain (with_image repo tag layers c)
image_plain c repo tag layers plain =
    tagged_plain (with_blobs c repo (config_text ∷ layers)) repo tag image_media (image_text config_text layers) image_is_plain
    (blobs_plain c repo (config_text ∷ layers) plain)

pub orphan_plain : (c : Content) (repo : RepoName) (layers : List ByteList) → IsPlain c → IsPlain (with_orphan repo layers c)
orphan_plain c repo layers plain q e =
    let text = image_text config_text layers in
    let m : Fetched = as_manifest image_media text in
    let after = manifest_at (with_manifest c repo (digest_of text) m) q e in
    elim (manifest_at-with_manifest-cases c repo (digest_of text) m q e) [
      | inl at ↦ if_same (λ n. IsUnescaped n.media) after (Some m) at.2 image_is_plain
      | inr same ↦ if_same (λ n. IsUnescaped n.media) after (manifest_at c q e) same (plain q e)
    ]
