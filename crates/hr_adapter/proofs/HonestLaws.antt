-- Laws of honest content: what keeps it honest, and what moves tags alone.
use Rattle.std.proofs.Common.{◌≡◌, inl, inr, refl, sym, ap, subst, ◌∙◌, Option, Some, None}
use Rattle.std.specs.Prelude.{IfSome, IsSome, option_and_then}
use Rattle.hr_base.specs.Bytes.{ByteList, Media}
use Rattle.hr_name.specs.Name.{RepoName}
use Rattle.hr_name.specs.Tag.{TagName}
use Rattle.hr_digest.specs.Digest.{digest_of}
use Rattle.hr_digest.specs.declared.digest.Digest.{Digest}
use Rattle.hr_event.specs.declared.reference.Fetched.{Fetched}
use Rattle.hr_event.specs.declared.reference.Reference.{Reference}
use Rattle.hr_event.specs.declared.reference.Reference.TheVariants as by
use Rattle.hr_adapter.specs.Content.{Content, Honest, Target, blob_at, manifest_at, target_at, with_blob, with_manifest, with_tag}
use Rattle.hr_adapter.specs.Put.{IsOwn, manifest_alone, put_under, as_manifest}
use Rattle.hr_adapter.specs.Reg.{Retagged}
use Rattle.hr_adapter.proofs.ContentLaws.{blob_at-with_blob-cases, blob_at-with_manifest, blob_at-with_tag, manifest_at-with_blob, manifest_at-with_manifest-same, manifest_at-with_manifest-cases, manifest_at-with_tag, target_at-with_blob, target_at-with_manifest, target_at-with_tag-cases}

if_some_along : {X : Type 0} (P : X → Type 0) (o p : Option X) → o ≡ p → IfSome p P → IfSome o P
if_some_along P o p e h = subst (λ (t : _). IfSome t P) (sym e) h

is_some_along : {X : Type 0} (o p : Option X) → o ≡ p → IsSome p → IsSome o
is_some_along o p e h = subst (λ (t : _). IsSome t) (sym e) h

if_some_then : {X : Type 0} (P Q : X → Type 0) (o : Option X) → ((x : X) → P x → Q x) → IfSome o P → IfSome o Q
if_some_then P Q (Some x) more h = more x h
if_some_then P Q None more h = tt

-- what stands under a tag leads to a manifest of a content
abbrev Leads : Content → RepoName → Target → Type 0
Leads c q target = IsSome (option_and_then (manifest_at c q) target)

leads_still : (c d : Content) (q : RepoName) → ((e : Digest) → IsSome (manifest_at c q e) → IsSome (manifest_at d q e))
    → (target : Target) → Leads c q target → Leads d q target
leads_still c d q more (Some e) h = more e h
leads_still c d q more None h = h

-- a blob under its own digest keeps it honest
pub Honest-with_blob : (c : Content) (r : RepoName) (d : Digest) (bytes : ByteList) → digest_of bytes ≡ d
    → Honest c → Honest (with_blob c r d bytes)
Honest-with_blob c r d bytes own h = record {
  blobs = λ q e. elim (blob_at-with_blob-cases c r d bytes q e) [
    | inl at ↦ if_some_along (λ b. digest_of b ≡ e) (blob_at (with_blob c r d bytes) q e) (Some bytes) at.2 (own ∙ sym at.1)
    | inr is ↦ if_some_along (λ b. digest_of b ≡ e) (blob_at (with_blob c r d bytes) q e) (blob_at c q e) is (h.blobs q e)
  ];
  manifests = λ q e.
      if_some_along (λ m. digest_of m.bytes ≡ e) (manifest_at (with_blob c r d bytes) q e) (manifest_at c q e)
      (manifest_at-with_blob c r d bytes q e) (h.manifests q e);
  tags = λ q t.
      if_some_along (Leads (with_blob c r d bytes) q) (target_at (with_blob c r d bytes) q t) (target_at c q t)
      (target_at-with_blob c r d bytes q t)
      (if_some_then (Leads c q) (Leads (with_blob c r d bytes) q) (target_at c q t)
      (leads_still c (with_blob c r d bytes) q
      (λ e is. is_some_along (manifest_at (with_blob c r d bytes) q e) (manifest_at c q e)
      (manifest_at-with_blob c r d bytes q e) is)) (h.tags q t));
}

-- manifests that were there are there after a manifest is put
pub manifest_stays : (c : Content) (r : RepoName) (d : Digest) (m : Fetched) (q : RepoName) (e : Digest)
    → IsSome (manifest_at c q e) → IsSome (manifest_at (with_manifest c r d m) q e)
manifest_stays c r d m q e is = elim (manifest_at-with_manifest-cases c r d m q e) [
  | inl at ↦ is_some_along (manifest_at (with_manifest c r d m) q e) (Some m) at.2 refl
  | inr same ↦ is_some_along (manifest_at (with_manifest c r d m) q e) (manifest_at c q e) same is
]

-- a manifest under its own digest keeps it honest
pub Honest-with_manifest : (c : Content) (r : RepoName) (d : Digest) (m : Fetched) → digest_of m.bytes ≡ d
    → Honest c → Honest (with_manifest c r d m)
Honest-with_manifest c r d m own h = record {
  blobs = λ q e.
      if_some_along (λ b. digest_of b ≡ e) (blob_at (with_manifest c r d m) q e) (blob_at c q e)
      (blob_at-with_manifest c r d m q e) (h.blobs q e);
  manifests = λ q e. elim (manifest_at-with_manifest-cases c r d m q e) [
    | inl at ↦ if_some_along (λ n. digest_of n.bytes ≡ e) (manifest_at (with_manifest c r d m) q e) (Some m) at.2 (own ∙ sym at.1)
    | inr is ↦ if_some_along (λ n. digest_of n.bytes ≡ e) (manifest_at (with_manifest c r d m) q e) (manifest_at c q e) is (h.manifests q e)
  ];
  tags = λ q t.
      if_some_along (Leads (with_manifest c r d m) q) (target_at (with_manifest c r d m) q t) (target_at c q t)
      (target_at-with_manifest c r d m q t)
      (if_some_then (Leads c q) (Leads (with_manifest c r d m) q) (target_at c q t)
      (leads_still c (with_manifest c r d m) q (λ e is. manifest_stays c r d m q e is)) (h.tags q t));
}

-- a tag that names a manifest which is there keeps it honest
pub Honest-with_tag : (c : Content) (r : RepoName) (t : TagName) (d : Digest) → IsSome (manifest_at c r d) → Honest c
    → Honest (with_tag c r t d)
Honest-with_tag c r t d there h = record {
  blobs = λ q e.
      if_some_along (λ b. digest_of b ≡ e) (blob_at (with_tag c r t d) q e) (blob_at c q e)
      (blob_at-with_tag c r t d q e) (h.blobs q e);
  manifests = λ q e.
      if_some_along (λ m. digest_of m.bytes ≡ e) (manifest_at (with_tag c r t d) q e) (manifest_at c q e)
      (manifest_at-with_tag c r t d q e) (h.manifests q e);
  tags = λ q s. elim (target_at-with_tag-cases c r t d q s) [
    | inl at ↦ if_some_along (Leads (with_tag c r t d) q) (target_at (with_tag c r t d) q s) (Some (Some d)) at.2
        (is_some_along (manifest_at (with_tag c r t d) q d) (manifest_at c r d)
        (manifest_at-with_tag c r t d q d ∙ ap (λ p. manifest_at c p d) at.0) there)
    | inr is ↦ if_some_along (Leads (with_tag c r t d) q) (target_at (with_tag c r t d) q s) (target_at c q s) is
        (if_some_then (Leads c q) (Leads (with_tag c r t d) q) (target_at c q s)
        (leads_still c (with_tag c r t d) q
        (λ e there. is_some_along (manifest_at (with_tag c r t d) q e) (manifest_at c q e)
        (manifest_at-with_tag c r t d q e) there)) (h.tags q s))
  ];
}

-- a put of a manifest keeps it honest, whether its tag moved or not
pub Honest-manifest_alone : (c : Content) (r : RepoName) (reference : Reference) (media : Media) (bytes : ByteList)
    → IsOwn reference bytes → Honest c → Honest (manifest_alone r reference media bytes c)
Honest-manifest_alone c r (by.Tag t) media bytes own h =
    Honest-with_manifest c r (digest_of bytes) (as_manifest media bytes) refl h
Honest-manifest_alone c r (by.Digest d) media bytes own h =
    Honest-with_manifest c r d (as_manifest media bytes) own h

pub Honest-put_under : (c : Content) (r : RepoName) (reference : Reference) (media : Media) (bytes : ByteList)
    → IsOwn reference bytes → Honest c → Honest (put_under r reference media bytes c)
Honest-put_under c r (by.Tag t) media bytes own h =
    Honest-with_tag (manifest_alone r (by.Tag t) media bytes c) r t (digest_of bytes)
    (is_some_along (manifest_at (manifest_alone r (by.Tag t) media bytes c) r (digest_of bytes)) (Some (as_manifest media bytes))
    (manifest_at-with_manifest-same c r (digest_of bytes) (as_manifest media bytes)) refl)
    (Honest-manifest_alone c r (by.Tag t) media bytes own h)
Honest-put_under c r (by.Digest d) media bytes own h = Honest-manifest_alone c r (by.Digest d) media bytes own h

-- ---- tags that were moved

pub Retagged-itself : (c : Content) → Retagged c c
Retagged-itself c = record { blobs = λ r d. refl; manifests = λ r d. refl }

pub Retagged-then : (c d e : Content) → Retagged c d → Retagged d e → Retagged c e
Retagged-then c d e h k = record {
  blobs = λ r at. k.blobs r at ∙ h.blobs r at;
  manifests = λ r at. k.manifests r at ∙ h.manifests r at;
}

pub Retagged-with_tag : (c : Content) (r : RepoName) (t : TagName) (d : Digest) → Retagged c (with_tag c r t d)
Retagged-with_tag c r t d = record { blobs = blob_at-with_tag c r t d; manifests = manifest_at-with_tag c r t d }
