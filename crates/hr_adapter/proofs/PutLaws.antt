-- Laws of puts: what each look-up finds after a put of a manifest, whether its tag moved or not.
use Rattle.std.proofs.Common.{◌≡◌, ◌⊎◌, inl, inr, refl, ◌∙◌, Some}
use Rattle.hr_base.specs.Bytes.{ByteList, Media}
use Rattle.hr_name.specs.Name.{RepoName}
use Rattle.hr_name.specs.Tag.{TagName}
use Rattle.hr_digest.specs.Digest.{digest_of}
use Rattle.hr_digest.specs.declared.digest.Digest.{Digest}
use Rattle.hr_event.specs.declared.reference.Reference.{Reference}
use Rattle.hr_event.specs.declared.reference.Reference.TheVariants as by
use Rattle.hr_adapter.specs.Content.{Content, blob_at, manifest_at, tag_at}
use Rattle.hr_adapter.specs.Put.{manifest_alone, put_under, as_manifest, stands_under}
use Rattle.hr_adapter.proofs.ContentLaws.{blob_at-with_manifest, blob_at-with_tag, manifest_at-with_manifest-same, manifest_at-with_manifest-cases, manifest_at-with_tag, tag_at-with_manifest, tag_at-with_tag-same, tag_at-with_tag-cases}

-- ---- the manifest alone

pub blob_at-manifest_alone : (c : Content) (r : RepoName) (reference : Reference) (media : Media) (bytes : ByteList) (q : RepoName) (e : Digest)
    → blob_at (manifest_alone r reference media bytes c) q e ≡ blob_at c q e
blob_at-manifest_alone c r reference media bytes q e =
    blob_at-with_manifest c r (stands_under reference bytes) (as_manifest media bytes) q e

pub manifest_at-manifest_alone-same : (c : Content) (r : RepoName) (reference : Reference) (media : Media) (bytes : ByteList)
    → manifest_at (manifest_alone r reference media bytes c) r (stands_under reference bytes) ≡ Some (as_manifest media bytes)
manifest_at-manifest_alone-same c r reference media bytes =
    manifest_at-with_manifest-same c r (stands_under reference bytes) (as_manifest media bytes)

pub manifest_at-manifest_alone-cases : (c : Content) (r : RepoName) (reference : Reference) (media : Media) (bytes : ByteList) (q : RepoName) (e : Digest)
    → ((q ≡ r) × (e ≡ stands_under reference bytes)
    × (manifest_at (manifest_alone r reference media bytes c) q e ≡ Some (as_manifest media bytes)))
    ⊎ (manifest_at (manifest_alone r reference media bytes c) q e ≡ manifest_at c q e)
manifest_at-manifest_alone-cases c r reference media bytes q e =
    manifest_at-with_manifest-cases c r (stands_under reference bytes) (as_manifest media bytes) q e

pub tag_at-manifest_alone : (c : Content) (r : RepoName) (reference : Reference) (media : Media) (bytes : ByteList) (q : RepoName) (t : TagName)
    → tag_at (manifest_alone r reference media bytes c) q t ≡ tag_at c q t
tag_at-manifest_alone c r reference media bytes q t =
    tag_at-with_manifest c r (stands_under reference bytes) (as_manifest media bytes) q t

-- ---- the manifest under a reference

pub blob_at-put_under : (c : Content) (r : RepoName) (reference : Reference) (media : Media) (bytes : ByteList) (q : RepoName) (e : Digest)
    → blob_at (put_under r reference media bytes c) q e ≡ blob_at c q e
blob_at-put_under c r (by.Tag t) media bytes q e =
    blob_at-with_tag (manifest_alone r (by.Tag t) media bytes c) r t (digest_of bytes) q e
    ∙ blob_at-manifest_alone c r (by.Tag t) media bytes q e
blob_at-put_under c r (by.Digest d) media bytes q e = blob_at-manifest_alone c r (by.Digest d) media bytes q e

-- at every place it is as after the manifest alone
pub manifest_at-put_under : (c : Content) (r : RepoName) (reference : Reference) (media : Media) (bytes : ByteList) (q : RepoName) (e : Digest)
    → manifest_at (put_under r reference media bytes c) q e ≡ manifest_at (manifest_alone r reference media bytes c) q e
manifest_at-put_under c r (by.Tag t) media bytes q e =
    manifest_at-with_tag (manifest_alone r (by.Tag t) media bytes c) r t (digest_of bytes) q e
manifest_at-put_under c r (by.Digest d) media bytes q e = refl

pub manifest_at-put_under-same : (c : Content) (r : RepoName) (reference : Reference) (media : Media) (bytes : ByteList)
    → manifest_at (put_under r reference media bytes c) r (stands_under reference bytes) ≡ Some (as_manifest media bytes)
manifest_at-put_under-same c r reference media bytes =
    manifest_at-put_under c r reference media bytes r (stands_under reference bytes)
    ∙ manifest_at-manifest_alone-same c r reference media bytes

pub manifest_at-put_under-cases : (c : Content) (r : RepoName) (reference : Reference) (media : Media) (bytes : ByteList) (q : RepoName) (e : Digest)
    → ((q ≡ r) × (e ≡ stands_under reference bytes)
    × (manifest_at (put_under r reference media bytes c) q e ≡ Some (as_manifest media bytes)))
    ⊎ (manifest_at (put_under r reference media bytes c) q e ≡ manifest_at c q e)
manifest_at-put_under-cases c r reference media bytes q e =
    elim (manifest_at-manifest_alone-cases c r reference media bytes q e) [
      | inl at ↦ inl (at.0, at.1, manifest_at-put_under c r reference media bytes q e ∙ at.2)
      | inr is ↦ inr (manifest_at-put_under c r reference media bytes q e ∙ is)
    ]

-- under a tag, the tag names it, and every other names what it named
pub tag_at-put_under-same : (c : Content) (r : RepoName) (t : TagName) (media : Media) (bytes : ByteList)
    → tag_at (put_under r (by.Tag t) media bytes c) r t ≡ Some (digest_of bytes)
tag_at-put_under-same c r t media bytes =
    tag_at-with_tag-same (manifest_alone r (by.Tag t) media bytes c) r t (digest_of bytes)

pub tag_at-put_under-cases : (c : Content) (r : RepoName) (t : TagName) (media : Media) (bytes : ByteList) (q : RepoName) (s : TagName)
    → ((q ≡ r) × (s ≡ t) × (tag_at (put_under r (by.Tag t) media bytes c) q s ≡ Some (digest_of bytes)))
    ⊎ (tag_at (put_under r (by.Tag t) media bytes c) q s ≡ tag_at c q s)
tag_at-put_under-cases c r t media bytes q s =
    elim (tag_at-with_tag-cases (manifest_alone r (by.Tag t) media bytes c) r t (digest_of bytes) q s) [
      | inl at ↦ inl at
      | inr is ↦ inr (is ∙ tag_at-manifest_alone c r (by.Tag t) media bytes q s)
    ]

-- under a digest, no tag moves
pub tag_at-put_under-digest : (c : Content) (r : RepoName) (d : Digest) (media : Media) (bytes : ByteList) (q : RepoName) (s : TagName)
    → tag_at (put_under r (by.Digest d) media bytes c) q s ≡ tag_at c q s
tag_at-put_under-digest c r d media bytes q s = tag_at-manifest_alone c r (by.Digest d) media bytes q s
