-- Laws of tags: what a tag leads to after each update, and the rows that this adds.
use Rattle.std.proofs.Common.{◌≡◌, ◌⊎◌, ◌++◌, inl, inr, refl, sym, ap, subst, ◌∙◌, List, Option, Some, None}
use Rattle.std.specs.Prelude.{IfSome, Contains}
use Rattle.std.specs.Option.{option_and_then}
use Rattle.std.proofs.lemmas.List.Elements.{Contains-append_left}
use Rattle.hr_base.specs.Bytes.{ByteList, Media}
use Rattle.hr_name.specs.Name.{RepoName}
use Rattle.hr_name.specs.Tag.{TagName}
use Rattle.hr_digest.specs.Digest.{digest_of}
use Rattle.hr_digest.specs.declared.digest.Digest.{Digest}
use Rattle.hr_event.specs.declared.reference.Fetched.{Fetched}
use Rattle.hr_event.specs.declared.reference.Reference.{Reference}
use Rattle.hr_event.specs.declared.reference.Reference.TheVariants as by
use Rattle.hr_adapter.specs.Content.{Content, fetch_at, manifest_at, tag_at, with_blob, with_manifest, with_tag}
use Rattle.hr_adapter.specs.Put.{manifest_alone, put_under, as_manifest, stands_under}
use Rattle.hr_adapter.specs.Reg.{AreShown, Row}
use Rattle.hr_adapter.proofs.ContentLaws.{manifest_at-with_blob, manifest_at-with_manifest-same, manifest_at-with_manifest-cases, manifest_at-with_tag, tag_at-with_blob, tag_at-with_manifest, tag_at-with_tag-same, tag_at-with_tag-cases}

leads_along : {X Y : Type 0} (f g : X → Option Y) (o p : Option X) → o ≡ p → ((x : X) → f x ≡ g x)
    → option_and_then f o ≡ option_and_then g p
leads_along f g o (Some x) e same = ap (option_and_then f) e ∙ same x
leads_along f g o None e same = ap (option_and_then f) e

-- a blob changes nothing that a tag leads to
pub fetch_at-with_blob : (c : Content) (r : RepoName) (d : Digest) (bytes : ByteList) (q : RepoName) (t : TagName)
    → fetch_at (with_blob c r d bytes) q (by.Tag t) ≡ fetch_at c q (by.Tag t)
fetch_at-with_blob c r d bytes q t =
    leads_along (manifest_at (with_blob c r d bytes) q) (manifest_at c q) (tag_at (with_blob c r d bytes) q t) (tag_at c q t)
    (tag_at-with_blob c r d bytes q t) (λ e. manifest_at-with_blob c r d bytes q e)

-- a manifest that is put is what the tags that name its digest lead to; the others lead where they led
leads_after : (c : Content) (r : RepoName) (d : Digest) (m : Fetched) (q : RepoName) (o : Option Digest)
    → ((q ≡ r) × (o ≡ Some d) × (option_and_then (manifest_at (with_manifest c r d m) q) o ≡ Some m))
    ⊎ (option_and_then (manifest_at (with_manifest c r d m) q) o ≡ option_and_then (manifest_at c q) o)
leads_after c r d m q None = inr refl
leads_after c r d m q (Some e) = elim (manifest_at-with_manifest-cases c r d m q e) [
  | inl at ↦ inl (at.0, ap Some at.1, at.2)
  | inr is ↦ inr is
]

pub fetch_at-with_manifest-cases : (c : Content) (r : RepoName) (d : Digest) (m : Fetched) (q : RepoName) (t : TagName)
    → ((q ≡ r) × (tag_at c q t ≡ Some d) × (fetch_at (with_manifest c r d m) q (by.Tag t) ≡ Some m))
    ⊎ (fetch_at (with_manifest c r d m) q (by.Tag t) ≡ fetch_at c q (by.Tag t))
fetch_at-with_manifest-cases c r d m q t =
    let same : fetch_at (with_manifest c r d m) q (by.Tag t) ≡ option_and_then (manifest_at (with_manifest c r d m) q) (tag_at c q t) =
    ap (option_and_then (manifest_at (with_manifest c r d m) q)) (tag_at-with_manifest c r d m q t) in
    elim (leads_after c r d m q (tag_at c q t)) [
      | inl at ↦ inl (at.0, at.1, same ∙ at.2)
      | inr is ↦ inr (same ∙ is)
    ]

-- the tag that was moved leads to the manifest of its new digest; the others lead where they led
pub fetch_at-with_tag-cases : (c : Content) (r : RepoName) (t : TagName) (d : Digest) (q : RepoName) (s : TagName)
    → ((q ≡ r) × (s ≡ t) × (fetch_at (with_tag c r t d) q (by.Tag s) ≡ manifest_at c r d))
    ⊎ (fetch_at (with_tag c r t d) q (by.Tag s) ≡ fetch_at c q (by.Tag s))
fetch_at-with_tag-cases c r t d q s = elim (tag_at-with_tag-cases c r t d q s) [
  | inl at ↦ inl (
    at.0,
    at.1,
    ap (option_and_then (manifest_at (with_tag c r t d) q)) at.2
        ∙ manifest_at-with_tag c r t d q d ∙ ap (λ p. manifest_at c p d) at.0,
  )
  | inr is ↦ inr (leads_along (manifest_at (with_tag c r t d) q) (manifest_at c q) (tag_at (with_tag c r t d) q s) (tag_at c q s) is
      (λ e. manifest_at-with_tag c r t d q e))
]

-- after a put of a manifest a tag leads to that manifest, in the same repository, or where it led
pub fetch_at-manifest_alone-cases : (c : Content) (r : RepoName) (reference : Reference) (media : Media) (bytes : ByteList) (q : RepoName) (t : TagName)
    → ((q ≡ r) × (fetch_at (manifest_alone r reference media bytes c) q (by.Tag t) ≡ Some (as_manifest media bytes)))
    ⊎ (fetch_at (manifest_alone r reference media bytes c) q (by.Tag t) ≡ fetch_at c q (by.Tag t))
fetch_at-manifest_alone-cases c r reference media bytes q t =
    elim (fetch_at-with_manifest-cases c r (stands_under reference bytes) (as_manifest media bytes) q t) [
      | inl at ↦ inl (at.0, at.2)
      | inr is ↦ inr is
    ]

pub fetch_at-put_under-cases : (c : Content) (r : RepoName) (reference : Reference) (media : Media) (bytes : ByteList) (q : RepoName) (t : TagName)
    → ((q ≡ r) × (fetch_at (put_under r reference media bytes c) q (by.Tag t) ≡ Some (as_manifest media bytes)))
    ⊎ (fetch_at (put_under r reference media bytes c) q (by.Tag t) ≡ fetch_at c q (by.Tag t))
fetch_at-put_under-cases c r (by.Digest d) media bytes q t =
    fetch_at-manifest_alone-cases c r (by.Digest d) media bytes q t
fetch_at-put_under-cases c r (by.Tag s) media bytes q t =
    elim (fetch_at-with_tag-cases (manifest_alone r (by.Tag s) media bytes c) r s (digest_of bytes) q t) [
      | inl at ↦ inl (at.0, at.2 ∙ manifest_at-with_manifest-same c r (digest_of bytes) (as_manifest media bytes))
      | inr is ↦ elim (fetch_at-manifest_alone-cases c r (by.Tag s) media bytes q t) [
        | inl at ↦ inl (at.0, is ∙ at.1)
        | inr same ↦ inr (is ∙ same)
      ]
    ]

-- a put under a tag: the tag leads to what was put
pub fetch_at-put_under-same : (c : Content) (r : RepoName) (t : TagName) (media : Media) (bytes : ByteList)
    → fetch_at (put_under r (by.Tag t) media bytes c) r (by.Tag t) ≡ Some (as_manifest media bytes)
fetch_at-put_under-same c r t media bytes =
    ap (option_and_then (manifest_at (put_under r (by.Tag t) media bytes c) r))
    (tag_at-with_tag-same (manifest_alone r (by.Tag t) media bytes c) r t (digest_of bytes))
    ∙ manifest_at-with_tag (manifest_alone r (by.Tag t) media bytes c) r t (digest_of bytes) r (digest_of bytes)
    ∙ manifest_at-with_manifest-same c r (digest_of bytes) (as_manifest media bytes)

-- ---- rows

abbrev HasRow : List Row → RepoName → TagName → Fetched → Type 0
HasRow rows q t m = Contains rows (record { repo = q; tag = t; media = m.media; bytes = m.bytes })

if_some_along : {X : Type 0} (P : X → Type 0) (o p : Option X) → o ≡ p → IfSome p P → IfSome o P
if_some_along P o p e h = subst (λ (t : _). IfSome t P) (sym e) h

if_some_then : {X : Type 0} (P Q : X → Type 0) (o : Option X) → ((x : X) → P x → Q x) → IfSome o P → IfSome o Q
if_some_then P Q (Some x) more h = more x h
if_some_then P Q None more h = tt

-- more rows show as much
pub AreShown-more : (c : Content) (rows more : List Row) → AreShown c rows → AreShown c (rows ++ more)
AreShown-more c rows more h q t =
    if_some_then (HasRow rows q t) (HasRow (rows ++ more) q t) (fetch_at c q (by.Tag t))
    (λ m is. Contains-append_left rows more _ is) (h q t)

-- a blob adds no row
pub AreShown-with_blob : (c : Content) (r : RepoName) (d : Digest) (bytes : ByteList) (rows : List Row) → AreShown c rows
    → AreShown (with_blob c r d bytes) rows
AreShown-with_blob c r d bytes rows h q t =
    if_some_along (HasRow rows q t) (fetch_at (with_blob c r d bytes) q (by.Tag t)) (fetch_at c q (by.Tag t))
    (fetch_at-with_blob c r d bytes q t) (h q t)

-- a put adds rows of what was put alone: a row for each tag that now leads to it
pub AreShown-put_under : (c : Content) (r : RepoName) (reference : Reference) (media : Media) (bytes : ByteList) (rows more : List Row)
    → AreShown c rows
    → ((t : TagName) → fetch_at (put_under r reference media bytes c) r (by.Tag t) ≡ Some (as_manifest media bytes)
    → Contains (rows ++ more) (record { repo = r; tag = t; media = media; bytes = bytes }))
    → AreShown (put_under r reference media bytes c) (rows ++ more)
AreShown-put_under c r reference media bytes rows more h new q t =
    elim (fetch_at-put_under-cases c r reference media bytes q t) [
      | inl at ↦ if_some_along (HasRow (rows ++ more) q t) (fetch_at (put_under r reference media bytes c) q (by.Tag t)) (Some (as_manifest media bytes))
          at.1
          (subst (λ (p : RepoName). HasRow (rows ++ more) p t (as_manifest media bytes)) (sym at.0)
          (new t (ap (λ p. fetch_at (put_under r reference media bytes c) p (by.Tag t)) (sym at.0) ∙ at.1)))
      | inr is ↦ if_some_along (HasRow (rows ++ more) q t) (fetch_at (put_under r reference media bytes c) q (by.Tag t)) (fetch_at c q (by.Tag t)) is
          (AreShown-more c rows more h q t)
    ]

pub AreShown-manifest_alone : (c : Content) (r : RepoName) (reference : Reference) (media : Media) (bytes : ByteList) (rows more : List Row)
    → AreShown c rows
    → ((t : TagName) → fetch_at (manifest_alone r reference media bytes c) r (by.Tag t) ≡ Some (as_manifest media bytes)
    → Contains (rows ++ more) (record { repo = r; tag = t; media = media; bytes = bytes }))
    → AreShown (manifest_alone r reference media bytes c) (rows ++ more)
AreShown-manifest_alone c r reference media bytes rows more h new =
    AreShown-put_under c r (by.Digest (stands_under reference bytes)) media bytes rows more h new
