-- Laws of content: what each look-up finds after each update, so that no proof above opens a map.
use Rattle.std.proofs.Common.{◌≡◌, ◌≢◌, ◌⊎◌, inl, inr, refl, sym, ap, ◌∙◌, Bool, true, false, Option, Some, None}
use Rattle.std.specs.Option.{option_and_then, option_flatten, unwrap_or}
use Rattle.std.specs.Map.{lookup}
use Rattle.std.specs.BTreeMap.{insert_entry, is_at}
use Rattle.std.specs.Cmp.Lexicographic.{slice_cmp}
use Rattle.std.specs.Ordering.{nat_cmp}
use Rattle.std.specs.declared.cmp.Ordering.TheVariants.{Equal}
use Rattle.std.specs.Str.{bytes_eq}
use Rattle.std.proofs.lemmas.Cmp.{nat_list_cmp_total, tied_itself}
use Rattle.std.proofs.lemmas.Map.Lookups.{exact_bytes}
use Rattle.std.proofs.lemmas.Slice.Eq.{bytes_eq-Decides}
use Rattle.hr_base.specs.Bytes.{ByteList, Text}
use Rattle.hr_name.specs.Name.{RepoName}
use Rattle.hr_name.specs.Tag.{TagName}
use Rattle.hr_digest.specs.Order.{digest_cmp, digests_ordered}
use Rattle.hr_digest.specs.declared.digest.Digest.{Digest}
use Rattle.hr_digest.specs.declared.digest.Digest.TheVariants.{Sha256}
use Rattle.hr_event.specs.declared.reference.Fetched.{Fetched}
use Rattle.hr_adapter.specs.Content.{Content, Repo, Target, empty_repo, repo_at, blob_at, manifest_at, target_at, tag_at, with_repo, with_blob, with_manifest, with_tag}
use Rattle.hr_adapter.proofs.EntryLemmas.{lookup_same_key, lookup_other_key}

-- ---- keys

-- names, tags and digests that tie are equal
pub name_tie : (a b : Text) → slice_cmp nat_cmp a b ≡ Equal → a ≡ b
name_tie a b e = exact_bytes a b e

pub digest_tie : (d e : Digest) → digest_cmp d e ≡ Equal → d ≡ e
digest_tie (Sha256 x) (Sha256 y) h = ap Sha256 (exact_bytes x y h)

pub name_itself : (a : Text) → slice_cmp nat_cmp a a ≡ Equal
name_itself a = tied_itself nat_list_cmp_total a

pub digest_itself : (d : Digest) → digest_cmp d d ≡ Equal
digest_itself d = tied_itself digests_ordered d

tie_cases : {K : Type 0} (R : K → K → Bool) (a b : K) → (R a b ≡ true → a ≡ b) → (a ≡ b → R a b ≡ true)
    → (r : Bool) → R a b ≡ r → (a ≡ b) ⊎ (a ≢ b)
tie_cases R a b equal back true is = inl (equal is)
tie_cases R a b equal back false is = inr (λ e. let t : R a b ≡ true = back e in cc)

-- two names, tags or digests are equal or not
pub name_cases : (a b : Text) → (a ≡ b) ⊎ (a ≢ b)
name_cases a b =
    tie_cases bytes_eq a b (bytes_eq-Decides a b).0 (bytes_eq-Decides a b).1 (bytes_eq a b) refl

same_hash : {x y : ByteList} → Sha256 x ≡ Sha256 y → x ≡ y
same_hash e = cc

pub digest_cases : (d e : Digest) → (d ≡ e) ⊎ (d ≢ e)
digest_cases (Sha256 x) (Sha256 y) =
    elim (name_cases x y) [ inl e ↦ inl (ap Sha256 e) | inr apart ↦ inr (λ e. apart (same_hash e)) ]

-- ---- repositories

repo_at-with_repo-same : (c : Content) (r : RepoName) (change : Repo → Repo)
    → repo_at (with_repo c r change) r ≡ Some (change (unwrap_or (repo_at c r) empty_repo))
unfolding repo_at
repo_at-with_repo-same c r change =
    lookup_same_key nat_list_cmp_total c r (change (unwrap_or (repo_at c r) empty_repo))

repo_at-with_repo-other : (c : Content) (r : RepoName) (change : Repo → Repo) (q : RepoName) → q ≢ r
    → repo_at (with_repo c r change) q ≡ repo_at c q
unfolding repo_at
repo_at-with_repo-other c r change q apart =
    lookup_other_key nat_list_cmp_total c r (change (unwrap_or (repo_at c r) empty_repo)) q
    (λ tie. apart (name_tie q r tie))

look_or_empty : {Y : Type 0} (look : Repo → Option Y) → look empty_repo ≡ None → (held : Option Repo)
    → look (unwrap_or held empty_repo) ≡ option_and_then look held
look_or_empty look none (Some held) = refl
look_or_empty look none None = none

-- a look-up in a repository after its change
look_same : {Y : Type 0} (look : Repo → Option Y) (change : Repo → Repo) (c : Content) (r : RepoName) (y : Y)
    → ((held : Repo) → look (change held) ≡ Some y)
    → option_and_then look (repo_at (with_repo c r change) r) ≡ Some y
look_same look change c r y puts =
    ap (option_and_then look) (repo_at-with_repo-same c r change) ∙ puts (unwrap_or (repo_at c r) empty_repo)

-- a look-up that the change of a repository doesn't touch
look_other : {Y : Type 0} (look : Repo → Option Y) (change : Repo → Repo) → look empty_repo ≡ None
    → (c : Content) (r q : RepoName) → (q ≡ r → (held : Repo) → look (change held) ≡ look held)
    → option_and_then look (repo_at (with_repo c r change) q) ≡ option_and_then look (repo_at c q)
look_other look change none c r q keeps = elim (name_cases q r) [
  | inl e ↦ ap (λ p. option_and_then look (repo_at (with_repo c r change) p)) e
      ∙ ap (option_and_then look) (repo_at-with_repo-same c r change)
      ∙ keeps e (unwrap_or (repo_at c r) empty_repo) ∙ look_or_empty look none (repo_at c r)
      ∙ ap (λ p. option_and_then look (repo_at c p)) (sym e)
  | inr apart ↦ ap (option_and_then look) (repo_at-with_repo-other c r change q apart)
]

-- ---- looks at a repository, and its changes

abbrev blob_in : Digest → Repo → Option ByteList
blob_in d held = lookup (is_at (digest_cmp d)) held.blobs

abbrev manifest_in : Digest → Repo → Option Fetched
manifest_in d held = lookup (is_at (digest_cmp d)) held.manifests

abbrev target_in : TagName → Repo → Option Target
target_in t held = lookup (is_at (slice_cmp nat_cmp t)) held.tags

abbrev blob_put : Digest → ByteList → Repo → Repo
blob_put d bytes held = record held { blobs = insert_entry digest_cmp held.blobs d bytes }

abbrev manifest_put : Digest → Fetched → Repo → Repo
manifest_put d m held = record held { manifests = insert_entry digest_cmp held.manifests d m }

abbrev tag_put : TagName → Digest → Repo → Repo
tag_put t d held = record held { tags = insert_entry (slice_cmp nat_cmp) held.tags t (Some d) }

-- ---- the content with a blob

pub blob_at-with_blob-same : (c : Content) (r : RepoName) (d : Digest) (bytes : ByteList)
    → blob_at (with_blob c r d bytes) r d ≡ Some bytes
unfolding blob_at with_blob
blob_at-with_blob-same c r d bytes =
    look_same (blob_in d) (blob_put d bytes) c r bytes (λ held. lookup_same_key digests_ordered held.blobs d bytes)

pub blob_at-with_blob-other : (c : Content) (r : RepoName) (d : Digest) (bytes : ByteList) (q : RepoName) (e : Digest)
    → (q ≡ r → e ≢ d) → blob_at (with_blob c r d bytes) q e ≡ blob_at c q e
unfolding blob_at with_blob
blob_at-with_blob-other c r d bytes q e apart =
    look_other (blob_in e) (blob_put d bytes) refl c r q
    (λ is held. lookup_other_key digests_ordered held.blobs d bytes e (λ tie. apart is (digest_tie e d tie)))

pub manifest_at-with_blob : (c : Content) (r : RepoName) (d : Digest) (bytes : ByteList) (q : RepoName) (e : Digest)
    → manifest_at (with_blob c r d bytes) q e ≡ manifest_at c q e
unfolding manifest_at with_blob
manifest_at-with_blob c r d bytes q e = look_other (manifest_in e) (blob_put d bytes) refl c r q (λ is held. refl)

pub target_at-with_blob : (c : Content) (r : RepoName) (d : Digest) (bytes : ByteList) (q : RepoName) (t : TagName)
    → target_at (with_blob c r d bytes) q t ≡ target_at c q t
unfolding target_at with_blob
target_at-with_blob c r d bytes q t = look_other (target_in t) (blob_put d bytes) refl c r q (λ is held. refl)

-- ---- the content with a manifest

pub manifest_at-with_manifest-same : (c : Content) (r : RepoName) (d : Digest) (m : Fetched)
    → manifest_at (with_manifest c r d m) r d ≡ Some m
unfolding manifest_at with_manifest
manifest_at-with_manifest-same c r d m =
    look_same (manifest_in d) (manifest_put d m) c r m (λ held. lookup_same_key digests_ordered held.manifests d m)

pub manifest_at-with_manifest-other : (c : Content) (r : RepoName) (d : Digest) (m : Fetched) (q : RepoName) (e : Digest)
    → (q ≡ r → e ≢ d) → manifest_at (with_manifest c r d m) q e ≡ manifest_at c q e
unfolding manifest_at with_manifest
manifest_at-with_manifest-other c r d m q e apart =
    look_other (manifest_in e) (manifest_put d m) refl c r q
    (λ is held. lookup_other_key digests_ordered held.manifests d m e (λ tie. apart is (digest_tie e d tie)))

pub blob_at-with_manifest : (c : Content) (r : RepoName) (d : Digest) (m : Fetched) (q : RepoName) (e : Digest)
    → blob_at (with_manifest c r d m) q e ≡ blob_at c q e
unfolding blob_at with_manifest
blob_at-with_manifest c r d m q e = look_other (blob_in e) (manifest_put d m) refl c r q (λ is held. refl)

pub target_at-with_manifest : (c : Content) (r : RepoName) (d : Digest) (m : Fetched) (q : RepoName) (t : TagName)
    → target_at (with_manifest c r d m) q t ≡ target_at c q t
unfolding target_at with_manifest
target_at-with_manifest c r d m q t = look_other (target_in t) (manifest_put d m) refl c r q (λ is held. refl)

-- ---- the content with a tag

pub target_at-with_tag-same : (c : Content) (r : RepoName) (t : TagName) (d : Digest)
    → target_at (with_tag c r t d) r t ≡ Some (Some d)
unfolding target_at with_tag
target_at-with_tag-same c r t d =
    look_same (target_in t) (tag_put t d) c r (Some d)
    (λ held. lookup_same_key nat_list_cmp_total held.tags t (Some d))

pub target_at-with_tag-other : (c : Content) (r : RepoName) (t : TagName) (d : Digest) (q : RepoName) (s : TagName)
    → (q ≡ r → s ≢ t) → target_at (with_tag c r t d) q s ≡ target_at c q s
unfolding target_at with_tag
target_at-with_tag-other c r t d q s apart =
    look_other (target_in s) (tag_put t d) refl c r q
    (λ is held. lookup_other_key nat_list_cmp_total held.tags t (Some d) s
    (λ tie. apart is (name_tie s t tie)))

pub blob_at-with_tag : (c : Content) (r : RepoName) (t : TagName) (d : Digest) (q : RepoName) (e : Digest)
    → blob_at (with_tag c r t d) q e ≡ blob_at c q e
unfolding blob_at with_tag
blob_at-with_tag c r t d q e = look_other (blob_in e) (tag_put t d) refl c r q (λ is held. refl)

pub manifest_at-with_tag : (c : Content) (r : RepoName) (t : TagName) (d : Digest) (q : RepoName) (e : Digest)
    → manifest_at (with_tag c r t d) q e ≡ manifest_at c q e
unfolding manifest_at with_tag
manifest_at-with_tag c r t d q e = look_other (manifest_in e) (tag_put t d) refl c r q (λ is held. refl)

-- ---- what a tag names

pub tag_at-with_tag-same : (c : Content) (r : RepoName) (t : TagName) (d : Digest) → tag_at (with_tag c r t d) r t ≡ Some d
tag_at-with_tag-same c r t d = ap option_flatten (target_at-with_tag-same c r t d)

pub tag_at-with_tag-other : (c : Content) (r : RepoName) (t : TagName) (d : Digest) (q : RepoName) (s : TagName)
    → (q ≡ r → s ≢ t) → tag_at (with_tag c r t d) q s ≡ tag_at c q s
tag_at-with_tag-other c r t d q s apart =
    ap option_flatten (target_at-with_tag-other c r t d q s apart)

pub tag_at-with_blob : (c : Content) (r : RepoName) (d : Digest) (bytes : ByteList) (q : RepoName) (t : TagName)
    → tag_at (with_blob c r d bytes) q t ≡ tag_at c q t
tag_at-with_blob c r d bytes q t = ap option_flatten (target_at-with_blob c r d bytes q t)

pub tag_at-with_manifest : (c : Content) (r : RepoName) (d : Digest) (m : Fetched) (q : RepoName) (t : TagName)
    → tag_at (with_manifest c r d m) q t ≡ tag_at c q t
tag_at-with_manifest c r d m q t = ap option_flatten (target_at-with_manifest c r d m q t)

-- ---- by cases: the place of the update, or as before

place_cases : (q r : RepoName) (e d : Digest) → ((q ≡ r) × (e ≡ d)) ⊎ (q ≡ r → e ≢ d)
place_cases q r e d = elim (name_cases q r) [
  | inl is ↦ elim (digest_cases e d) [ inl at ↦ inl (is, at) | inr apart ↦ inr (λ _. apart) ]
  | inr apart ↦ inr (λ is. absurd (apart is))
]

named_cases : (q r : RepoName) (s t : TagName) → ((q ≡ r) × (s ≡ t)) ⊎ (q ≡ r → s ≢ t)
named_cases q r s t = elim (name_cases q r) [
  | inl is ↦ elim (name_cases s t) [ inl at ↦ inl (is, at) | inr apart ↦ inr (λ _. apart) ]
  | inr apart ↦ inr (λ is. absurd (apart is))
]

pub blob_at-with_blob-cases : (c : Content) (r : RepoName) (d : Digest) (bytes : ByteList) (q : RepoName) (e : Digest)
    → ((q ≡ r) × (e ≡ d) × (blob_at (with_blob c r d bytes) q e ≡ Some bytes))
    ⊎ (blob_at (with_blob c r d bytes) q e ≡ blob_at c q e)
blob_at-with_blob-cases c r d bytes q e = elim (place_cases q r e d) [
  | inl at ↦ inl (
    at.0,
    at.1,
    ap (λ p. blob_at (with_blob c r d bytes) p e) at.0
        ∙ ap (blob_at (with_blob c r d bytes) r) at.1 ∙ blob_at-with_blob-same c r d bytes,
  )
  | inr apart ↦ inr (blob_at-with_blob-other c r d bytes q e apart)
]

pub manifest_at-with_manifest-cases : (c : Content) (r : RepoName) (d : Digest) (m : Fetched) (q : RepoName) (e : Digest)
    → ((q ≡ r) × (e ≡ d) × (manifest_at (with_manifest c r d m) q e ≡ Some m))
    ⊎ (manifest_at (with_manifest c r d m) q e ≡ manifest_at c q e)
manifest_at-with_manifest-cases c r d m q e = elim (place_cases q r e d) [
  | inl at ↦ inl (
    at.0,
    at.1,
    ap (λ p. manifest_at (with_manifest c r d m) p e) at.0
        ∙ ap (manifest_at (with_manifest c r d m) r) at.1 ∙ manifest_at-with_manifest-same c r d m,
  )
  | inr apart ↦ inr (manifest_at-with_manifest-other c r d m q e apart)
]

pub target_at-with_tag-cases : (c : Content) (r : RepoName) (t : TagName) (d : Digest) (q : RepoName) (s : TagName)
    → ((q ≡ r) × (s ≡ t) × (target_at (with_tag c r t d) q s ≡ Some (Some d)))
    ⊎ (target_at (with_tag c r t d) q s ≡ target_at c q s)
target_at-with_tag-cases c r t d q s = elim (named_cases q r s t) [
  | inl at ↦ inl (
    at.0,
    at.1,
    ap (λ p. target_at (with_tag c r t d) p s) at.0
        ∙ ap (target_at (with_tag c r t d) r) at.1 ∙ target_at-with_tag-same c r t d,
  )
  | inr apart ↦ inr (target_at-with_tag-other c r t d q s apart)
]

pub tag_at-with_tag-cases : (c : Content) (r : RepoName) (t : TagName) (d : Digest) (q : RepoName) (s : TagName)
    → ((q ≡ r) × (s ≡ t) × (tag_at (with_tag c r t d) q s ≡ Some d))
    ⊎ (tag_at (with_tag c r t d) q s ≡ tag_at c q s)
tag_at-with_tag-cases c r t d q s = elim (target_at-with_tag-cases c r t d q s) [
  | inl at ↦ inl (at.0, at.1, ap option_flatten at.2)
  | inr is ↦ inr (ap option_flatten is)
]
