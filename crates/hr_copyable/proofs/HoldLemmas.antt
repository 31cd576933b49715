-- What canonical lines keep of a content: all that it holds, where no digest stands for two texts.
use Rattle.std.proofs.Common.{◌≡◌, List, [], ◌∷◌, Option, Some, None, IfSome, inl, inr, refl, sym, ap, subst, ◌∙◌}
use Rattle.std.specs.Prelude.{IsSome, option_and_then}
use Rattle.std.specs.List.{AllByRecursion}
use Rattle.std.specs.Option.{option_flatten}
use Rattle.hr_base.specs.Bytes.{ByteList, Media}
use Rattle.hr_digest.specs.Digest.{digest_of}
use Rattle.hr_digest.specs.declared.digest.Digest.{Digest}
use Rattle.hr_name.specs.Name.{RepoName}
use Rattle.hr_name.specs.Tag.{TagName}
use Rattle.hr_event.specs.declared.reference.Fetched.{Fetched}
use Rattle.hr_event.specs.declared.reference.Reference.TheVariants as by
use Rattle.hr_adapter.specs.Content.{Content, Honest, Target, blob_at, manifest_at, repo_at, tag_at, target_at, with_blob, with_manifest}
use Rattle.hr_adapter.specs.Put.{as_manifest, put_under}
use Rattle.hr_adapter.proofs.ContentLaws.{blob_at-with_blob-cases, blob_at-with_blob-same, blob_at-with_manifest, manifest_at-with_blob, manifest_at-with_manifest-cases, tag_at-with_blob}
use Rattle.hr_adapter.proofs.HonestLaws.{Honest-put_under, Honest-with_blob, Honest-with_manifest}
use Rattle.hr_adapter.proofs.PutLaws.{blob_at-put_under, manifest_at-put_under}
use Rattle.hr_opening.specs.Stored.{with_blobs}
use Rattle.hr_copyable.proofs.FormLemmas.{IsForm, forms_agree}

-- the second content has all that the first has
pub record Keeps (b c : Content) : Type 0 where
  pub blobs : (repo : RepoName) (d : Digest) (bytes : ByteList) → blob_at b repo d ≡ Some bytes → blob_at c repo d ≡ Some bytes
  pub manifests : (repo : RepoName) (d : Digest) (m : Fetched) → manifest_at b repo d ≡ Some m → manifest_at c repo d ≡ Some m

pub keeps_itself : (c : Content) → Keeps c c
keeps_itself c = record { blobs = λ repo d bytes is. is; manifests = λ repo d m is. is }

pub keeps_then : (a b c : Content) → Keeps a b → Keeps b c → Keeps a c
keeps_then a b c first next = record {
  blobs = λ repo d bytes is. next.blobs repo d bytes (first.blobs repo d bytes is);
  manifests = λ repo d m is. next.manifests repo d m (first.manifests repo d m is);
}

-- a content of these texts alone, each under its own digest, and each manifest as canonical lines
-- store it
pub record IsOf (T : ByteList → Type 0) (c : Content) : Type 0 where
  pub honest : Honest c
  pub blobs : (repo : RepoName) (d : Digest) (bytes : ByteList) → blob_at c repo d ≡ Some bytes → T bytes
  pub manifests : (repo : RepoName) (d : Digest) (m : Fetched) → manifest_at c repo d ≡ Some m → T m.bytes
  pub forms : (repo : RepoName) (d : Digest) (m : Fetched) → manifest_at c repo d ≡ Some m → IsForm m

-- what is known of what is there
pub told : {X : Type 0} (P : X → Type 0) (o : Option X) (x : X) → IfSome o P → o ≡ Some x → P x
told P o x h is = subst (λ (t : Option _). IfSome t P) is h

pub some_same : {X : Type 0} (a b : X) → Some a ≡ Some b → a ≡ b
some_same a b e = cc e

-- ---- a content that holds nothing

no_blob : (repo : RepoName) (d : Digest) → blob_at [] repo d ≡ None
unfolding blob_at repo_at
no_blob repo d = refl

no_manifest : (repo : RepoName) (d : Digest) → manifest_at [] repo d ≡ None
unfolding manifest_at repo_at
no_manifest repo d = refl

no_target : (repo : RepoName) (tag : TagName) → target_at [] repo tag ≡ None
unfolding target_at repo_at
no_target repo tag = refl

if_none : {X : Type 0} (P : X → Type 0) (o : Option X) → o ≡ None → IfSome o P
if_none P (Some x) e = cc e
if_none P None e = tt

not_both : {X : Type 0} (o : Option X) (x : X) → o ≡ None → o ≡ Some x → ⊥
not_both (Some y) x e is = cc e
not_both None x e is = cc is

pub nothing_is_of : (T : ByteList → Type 0) → IsOf T []
nothing_is_of T = record {
  honest = record {
    blobs = λ repo d. if_none (λ bytes. digest_of bytes ≡ d) (blob_at [] repo d) (no_blob repo d);
    manifests = λ repo d. if_none (λ m. digest_of m.bytes ≡ d) (manifest_at [] repo d) (no_manifest repo d);
    tags = λ repo tag. if_none (λ (target : Target). IsSome (option_and_then (manifest_at [] repo) target)) (target_at [] repo tag) (no_target repo tag);
  };
  blobs = λ repo d bytes is. absurd (not_both (blob_at [] repo d) bytes (no_blob repo d) is);
  manifests = λ repo d m is. absurd (not_both (manifest_at [] repo d) m (no_manifest repo d) is);
  forms = λ repo d m is. absurd (not_both (manifest_at [] repo d) m (no_manifest repo d) is);
}

pub no_tag : (repo : RepoName) (tag : TagName) (d : Digest) → tag_at [] repo tag ≡ Some d → ⊥
no_tag repo tag d is = go (target_at [] repo tag) (no_target repo tag) is
  where
    go : (o : Option Target) → o ≡ None → option_flatten o ≡ Some d → ⊥
    go (Some t) e it = cc e
    go None e it = cc it

-- ---- what is put

module _ (T : ByteList → Type 0) (once : (a b : ByteList) → T a → T b → digest_of a ≡ digest_of b → a ≡ b) where
  -- what stands under the digest of a text is that text
  same_blob : (c : Content) (q : RepoName) (e : Digest) (bytes x : ByteList) → T bytes → IsOf T c → e ≡ digest_of bytes
      → blob_at c q e ≡ Some x → bytes ≡ x
  same_blob c q e bytes x t of at is =
      once bytes x t (of.blobs q e x is) (sym at ∙ sym (told (λ b. digest_of b ≡ e) (blob_at c q e) x (of.honest.blobs q e) is))

  same_manifest : (c : Content) (q : RepoName) (e : Digest) (new m : Fetched) → T new.bytes → IsForm new → IsOf T c → e ≡ digest_of new.bytes
      → manifest_at c q e ≡ Some m → new ≡ m
  same_manifest c q e new m t form of at is =
      forms_agree new m form (of.forms q e m is)
      (once new.bytes m.bytes t (of.manifests q e m is) (sym at ∙ sym (told (λ (f : Fetched). digest_of f.bytes ≡ e) (manifest_at c q e) m (of.honest.manifests q e) is)))

  -- a blob
  pub blob_keeps : (c : Content) (r : RepoName) (bytes : ByteList) → T bytes → IsOf T c → Keeps c (with_blob c r (digest_of bytes) bytes)
  blob_keeps c r bytes t of = record {
    blobs = λ q e x is. elim (blob_at-with_blob-cases c r (digest_of bytes) bytes q e) [
      | inl at ↦ at.2 ∙ ap Some (same_blob c q e bytes x t of at.1 is)
      | inr same ↦ same ∙ is
    ];
    manifests = λ q e m is. manifest_at-with_blob c r (digest_of bytes) bytes q e ∙ is;
  }

  pub blob_of : (c : Content) (r : RepoName) (bytes : ByteList) → T bytes → IsOf T c → IsOf T (with_blob c r (digest_of bytes) bytes)
  blob_of c r bytes t of = record {
    honest = Honest-with_blob c r (digest_of bytes) bytes refl of.honest;
    blobs = λ q e x is. elim (blob_at-with_blob-cases c r (digest_of bytes) bytes q e) [
      | inl at ↦ subst T (some_same bytes x (sym at.2 ∙ is)) t
      | inr same ↦ of.blobs q e x (sym same ∙ is)
    ];
    manifests = λ q e m is. of.manifests q e m (sym (manifest_at-with_blob c r (digest_of bytes) bytes q e) ∙ is);
    forms = λ q e m is. of.forms q e m (sym (manifest_at-with_blob c r (digest_of bytes) bytes q e) ∙ is);
  }

  -- blobs
  pub blobs_keep : (c : Content) (r : RepoName) (blobs : List ByteList) → AllByRecursion T blobs → IsOf T c → Keeps c (with_blobs c r blobs)
  blobs_keep c r [] all of = keeps_itself c
  blobs_keep c r (bytes ∷ blobs) all of =
      keeps_then c (with_blob c r (digest_of bytes) bytes) (with_blobs (with_blob c r (digest_of bytes) bytes) r blobs)
      (blob_keeps c r bytes all.0 of)
      (blobs_keep (with_blob c r (digest_of bytes) bytes) r blobs all.1 (blob_of c r bytes all.0 of))

  pub blobs_of : (c : Content) (r : RepoName) (blobs : List ByteList) → AllByRecursion T blobs → IsOf T c → IsOf T (with_blobs c r blobs)
  blobs_of c r [] all of = of
  blobs_of c r (bytes ∷ blobs) all of = blobs_of (with_blob c r (digest_of bytes) bytes) r blobs all.1 (blob_of c r bytes all.0 of)

  pub blobs_there : (c : Content) (r : RepoName) (blobs : List ByteList) → AllByRecursion T blobs → IsOf T c
      → AllByRecursion (λ b. blob_at (with_blobs c r blobs) r (digest_of b) ≡ Some b) blobs
  blobs_there c r [] all of = tt
  blobs_there c r (bytes ∷ blobs) all of =
      let next = with_blob c r (digest_of bytes) bytes in (
        (blobs_keep next r blobs all.1 (blob_of c r bytes all.0 of)).blobs r (digest_of bytes) bytes (blob_at-with_blob-same c r (digest_of bytes) bytes),
        blobs_there next r blobs all.1 (blob_of c r bytes all.0 of),
      )

  -- a manifest alone
  pub manifest_keeps : (c : Content) (r : RepoName) (new : Fetched) → T new.bytes → IsForm new → IsOf T c
      → Keeps c (with_manifest c r (digest_of new.bytes) new)
  manifest_keeps c r new t form of = record {
    blobs = λ q e x is. blob_at-with_manifest c r (digest_of new.bytes) new q e ∙ is;
    manifests = λ q e m is. elim (manifest_at-with_manifest-cases c r (digest_of new.bytes) new q e) [
      | inl at ↦ at.2 ∙ ap Some (same_manifest c q e new m t form of at.1 is)
      | inr same ↦ same ∙ is
    ];
  }

  pub manifest_of : (c : Content) (r : RepoName) (new : Fetched) → T new.bytes → IsForm new → IsOf T c
      → IsOf T (with_manifest c r (digest_of new.bytes) new)
  manifest_of c r new t form of = record {
    honest = Honest-with_manifest c r (digest_of new.bytes) new refl of.honest;
    blobs = λ q e x is. of.blobs q e x (sym (blob_at-with_manifest c r (digest_of new.bytes) new q e) ∙ is);
    manifests = λ q e m is. elim (manifest_at-with_manifest-cases c r (digest_of new.bytes) new q e) [
      | inl at ↦ subst (λ (f : Fetched). T f.bytes) (some_same new m (sym at.2 ∙ is)) t
      | inr same ↦ of.manifests q e m (sym same ∙ is)
    ];
    forms = λ q e m is. elim (manifest_at-with_manifest-cases c r (digest_of new.bytes) new q e) [
      | inl at ↦ subst IsForm (some_same new m (sym at.2 ∙ is)) form
      | inr same ↦ of.forms q e m (sym same ∙ is)
    ];
  }

  -- a manifest under a tag
  module _ (c : Content) (r : RepoName) (tag : TagName) (media : Media) (bytes : ByteList) (t : T bytes) (form : IsForm (as_manifest media bytes)) (of : IsOf T c) where
    pub tagged_keeps : Keeps c (put_under r (by.Tag tag) media bytes c)
    tagged_keeps = record {
      blobs = λ q e x is. blob_at-put_under c r (by.Tag tag) media bytes q e ∙ is;
      manifests = λ q e m is.
          manifest_at-put_under c r (by.Tag tag) media bytes q e ∙ (manifest_keeps c r (as_manifest media bytes) t form of).manifests q e m is;
    }

    pub tagged_of : IsOf T (put_under r (by.Tag tag) media bytes c)
    tagged_of =
        let alone = manifest_of c r (as_manifest media bytes) t form of in record {
          honest = Honest-put_under c r (by.Tag tag) media bytes tt of.honest;
          blobs = λ q e x is. of.blobs q e x (sym (blob_at-put_under c r (by.Tag tag) media bytes q e) ∙ is);
          manifests = λ q e m is. alone.manifests q e m (sym (manifest_at-put_under c r (by.Tag tag) media bytes q e) ∙ is);
          forms = λ q e m is. alone.forms q e m (sym (manifest_at-put_under c r (by.Tag tag) media bytes q e) ∙ is);
        }

-- blobs move no tag
pub blobs_tag : (c : Content) (r : RepoName) (blobs : List ByteList) (q : RepoName) (s : TagName) → tag_at (with_blobs c r blobs) q s ≡ tag_at c q s
blobs_tag c r [] q s = refl
blobs_tag c r (bytes ∷ blobs) q s =
    blobs_tag (with_blob c r (digest_of bytes) bytes) r blobs q s ∙ tag_at-with_blob c r (digest_of bytes) bytes q s
