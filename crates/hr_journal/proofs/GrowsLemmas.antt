-- An entry loses nothing, as long as no digest stands for two contents.
use Rattle.std.proofs.Common.{◌≡◌, inl, inr, refl, sym, ap, subst, ◌∙◌, ℕ, List, ◌∷◌, length}
use Rattle.std.specs.Prelude.{Some, option_map}
use Rattle.hr_digest.specs.declared.digest.Digest.{Digest}
use Rattle.hr_event.specs.declared.reference.Fetched.{Fetched}
use Rattle.hr_event.specs.declared.entry.Entry.{Entry}
use Rattle.hr_manifest.specs.Reading.{Reads}
use Rattle.hr_manifest.specs.declared.child.Child.{Child}
use Rattle.hr_adapter.specs.Content.{Content, blob_at, manifest_at, with_blob, with_manifest, with_tag}
use Rattle.hr_adapter.proofs.ContentLaws.{blob_at-with_blob-cases, blob_at-with_manifest, blob_at-with_tag, manifest_at-with_blob, manifest_at-with_manifest-cases, manifest_at-with_tag}
use Rattle.hr_journal.specs.Grows.{Grows}
use Rattle.hr_journal.specs.OneEach.{Means, Measures, OneEach}
use Rattle.hr_journal.specs.Puts.{Puts, Does}
use Rattle.hr_journal.proofs.BackLemmas.{puts_mean, puts_measure}
use Rattle.hr_journal.proofs.ChangeLemmas.{Change, does_change}
use Rattle.hr_journal.proofs.ClosedLemmas.{grows_itself, grows_on}
use Rattle.hr_journal.proofs.LogLemmas.{each_before}
use Rattle.hr_journal.proofs.ReadLemmas.{one_reading}
use Rattle.hr_base.specs.Bytes.{ByteList}
use Rattle.hr_name.specs.Name.{RepoName}
use Rattle.hr_name.specs.Tag.{TagName}
use Rattle.hr_journal.specs.Says.{Placement}

-- ---- one put

pub grows_blob : (b : Content) (repo : RepoName) (d : Digest) (bytes : ByteList)
    → ((len : ℕ) → option_map length (blob_at b repo d) ≡ Some len → len ≡ length bytes)
    → Grows b (with_blob b repo d bytes)
grows_blob b repo d bytes alike = record {
  blobs = λ q e len is. elim (blob_at-with_blob-cases b repo d bytes q e) [
    | inl at ↦
        let held : option_map length (blob_at b repo d) ≡ Some len =
        ap (λ k. option_map length (blob_at b repo k)) (sym at.1)
        ∙ ap (λ k. option_map length (blob_at b k e)) (sym at.0) ∙ is in
        ap (option_map length) at.2 ∙ ap Some (sym (alike len held))
    | inr unmoved ↦ ap (option_map length) unmoved ∙ is
  ];
  manifests = λ q e m is. record {
    stored = m;
    there = manifest_at-with_blob b repo d bytes q e ∙ is;
    bytes = refl;
    reads = λ kids reads. reads;
  };
}

-- the same text under another media type has the same children
same_kids : (before m : Fetched) (kids : List Child) → m.bytes ≡ before.bytes → Reads m.media m.bytes kids
    → (others : List Child) → Reads before.media before.bytes others → Reads m.media m.bytes others
same_kids before m kids same reads others was =
    let again : Reads before.media m.bytes others = subst (λ (x : ByteList). Reads before.media x others) (sym same) was in
    subst (λ (x : List Child). Reads m.media m.bytes x) (one_reading m.media before.media m.bytes kids others reads again) reads

pub grows_manifest : (b : Content) (repo : RepoName) (d : Digest) (m : Fetched) (kids : List Child)
    → Reads m.media m.bytes kids
    → ((before : Fetched) → manifest_at b repo d ≡ Some before → before.bytes ≡ m.bytes)
    → Grows b (with_manifest b repo d m)
grows_manifest b repo d m kids reads alike = record {
  blobs = λ q e len is. ap (option_map length) (blob_at-with_manifest b repo d m q e) ∙ is;
  manifests = λ q e before is. elim (manifest_at-with_manifest-cases b repo d m q e) [
    | inl at ↦
        let held : manifest_at b repo d ≡ Some before =
        ap (λ k. manifest_at b repo k) (sym at.1) ∙ ap (λ k. manifest_at b k e) (sym at.0) ∙ is in
        let bytes : m.bytes ≡ before.bytes = sym (alike before held) in
        record { stored = m; there = at.2; bytes = bytes; reads = same_kids before m kids bytes reads }
    | inr unmoved ↦
        record { stored = before; there = unmoved ∙ is; bytes = refl; reads = λ others was. was }
  ];
}

pub grows_tag : (b : Content) (repo : RepoName) (tag : TagName) (d : Digest) → Grows b (with_tag b repo tag d)
grows_tag b repo tag d = record {
  blobs = λ q e len is. ap (option_map length) (blob_at-with_tag b repo tag d q e) ∙ is;
  manifests = λ q e m is. record {
    stored = m;
    there = manifest_at-with_tag b repo tag d q e ∙ is;
    bytes = refl;
    reads = λ kids reads. reads;
  };
}

-- ---- one entry

change_grows : (to : Placement) (o : Content) (es : List Entry) (b c : Content) → OneEach to o es
    → ((q : RepoName) (e : Digest) (x : Fetched) → manifest_at b q e ≡ Some x → Means to o es e x.bytes)
    → ((q : RepoName) (e : Digest) (n : ℕ) → option_map length (blob_at b q e) ≡ Some n → Measures to o es e n)
    → Change to o es b c → Grows b c
change_grows to o es b c each means measures (Change.same same) =
    subst (λ (x : Content). Grows b x) (sym same) (grows_itself b)
change_grows to o es b c each means measures (Change.blob repo d bytes own long after) =
    subst (λ (x : Content). Grows b x) (sym after)
    (grows_blob b repo d bytes (λ len is. each.blobs d len (length bytes) (measures repo d len is) long))
change_grows to o es b c each means measures (Change.manifest repo d m kids own meant reads after) =
    subst (λ (x : Content). Grows b x) (sym after)
    (grows_manifest b repo d m kids reads (λ before is. each.manifests d before.bytes m.bytes (means repo d before is) meant))
change_grows to o es b c each means measures (Change.shown repo tag d m kids own meant reads after) =
    subst (λ (x : Content). Grows b x) (sym after)
    (grows_on b (with_manifest b repo d m) (with_tag (with_manifest b repo d m) repo tag d)
    (grows_manifest b repo d m kids reads (λ before is. each.manifests d before.bytes m.bytes (means repo d before is) meant))
    (grows_tag (with_manifest b repo d m) repo tag d))

-- what an entry does loses nothing of what the entries before it left
pub does_grow : (to : Placement) (o : Content) (e : Entry) (es : List Entry) (b c : Content)
    → Puts to o es b → Does to e es b c → OneEach to o (e ∷ es) → Grows b c
does_grow to o e es b c puts does each =
    change_grows to o es b c (each_before to o e es each) (puts_mean to o es b puts) (puts_measure to o es b puts)
    (does_change to o e es b c does)
