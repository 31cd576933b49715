-- What stands at the destination stood there at the opening, or an entry stands for it.
use Rattle.std.proofs.Common.{◌≡◌, inl, inr, sym, ap, subst, ◌∙◌, ℕ, List, [], ◌∷◌, length}
use Rattle.std.specs.Prelude.{Some, option_map}
use Rattle.hr_digest.specs.declared.digest.Digest.{Digest}
use Rattle.hr_event.specs.declared.reference.Fetched.{Fetched}
use Rattle.hr_event.specs.declared.entry.Entry.{Entry}
use Rattle.hr_adapter.specs.Content.{Content, blob_at, manifest_at, with_blob, with_manifest}
use Rattle.hr_adapter.proofs.ContentLaws.{blob_at-with_blob-cases, blob_at-with_manifest, blob_at-with_tag, manifest_at-with_blob, manifest_at-with_manifest-cases, manifest_at-with_tag}
use Rattle.hr_journal.specs.OneEach.{Means, Measures}
use Rattle.hr_journal.specs.Puts.{Puts}
use Rattle.hr_journal.proofs.ChangeLemmas.{Change, does_change}
use Rattle.hr_journal.proofs.LogLemmas.{means_later, measures_later}
use Rattle.hr_base.specs.Bytes.{ByteList}
use Rattle.hr_name.specs.Name.{RepoName}
use Rattle.hr_journal.specs.Says.{Placement}

-- ---- manifests

put_means : (to : Placement) (o : Content) (es : List Entry) (b : Content) (repo : RepoName) (d : Digest) (m : Fetched)
    → Means to o es d m.bytes
    → ((q : RepoName) (e : Digest) (x : Fetched) → manifest_at b q e ≡ Some x → Means to o es e x.bytes)
    → (q : RepoName) (e : Digest) (x : Fetched) → manifest_at (with_manifest b repo d m) q e ≡ Some x
    → Means to o es e x.bytes
put_means to o es b repo d m means before q e x is =
    elim (manifest_at-with_manifest-cases b repo d m q e) [
      | inl at ↦
          let stored : m ≡ x = cc (at.2, is) in
          subst (λ (f : Fetched). Means to o es e f.bytes) stored
          (subst (λ (k : Digest). Means to o es k m.bytes) (sym at.1) means)
      | inr same ↦ before q e x (sym same ∙ is)
    ]

change_means : (to : Placement) (o : Content) (es : List Entry) (b c : Content) → Change to o es b c
    → ((q : RepoName) (e : Digest) (x : Fetched) → manifest_at b q e ≡ Some x → Means to o es e x.bytes)
    → (q : RepoName) (e : Digest) (x : Fetched) → manifest_at c q e ≡ Some x → Means to o es e x.bytes
change_means to o es b c (Change.same same) before q e x is =
    before q e x (ap (λ y. manifest_at y q e) (sym same) ∙ is)
change_means to o es b c (Change.blob repo d bytes own measures after) before q e x is =
    before q e x (sym (manifest_at-with_blob b repo d bytes q e) ∙ ap (λ y. manifest_at y q e) (sym after) ∙ is)
change_means to o es b c (Change.manifest repo d m kids own means reads after) before q e x is =
    put_means to o es b repo d m means before q e x (ap (λ y. manifest_at y q e) (sym after) ∙ is)
change_means to o es b c (Change.shown repo tag d m kids own means reads after) before q e x is =
    put_means to o es b repo d m means before q e x
    (sym (manifest_at-with_tag (with_manifest b repo d m) repo tag d q e) ∙ ap (λ y. manifest_at y q e) (sym after) ∙ is)

-- the opening or an entry stands for each manifest that is there
pub puts_mean : (to : Placement) (o : Content) (log : List Entry) (b : Content) → Puts to o log b
    → (repo : RepoName) (d : Digest) (stored : Fetched) → manifest_at b repo d ≡ Some stored
    → Means to o log d stored.bytes
puts_mean to o [] b puts repo d stored is =
    Means.opened repo stored.media (ap (λ y. manifest_at y repo d) (sym puts) ∙ is)
puts_mean to o (e ∷ es) c puts repo d stored is =
    means_later to o e es d stored.bytes
    (change_means to o es puts.0 c (does_change to o e es puts.0 c puts.2)
    (puts_mean to o es puts.0 puts.1) repo d stored is)

-- ---- blobs

put_measures : (to : Placement) (o : Content) (es : List Entry) (b : Content) (repo : RepoName) (d : Digest) (bytes : ByteList)
    → Measures to o es d (length bytes)
    → ((q : RepoName) (e : Digest) (n : ℕ) → option_map length (blob_at b q e) ≡ Some n → Measures to o es e n)
    → (q : RepoName) (e : Digest) (n : ℕ) → option_map length (blob_at (with_blob b repo d bytes) q e) ≡ Some n
    → Measures to o es e n
put_measures to o es b repo d bytes measures before q e n is =
    elim (blob_at-with_blob-cases b repo d bytes q e) [
      | inl at ↦
          let whole : option_map length (blob_at (with_blob b repo d bytes) q e) ≡ Some (length bytes) = ap (option_map length) at.2 in
          let len : length bytes ≡ n = cc (whole, is) in
          subst (λ (k : ℕ). Measures to o es e k) len
          (subst (λ (k : Digest). Measures to o es k (length bytes)) (sym at.1) measures)
      | inr same ↦ before q e n (ap (option_map length) (sym same) ∙ is)
    ]

change_measures : (to : Placement) (o : Content) (es : List Entry) (b c : Content) → Change to o es b c
    → ((q : RepoName) (e : Digest) (n : ℕ) → option_map length (blob_at b q e) ≡ Some n → Measures to o es e n)
    → (q : RepoName) (e : Digest) (n : ℕ) → option_map length (blob_at c q e) ≡ Some n → Measures to o es e n
change_measures to o es b c (Change.same same) before q e n is =
    before q e n (ap (λ y. option_map length (blob_at y q e)) (sym same) ∙ is)
change_measures to o es b c (Change.blob repo d bytes own measures after) before q e n is =
    put_measures to o es b repo d bytes measures before q e n
    (ap (λ y. option_map length (blob_at y q e)) (sym after) ∙ is)
change_measures to o es b c (Change.manifest repo d m kids own means reads after) before q e n is =
    before q e n (ap (option_map length) (sym (blob_at-with_manifest b repo d m q e))
    ∙ ap (λ y. option_map length (blob_at y q e)) (sym after) ∙ is)
change_measures to o es b c (Change.shown repo tag d m kids own means reads after) before q e n is =
    before q e n (ap (option_map length) (sym (blob_at-with_manifest b repo d m q e))
    ∙ ap (option_map length) (sym (blob_at-with_tag (with_manifest b repo d m) repo tag d q e))
    ∙ ap (λ y. option_map length (blob_at y q e)) (sym after) ∙ is)

-- the opening or an entry stands for the length of each blob that is there
pub puts_measure : (to : Placement) (o : Content) (log : List Entry) (b : Content) → Puts to o log b
    → (repo : RepoName) (d : Digest) (len : ℕ) → option_map length (blob_at b repo d) ≡ Some len
    → Measures to o log d len
puts_measure to o [] b puts repo d len is =
    Measures.opened repo (ap (λ y. option_map length (blob_at y repo d)) (sym puts) ∙ is)
puts_measure to o (e ∷ es) c puts repo d len is =
    measures_later to o e es d len
    (change_measures to o es puts.0 c (does_change to o e es puts.0 c puts.2)
    (puts_measure to o es puts.0 puts.1) repo d len is)
