-- Whole graphs: that they stay as a content grows, that more levels are allowed where fewer will do,
-- and how one is made of its children.
use Rattle.std.proofs.Common.{◌≡◌, refl, ap, subst, ◌∙◌, ℕ, zero, suc, ◌+◌, ◌-◌, ◌≤◌, List, length, arith}
use Rattle.std.specs.Prelude.{Option, Some, None, option_map}
use Rattle.std.specs.List.{AllByRecursion}
use Rattle.hr_digest.specs.declared.digest.Digest.{Digest}
use Rattle.hr_event.specs.declared.reference.Fetched.{Fetched}
use Rattle.hr_manifest.specs.Reading.{Reads}
use Rattle.hr_manifest.specs.declared.child.Child.{Child}
use Rattle.hr_manifest.specs.declared.child.ChildKind.{ChildKind}
use Rattle.hr_manifest.specs.declared.child.ChildKind.TheVariants.{Manifest, Blob, Foreign}
use Rattle.hr_adapter.specs.Content.{Content, manifest_at}
use Rattle.hr_journal.specs.Graph.{Stands, Graph, Closed, StandsUnder}
use Rattle.hr_journal.specs.Grows.{Grows, KeepsManifest}
use Rattle.hr_name.specs.Name.{RepoName}
use Rattle.hr_journal.proofs.ListLaws.{each_then}

-- ---- growth upon growth is growth

pub grows_itself : (c : Content) → Grows c c
grows_itself c = record {
  blobs = λ repo d len is. is;
  manifests = λ repo d m is. record { stored = m; there = is; bytes = refl; reads = λ kids reads. reads };
}

keeps_on : (a : Fetched) (b c : Option Fetched) → (first : KeepsManifest a b) → KeepsManifest first.stored c → KeepsManifest a c
keeps_on a b c first next = record {
  stored = next.stored;
  there = next.there;
  bytes = next.bytes ∙ first.bytes;
  reads = λ kids reads. next.reads kids (first.reads kids reads);
}

pub grows_on : (a b c : Content) → Grows a b → Grows b c → Grows a c
grows_on a b c first next = record {
  blobs = λ repo d len is. next.blobs repo d len (first.blobs repo d len is);
  manifests = λ repo d m is.
      let kept = first.manifests repo d m is in
      keeps_on m (manifest_at b repo d) (manifest_at c repo d) kept (next.manifests repo d kept.stored kept.there);
}

-- ---- what stands goes on standing

length_kept : (before now : Option Fetched) → ((m : Fetched) → before ≡ Some m → KeepsManifest m now) → (size : ℕ)
    → option_map (λ m. length m.bytes) before ≡ Some size
    → option_map (λ m. length m.bytes) now ≡ Some size
length_kept (Some m) now keeps size is =
    let kept = keeps m refl in
    ap (option_map (λ f. length f.bytes)) kept.there ∙ ap (λ bytes. Some (length bytes)) kept.bytes ∙ is
length_kept None now keeps size is = cc

pub stands_grow : {P Q : Digest → Type 0} (b c : Content) (repo : RepoName) → Grows b c
    → ((d : Digest) → P d → Q d) → (kind : ChildKind) (d : Digest) (size : ℕ)
    → Stands P b repo kind d size → Stands Q c repo kind d size
stands_grow b c repo grows f Manifest d size stands =
    (length_kept (manifest_at b repo d) (manifest_at c repo d) (grows.manifests repo d) size stands.0, f d stands.1)
stands_grow b c repo grows f Blob d size stands = grows.blobs repo d size stands
stands_grow b c repo grows f Foreign d size stands = tt

graph_grow : {P Q : Digest → Type 0} (b c : Content) (repo : RepoName) → Grows b c
    → ((d : Digest) → P d → Q d) → (d : Digest) → Graph P b repo d → Graph Q c repo d
graph_grow {P} {Q} b c repo grows f d graph =
    let kept = grows.manifests repo d graph.stored graph.there in record {
      stored = kept.stored;
      kids = graph.kids;
      there = kept.there;
      reads = kept.reads graph.kids graph.reads;
      each = each_then {P = λ kid. Stands P b repo kid.kind kid.digest kid.size}
          {Q = λ kid. Stands Q c repo kid.kind kid.digest kid.size}
          (λ kid stands. stands_grow {P = P} {Q = Q} b c repo grows f kid.kind kid.digest kid.size stands)
          graph.kids graph.each;
    }

pub closed_grow : (n : ℕ) (b c : Content) (repo : RepoName) → Grows b c → (d : Digest)
    → Closed n b repo d → Closed n c repo d
closed_grow zero b c repo grows d closed =
    graph_grow {P = λ _. ⊥} {Q = λ _. ⊥} b c repo grows (λ e bad. bad) d closed
closed_grow (suc n) b c repo grows d closed =
    graph_grow {P = Closed n b repo} {Q = Closed n c repo} b c repo grows (closed_grow n b c repo grows) d closed

pub stands_closed_grow : (n : ℕ) (b c : Content) (repo : RepoName) → Grows b c
    → (kind : ChildKind) (d : Digest) (size : ℕ)
    → Stands (Closed n b repo) b repo kind d size → Stands (Closed n c repo) c repo kind d size
stands_closed_grow n b c repo grows kind d size stands =
    stands_grow {P = Closed n b repo} {Q = Closed n c repo} b c repo grows (closed_grow n b c repo grows) kind d size stands

-- ---- more levels

pub closed_more : (n : ℕ) (c : Content) (repo : RepoName) (d : Digest) → Closed n c repo d → Closed (suc n) c repo d
closed_more zero c repo d closed =
    graph_grow {P = λ _. ⊥} {Q = Closed zero c repo} c c repo (grows_itself c) (λ e bad. absurd bad) d closed
closed_more (suc n) c repo d closed =
    graph_grow {P = Closed n c repo} {Q = Closed (suc n) c repo} c c repo (grows_itself c) (closed_more n c repo) d closed

closed_by : (k n m : ℕ) → k + n ≡ m → (c : Content) (repo : RepoName) (d : Digest) → Closed n c repo d → Closed m c repo d
closed_by zero n m sum c repo d closed =
    let same : n ≡ m = omega arith in subst (λ (i : ℕ). Closed i c repo d) same closed
closed_by (suc k) n m sum c repo d closed = closed_by k (suc n) m (omega arith) c repo d (closed_more n c repo d closed)

pub closed_up : (n m : ℕ) → n ≤ m → (c : Content) (repo : RepoName) (d : Digest) → Closed n c repo d → Closed m c repo d
closed_up n m le c repo d closed = closed_by (m - n) n m (omega arith) c repo d closed

pub stands_up : (n m : ℕ) → n ≤ m → (c : Content) (repo : RepoName) (kind : ChildKind) (d : Digest) (size : ℕ)
    → Stands (Closed n c repo) c repo kind d size → Stands (Closed m c repo) c repo kind d size
stands_up n m le c repo kind d size stands =
    stands_grow {P = Closed n c repo} {Q = Closed m c repo} c c repo (grows_itself c) (closed_up n m le c repo) kind d size stands

-- ---- made of its children

none_under : (c : Content) (repo : RepoName) (kind : ChildKind) (d : Digest) (size : ℕ)
    → StandsUnder zero c repo kind d size → Stands (λ _. ⊥) c repo kind d size
none_under c repo Manifest d size (h, below, stands) = absurd (omega arith)
none_under c repo Blob d size stands = stands
none_under c repo Foreign d size stands = stands

pub stands_under : (n : ℕ) (c : Content) (repo : RepoName) (kind : ChildKind) (d : Digest) (size : ℕ)
    → StandsUnder (suc n) c repo kind d size → Stands (Closed n c repo) c repo kind d size
stands_under n c repo Manifest d size (h, below, stands) =
    stands_up h n (omega arith) c repo Manifest d size stands
stands_under n c repo Blob d size stands = stands
stands_under n c repo Foreign d size stands = stands

-- a manifest whose children stand, each nesting fewer levels, stands whole
pub closed_made : (n : ℕ) (c : Content) (repo : RepoName) (d : Digest) (stored : Fetched) (kids : List Child)
    → manifest_at c repo d ≡ Some stored → Reads stored.media stored.bytes kids
    → AllByRecursion (λ kid. StandsUnder n c repo kid.kind kid.digest kid.size) kids → Closed n c repo d
closed_made zero c repo d stored kids there reads each = record {
  stored = stored;
  kids = kids;
  there = there;
  reads = reads;
  each = each_then {P = λ kid. StandsUnder zero c repo kid.kind kid.digest kid.size}
      {Q = λ kid. Stands (λ _. ⊥) c repo kid.kind kid.digest kid.size}
      (λ kid. none_under c repo kid.kind kid.digest kid.size) kids each;
}
closed_made (suc n) c repo d stored kids there reads each = record {
  stored = stored;
  kids = kids;
  there = there;
  reads = reads;
  each = each_then {P = λ kid. StandsUnder (suc n) c repo kid.kind kid.digest kid.size}
      {Q = λ kid. Stands (Closed n c repo) c repo kid.kind kid.digest kid.size}
      (λ kid. stands_under n c repo kid.kind kid.digest kid.size) kids each;
}
