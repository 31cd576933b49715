-- What is reached in a graph that stands whole: it is there, with its size, and not too deep.
use Rattle.std.proofs.Common.{◌≡◌, refl, sym, ap, subst, ◌∙◌, ℕ, zero, suc, ◌+◌, List, length, arith}
use Rattle.std.specs.Prelude.{Option, Some, None, option_map, ⊤}
use Rattle.std.specs.List.{AllByRecursion}
use Rattle.hr_digest.specs.declared.digest.Digest.{Digest}
use Rattle.hr_base.specs.Bytes.{ByteList}
use Rattle.hr_name.specs.Name.{RepoName}
use Rattle.hr_event.specs.declared.reference.Fetched.{Fetched}
use Rattle.hr_manifest.specs.Manifest.{Parts}
use Rattle.hr_manifest.specs.Reading.{Reads}
use Rattle.hr_manifest.specs.declared.child.Child.{Child}
use Rattle.hr_manifest.specs.declared.child.ChildKind.{ChildKind}
use Rattle.hr_manifest.specs.declared.child.ChildKind.TheVariants as kind
use Rattle.hr_manifest.proofs.ReadingLaws.{reads_once}
use Rattle.hr_graph.specs.Reached.{AreTooMany, HasLen, IsReachable, IsTooDeep, IsUnsized, ListsChild, Reached}
use Rattle.hr_graph.proofs.ReachedLaws.{reached_more}
use Rattle.hr_adapter.specs.Content.{Content, blob_at, manifest_at}
use Rattle.hr_journal.specs.Graph.{Closed, Graph, Stands, StandsWhole}
use Rattle.hr_journal.proofs.ListLaws.{each_has, each_then}
use Rattle.hr_line.specs.Destination.{stored_of}
use Rattle.hr_whole.specs.Whole.{HasFewPairs, IsHere}

-- a manifest with fewer levels below it than so many
abbrev pub Inside : ℕ → Content → RepoName → Digest → Type 0
Inside zero c repo d = ⊥
Inside (suc n) c repo d = Closed n c repo d

same_len : {o : Option ℕ} (a b : ℕ) → o ≡ Some a → o ≡ Some b → a ≡ b
same_len a b p q = cc

-- what has a length is there
long_blob : (o : Option ByteList) (len : ℕ) → option_map length o ≡ Some len
    → (bytes : ByteList) × (o ≡ Some bytes) × (length bytes ≡ len)
long_blob (Some bytes) len is = (bytes, refl, (let e : length bytes ≡ len = cc in e))
long_blob None len is = cc

module _ (c : Content) (repo : RepoName) where
  abbrev StandsIn : ℕ → Child → Type 0
  StandsIn n kid = Stands (Inside n c repo) c repo kid.kind kid.digest kid.size

  same_kids : (P : Digest → Type 0) (d : Digest) (parts : Parts) → IsHere c repo d parts → (g : Graph P c repo d)
      → g.kids ≡ parts.children
  same_kids P d parts here g =
      let e : Some g.stored ≡ Some (stored_of parts) = sym g.there ∙ here.there in
      let same : g.stored ≡ stored_of parts = cc in
      let bytes : g.stored.bytes ≡ parts.bytes = ap (λ (m : Fetched). m.bytes) same in
      reads_once g.stored.media parts.media parts.bytes g.kids parts.children
      (subst (λ (b : ByteList). Reads g.stored.media b g.kids) bytes g.reads) here.reads

  graph_kids : (P : Digest → Type 0) (d : Digest) (parts : Parts) → IsHere c repo d parts → Graph P c repo d
      → AllByRecursion (λ kid. Stands P c repo kid.kind kid.digest kid.size) parts.children
  graph_kids P d parts here g =
      subst (λ (kids : List Child). AllByRecursion (λ kid. Stands P c repo kid.kind kid.digest kid.size) kids)
      (same_kids P d parts here g) g.each

  kids_stand : (n : ℕ) (d : Digest) (parts : Parts) → IsHere c repo d parts → Closed n c repo d
      → AllByRecursion (StandsIn n) parts.children
  kids_stand zero d parts here closed = graph_kids (λ _. ⊥) d parts here closed
  kids_stand (suc n) d parts here closed = graph_kids (Closed n c repo) d parts here closed

  inside_some : (n : ℕ) (d : Digest) → Inside n c repo d → (m : ℕ) × (n ≡ suc m) × Closed m c repo d
  inside_some zero d inside = absurd inside
  inside_some (suc m) d inside = (m, refl, inside)

  kid_manifest : (n : ℕ) (kid : Child) → kid.kind ≡ kind.Manifest → StandsIn n kid
      → (option_map (λ m. length m.bytes) (manifest_at c repo kid.digest) ≡ Some kid.size) × Inside n c repo kid.digest
  kid_manifest n kid is stands =
      subst (λ (k : ChildKind). Stands (Inside n c repo) c repo k kid.digest kid.size) is stands

  -- what a whole graph begins with is there, and readable
  pub is_there : (n : ℕ) (d : Digest) → Closed n c repo d
      → (m : Fetched) × (kids : List Child) × (manifest_at c repo d ≡ Some m) × Reads m.media m.bytes kids
  is_there zero d closed = (closed.stored, closed.kids, closed.there, closed.reads)
  is_there (suc n) d closed = (closed.stored, closed.kids, closed.there, closed.reads)

  module _ (R : Digest → Parts → Type 0) (here : (d : Digest) (parts : Parts) → R d parts → IsHere c repo d parts) where
    -- a listed child stands there as its manifest says
    listed_stands : (n : ℕ) (d : Digest) (kid : Child) → Closed n c repo d → ListsChild R d kid → StandsIn n kid
    listed_stands n d kid closed listed =
        each_has (StandsIn n) listed.manifest.children
        (kids_stand n d listed.manifest (here d listed.manifest listed.read) closed) kid listed.within

    -- what is reached has the levels that are left
    pub reached_closed : (l n : ℕ) (root d : Digest) → Closed n c repo root → Reached R l root kind.Manifest d
        → (r : ℕ) × (r + l ≡ n) × Closed r c repo d
    reached_closed zero n root d closed at = (n, omega arith, subst (λ (x : Digest). Closed n c repo x) (sym at.1) closed)
    reached_closed (suc l) n root d closed at =
        let up = reached_closed l n root at.0 closed at.1 in
        let kid = at.2.0 in
        let stands = listed_stands up.0 at.0 kid up.2 at.2.1 in
        let inside = inside_some up.0 kid.digest (kid_manifest up.0 kid at.2.2 stands).1 in
        (inside.0, omega (arith, up.1, inside.1), subst (λ (x : Digest). Closed inside.0 c repo x) at.2.3 inside.2)

    -- a blob that is reached is there
    pub reached_blob : (l : ℕ) (root d : Digest) → StandsWhole c repo root → Reached R l root kind.Blob d
        → (bytes : ByteList) × (blob_at c repo d ≡ Some bytes)
    reached_blob zero root d whole at = absurd (let no = at.0 in let bad : ⊥ = cc in bad)
    reached_blob (suc l) root d whole at =
        let up = reached_closed l 8 root at.0 whole at.1 in
        let kid = at.2.0 in
        let stands : option_map length (blob_at c repo kid.digest) ≡ Some kid.size =
        subst (λ (k : ChildKind). Stands (Inside up.0 c repo) c repo k kid.digest kid.size) at.2.2
        (listed_stands up.0 at.0 kid up.2 at.2.1) in
        let found = long_blob (blob_at c repo kid.digest) kid.size stands in
        (found.0, subst (λ (x : Digest). blob_at c repo x ≡ Some found.0) at.2.3 found.1)

    -- nothing of a whole graph is too deep
    pub not_deep : (root d : Digest) → StandsWhole c repo root → IsTooDeep R root d → ⊥
    not_deep root d whole deep =
        let at = reached_closed deep.level 8 root d whole deep.there in
        let low = reached_closed deep.height at.0 d deep.lowest at.2 deep.below in
        omega (arith, at.1, low.1, deep.deep)

    -- no more pairs are reached than a walk may meet, where so it is of all that is there
    pub not_many : (root : Digest) → HasFewPairs c repo root → AreTooMany R root → ⊥
    not_many root few many = few (record {
      blobs = many.blobs;
      manifests = many.manifests;
      once_blobs = many.once_blobs;
      once_manifests = many.once_manifests;
      each_blob = each_then {P = IsReachable R root kind.Blob} {Q = IsReachable (IsHere c repo) root kind.Blob}
          (λ d at. (at.0, more at.0 root kind.Blob d at.1)) many.blobs many.each_blob;
      each_manifest = each_then {P = IsReachable R root kind.Manifest} {Q = IsReachable (IsHere c repo) root kind.Manifest}
          (λ d at. (at.0, more at.0 root kind.Manifest d at.1)) many.manifests many.each_manifest;
      many = many.many;
    })
      where
        more : (l : ℕ) (root : Digest) (k : ChildKind) (d : Digest) → Reached R l root k d → Reached (IsHere c repo) l root k d
        more = reached_more R (IsHere c repo) (λ _ _. ⊤) (λ _ _. ⊤) here (λ d n is. is)

    module _ (B : Digest → ℕ → Type 0)
        (long : (d : Digest) (len : ℕ) (bytes : ByteList) → B d len → blob_at c repo d ≡ Some bytes → length bytes ≡ len) where
      -- a child that stands with its size has no other length
      len_is : (n : ℕ) (k : ChildKind) (d : Digest) (size got : ℕ) → Stands (Inside n c repo) c repo k d size → HasLen R B k d got
          → got ≡ size
      len_is n kind.Manifest d size got stands has =
          let there : option_map (λ (m : Fetched). length m.bytes) (manifest_at c repo d) ≡ Some got =
          ap (option_map (λ (m : Fetched). length m.bytes)) (here d has.0 has.1).there ∙ ap Some has.2 in
          same_len got size there stands.0
      len_is n kind.Blob d size got stands has =
          let found = long_blob (blob_at c repo d) size stands in
          sym (long d got found.0 has found.1) ∙ found.2
      len_is n kind.Foreign d size got stands has = absurd has

      -- no child of a whole graph has another size than its descriptor says
      pub not_unsized : (root d : Digest) (said got : ℕ) → StandsWhole c repo root → IsUnsized R B root d said got → ⊥
      not_unsized root d said got whole u =
          let at = reached_closed u.there.0 8 root u.parent whole u.there.1 in
          let stands = listed_stands at.0 u.parent u.child at.2 u.listed in
          let has = subst (λ (x : Digest). HasLen R B u.child.kind x got) (sym u.digest_is) u.known_len in
          u.other (sym u.size_is ∙ sym (len_is at.0 u.child.kind u.child.digest u.child.size got stands has))
