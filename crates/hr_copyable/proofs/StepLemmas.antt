-- What a canonical line makes of the content of its registry: each tag there leads to a graph that
-- stands whole.
use Rattle.std.proofs.Common.{◌≡◌, ◌<◌, ◌≤◌, ◌^◌, ◌&&◌, cond, inl, inr, ℕ, suc, Bool, true, false, List, [], ◌∷◌, length, map, Some, refl, sym, ap, subst, ◌∙◌, arith}
use Rattle.std.specs.Prelude.{nat_eq}
use Rattle.std.specs.List.{AllByRecursion}
use Rattle.std.specs.Str.{bytes_eq}
use Rattle.std.proofs.lemmas.Bool.{eq-eqb}
use Rattle.std.proofs.lemmas.Slice.Eq.{bytes_eq-Decides}
use Rattle.hr_base.specs.Bytes.{ByteList, Media}
use Rattle.hr_base.specs.declared.number.RegNo.{RegNo}
use Rattle.hr_digest.specs.Digest.{digest_of}
use Rattle.hr_digest.specs.declared.digest.Digest.{Digest}
use Rattle.hr_name.specs.Name.{RepoName}
use Rattle.hr_name.specs.Tag.{TagName}
use Rattle.hr_event.specs.declared.reference.Reference.TheVariants as by
use Rattle.hr_manifest.specs.Canonical.{config_of, image_children, image_media, image_text, index_media, index_text, layer_of}
use Rattle.hr_manifest.specs.Reading.{Reads}
use Rattle.hr_manifest.specs.Writable.{IsListed, IsWritable}
use Rattle.hr_manifest.specs.declared.child.Child.{Child}
use Rattle.hr_manifest.specs.declared.manifest.TheConstants.{CHILD_LIMIT}
use Rattle.hr_base.specs.declared.limit.TheConstants.{MANIFEST_LIMIT}
use Rattle.hr_adapter.specs.Content.{Content, blob_at, tag_at}
use Rattle.hr_adapter.specs.Put.{as_manifest, put_under}
use Rattle.hr_adapter.specs.declared.registry.TheConstants.{BLOB_LIMIT}
use Rattle.hr_adapter.proofs.ContentLaws.{tag_at-with_manifest}
use Rattle.hr_adapter.proofs.PutLaws.{blob_at-put_under, manifest_at-put_under-same, tag_at-put_under-cases, tag_at-put_under-same}
use Rattle.hr_journal.proofs.ListLaws.{each_then}
use Rattle.hr_opening.specs.Stored.{children_of, config_text, with_blobs, with_image, with_index, with_orphan}
use Rattle.hr_script.specs.declared.line.Line.{Line}
use Rattle.hr_script.specs.declared.line.Line.TheVariants as line
use Rattle.hr_copyable.specs.Canonical.{IsWithin, Tree, at_tag, image_tree, index_tree, is_same_tag, tree_of, trees_of}
use Rattle.hr_copyable.proofs.DigestLemmas.{whole_digest}
use Rattle.hr_copyable.proofs.FormLemmas.{IsForm}
use Rattle.hr_copyable.proofs.HoldLemmas.{IsOf, Keeps, blobs_keep, blobs_of, blobs_tag, blobs_there, keeps_then, manifest_keeps, manifest_of, some_same, tagged_keeps, tagged_of}
use Rattle.hr_copyable.proofs.KidLemmas.{AreKids, IsGood, index_tree_is, kids_count, kids_found, kids_good, kids_keep}
use Rattle.hr_copyable.proofs.LengthLemmas.{IsShort, image_short, index_short}
use Rattle.hr_copyable.proofs.TreeLemmas.{IsTree, image_tree_of, tree_keeps}

-- what is written reads back
abbrev pub ImagesReadBack : Type 0
ImagesReadBack = (config : ByteList) (layers : List ByteList) → length config < 2 ^ 63
    → AllByRecursion (λ layer. length layer < 2 ^ 63) layers → length layers < CHILD_LIMIT
    → length (image_text config layers) ≤ MANIFEST_LIMIT
    → Reads image_media (image_text config layers) (image_children config layers)

abbrev pub IndexesReadBack : Type 0
IndexesReadBack = (children : List Child) → AllByRecursion IsWritable children
    → AllByRecursion IsListed children → length children ≤ CHILD_LIMIT
    → length (index_text children) ≤ MANIFEST_LIMIT
    → Reads index_media (index_text children) children

-- the graph of a manifest stands there, within the limits
pub record IsWholeTree (c : Content) (repo : RepoName) (d : Digest) (tree : Tree) : Type 0 where
  pub graph : IsTree c repo d tree
  pub within : IsWithin tree

whole_keeps : (b c : Content) (repo : RepoName) (d : Digest) (tree : Tree) → Keeps b c → IsWholeTree b repo d tree → IsWholeTree c repo d tree
whole_keeps b c repo d tree keeps is = record { graph = tree_keeps b c repo d tree keeps is.graph; within = is.within }

-- a content after these lines, the newest first: it is of these texts, and each tag leads to a graph
-- that stands whole
pub record Stands (T : ByteList → Type 0) (before : List Line) (reg : RegNo) (c : Content) : Type 0 where
  pub of : IsOf T c
  pub graphs : (repo : RepoName) (tag : TagName) (d : Digest) → tag_at c repo tag ≡ Some d
      → IsWholeTree c repo d (tree_of before (at_tag reg repo tag))

-- ---- the same tag, or another

and_true : (a b : Bool) → (a && b) ≡ true → (a ≡ true) × (b ≡ true)
and_true true b e = (refl, e)
and_true false b e = cc e

eq_itself : (n : ℕ) → nat_eq n n ≡ true
eq_itself n = eq-eqb n n refl

same_parts : (reg : RegNo) (repo q : RepoName) (tag s : TagName) → is_same_tag (at_tag reg repo tag) (at_tag reg q s) ≡ true
    → (repo ≡ q) × (tag ≡ s)
same_parts reg repo q tag s is =
    let outer = and_true (nat_eq reg.0 reg.0 && bytes_eq repo q) (bytes_eq tag s) is in
    let inner = and_true (nat_eq reg.0 reg.0) (bytes_eq repo q) outer.0 in
    ((bytes_eq-Decides repo q).0 inner.1, (bytes_eq-Decides tag s).0 outer.1)

same_itself : (reg : RegNo) (repo : RepoName) (tag : TagName) → is_same_tag (at_tag reg repo tag) (at_tag reg repo tag) ≡ true
same_itself reg repo tag =
    rw (eq_itself reg.0, (bytes_eq-Decides repo repo).1 refl, (bytes_eq-Decides tag tag).1 refl) refl

-- a manifest that was put under a tag: that tag leads to its graph, and all others to what they led
-- to
module _ (c : Content) (before : List Line) (reg : RegNo) (repo : RepoName) (tag : TagName) (media : Media) (bytes : ByteList) (tree : Tree) where
  abbrev after : Content
  after = put_under repo (by.Tag tag) media bytes c

  tagged_case : (q : RepoName) (s : TagName) (d : Digest) → tag_at after q s ≡ Some d
      → IsWholeTree after repo (digest_of bytes) tree
      → (tag_at c q s ≡ Some d → IsWholeTree after q d (tree_of before (at_tag reg q s)))
      → (same : Bool) → is_same_tag (at_tag reg repo tag) (at_tag reg q s) ≡ same
      → IsWholeTree after q d (cond same tree (tree_of before (at_tag reg q s)))
  tagged_case q s d is new old true same =
      let parts = same_parts reg repo q tag s same in
      let here : tag_at after repo tag ≡ Some d = ap (λ (p : RepoName). tag_at after p tag) parts.0 ∙ ap (tag_at after q) parts.1 ∙ is in
      let e = some_same (digest_of bytes) d (sym (tag_at-put_under-same c repo tag media bytes) ∙ here) in
      subst (λ (p : RepoName). IsWholeTree after p d tree) parts.0 (subst (λ (x : Digest). IsWholeTree after repo x tree) e new)
  tagged_case q s d is new old false same = elim (tag_at-put_under-cases c repo tag media bytes q s) [
    | inl at ↦
        let mine : is_same_tag (at_tag reg repo tag) (at_tag reg q s) ≡ true =
        ap (λ (p : RepoName). is_same_tag (at_tag reg repo tag) (at_tag reg p s)) at.0 ∙ ap (λ (t : TagName). is_same_tag (at_tag reg repo tag) (at_tag reg repo t)) at.1
        ∙ same_itself reg repo tag in
        let never : true ≡ false = sym mine ∙ same in
        cc
    | inr still ↦ old (sym still ∙ is)
  ]

  pub tagged_graphs : IsWholeTree after repo (digest_of bytes) tree
      → ((q : RepoName) (s : TagName) (d : Digest) → tag_at c q s ≡ Some d → IsWholeTree after q d (tree_of before (at_tag reg q s)))
      → (q : RepoName) (s : TagName) (d : Digest) → tag_at after q s ≡ Some d
      → IsWholeTree after q d (cond (is_same_tag (at_tag reg repo tag) (at_tag reg q s)) tree (tree_of before (at_tag reg q s)))
  tagged_graphs new old q s d is = tagged_case q s d is new (old q s d) (is_same_tag (at_tag reg repo tag) (at_tag reg q s)) refl

-- ---- lines

config_good : IsShort (config_of config_text)
config_good = record { whole = whole_digest config_text; size = omega arith; media = omega arith }

layers_good : (layers : List ByteList) → AllByRecursion (λ layer. length layer < 2 ^ 63) layers → AllByRecursion IsShort (map layer_of layers)
layers_good [] all = tt
layers_good (layer ∷ layers) all =
    (record { whole = whole_digest layer; size = omega (arith, all.0); media = omega arith }, layers_good layers all.1)

length_layers : (layers : List ByteList) → length (map layer_of layers) ≡ length layers
length_layers [] = refl
length_layers (layer ∷ layers) = ap suc (length_layers layers)

module _ (T : ByteList → Type 0) (once : (a b : ByteList) → T a → T b → digest_of a ≡ digest_of b → a ≡ b) (before : List Line) (reg : RegNo) (repo : RepoName) (c : Content)
    (stands : Stands T before reg c) where
  -- an image
  module _ (law : ImagesReadBack) (tag : TagName) (layers : List ByteList) (few : length layers < CHILD_LIMIT) (short : AllByRecursion (λ layer. length layer ≤ BLOB_LIMIT) layers)
      (texts : AllByRecursion T (image_text config_text layers ∷ config_text ∷ layers)) where
    abbrev image : ByteList
    image = image_text config_text layers

    abbrev with_layers : Content
    with_layers = with_blobs c repo (config_text ∷ layers)

    abbrev imaged : Content
    imaged = with_image repo tag layers c

    form : IsForm (as_manifest image_media image)
    form = IsForm.image layers refl

    layers_of : IsOf T with_layers
    layers_of = blobs_of T once c repo (config_text ∷ layers) texts.1 stands.of

    layers_keep : Keeps c imaged
    layers_keep =
        keeps_then c with_layers imaged (blobs_keep T once c repo (config_text ∷ layers) texts.1 stands.of)
        (tagged_keeps T once with_layers repo tag image_media image texts.0 form layers_of)

    image_reads : Reads image_media image (image_children config_text layers)
    image_reads =
        let small = each_then {P = λ layer. length layer ≤ BLOB_LIMIT} {Q = λ layer. length layer < 2 ^ 63} (λ layer le. omega (arith, le)) layers short in
        let count = length_layers layers in
        law config_text layers (omega arith) small few
        (image_short config_text layers config_good (layers_good layers small) (omega (arith, count, few)))

    blobs_stay : (all : List ByteList) → AllByRecursion (λ b. blob_at with_layers repo (digest_of b) ≡ Some b) all
        → AllByRecursion (λ b. blob_at imaged repo (digest_of b) ≡ Some b) all
    blobs_stay all there =
        each_then {P = λ b. blob_at with_layers repo (digest_of b) ≡ Some b} {Q = λ b. blob_at imaged repo (digest_of b) ≡ Some b}
        (λ b is. blob_at-put_under with_layers repo (by.Tag tag) image_media image repo (digest_of b) ∙ is) all there

    image_whole : IsWholeTree imaged repo (digest_of image) (image_tree (length layers))
    image_whole = record {
      graph = image_tree_of imaged repo layers (manifest_at-put_under-same with_layers repo (by.Tag tag) image_media image)
          (blobs_stay (config_text ∷ layers) (blobs_there T once c repo (config_text ∷ layers) texts.1 stands.of)) image_reads;
      within = record { depth = omega arith; pairs = omega (arith, few) };
    }

    pub image_stands : Stands T (line.Image reg repo tag layers ∷ before) reg imaged
    image_stands = record {
      of = tagged_of T once with_layers repo tag image_media image texts.0 form layers_of;
      graphs = tagged_graphs with_layers before reg repo tag image_media image (image_tree (length layers)) image_whole
          (λ q s d is. whole_keeps c imaged q d (tree_of before (at_tag reg q s)) layers_keep
          (stands.graphs q s d (sym (blobs_tag c repo (config_text ∷ layers) q s) ∙ is)));
    }

  -- an index
  module _ (law : IndexesReadBack) (tag : TagName) (children : List TagName) (few : length children ≤ CHILD_LIMIT)
      (within : IsWithin (index_tree (trees_of before reg repo children))) (kids : List Child) (found : children_of c repo children ≡ Some kids) (text : T (index_text kids)) where
    abbrev trees : List Tree
    trees = trees_of before reg repo children

    abbrev indexed : Content
    indexed = with_index repo tag kids c

    index_form : IsForm (as_manifest index_media (index_text kids))
    index_form = IsForm.index kids refl

    index_keeps : Keeps c indexed
    index_keeps = tagged_keeps T once c repo tag index_media (index_text kids) text index_form stands.of

    are_kids : AreKids c repo trees kids
    are_kids = kids_found T c stands.of repo before reg (λ t d is. (stands.graphs repo t d is).graph) children kids found

    length_trees : (tags : List TagName) → length (trees_of before reg repo tags) ≡ length tags
    length_trees [] = refl
    length_trees (t ∷ tags) = ap suc (length_trees tags)

    index_reads : Reads index_media (index_text kids) kids
    index_reads =
        let good = kids_good c repo trees kids are_kids in
        let count : length kids ≡ length children = kids_count c repo trees kids are_kids ∙ length_trees children in
        law kids (each_then {P = IsGood} {Q = IsWritable} (λ kid is. is.written) kids good)
        (each_then {P = IsGood} {Q = IsListed} (λ kid is. is.listed) kids good) (omega (arith, count, few))
        (index_short kids (each_then {P = IsGood} {Q = IsShort} (λ kid is. is.short) kids good) (omega (arith, count, few)))

    index_whole : IsWholeTree indexed repo (digest_of (index_text kids)) (index_tree trees)
    index_whole = record {
      graph = index_tree_is indexed repo trees kids (manifest_at-put_under-same c repo (by.Tag tag) index_media (index_text kids)) index_reads
          (kids_keep c indexed repo trees kids index_keeps are_kids);
      within = within;
    }

    pub index_stands : Stands T (line.Index reg repo tag children ∷ before) reg indexed
    index_stands = record {
      of = tagged_of T once c repo tag index_media (index_text kids) text index_form stands.of;
      graphs = tagged_graphs c before reg repo tag index_media (index_text kids) (index_tree trees) index_whole
          (λ q s d is. whole_keeps c indexed q d (tree_of before (at_tag reg q s)) index_keeps (stands.graphs q s d is));
    }

  -- the manifest of an image alone
  pub orphan_stands : (layers : List ByteList) → T (image_text config_text layers)
      → Stands T (line.Orphan reg repo layers ∷ before) reg (with_orphan repo layers c)
  orphan_stands layers text =
      let new = as_manifest image_media (image_text config_text layers) in
      let form : IsForm new = IsForm.image layers refl in
      let keeps = manifest_keeps T once c repo new text form stands.of in record {
        of = manifest_of T once c repo new text form stands.of;
        graphs = λ q s d is.
            whole_keeps c (with_orphan repo layers c) q d (tree_of before (at_tag reg q s)) keeps
            (stands.graphs q s d (sym (tag_at-with_manifest c repo (digest_of (image_text config_text layers)) new q s) ∙ is));
      }
