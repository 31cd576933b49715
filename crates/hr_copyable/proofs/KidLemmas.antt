-- The children of an index: manifests that tags lead to, whose graphs stand there, and the graph of
-- the index.
use Rattle.std.proofs.Common.{◌≡◌, ◌<◌, ◌≤◌, ◌+◌, ℕ, suc, List, [], ◌∷◌, ◌++◌, length, Option, Some, None, option_map, refl, sym, ap, subst, ◌∙◌, arith}
use Rattle.std.specs.Prelude.{option_and_then, sum_by}
use Rattle.std.specs.List.{AllByRecursion}
use Rattle.std.specs.Str.{IsUtf8}
use Rattle.std.proofs.lemmas.List.Elements.{Contains-append_left, Contains-append_right}
use Rattle.std.proofs.lemmas.List.Sums.{sum_by-cons}
use Rattle.std.proofs.Common.{length-append}
use Rattle.json.proofs.Printed.Utf8.{IsUtf8-are_ascii}
use Rattle.hr_base.specs.declared.limit.TheConstants.{MANIFEST_LIMIT}
use Rattle.hr_base.specs.Bytes.{ByteList, Media}
use Rattle.hr_text.specs.Escaping.{IsUnescaped}
use Rattle.hr_text.proofs.EscapeLaws.{unescaped_text}
use Rattle.hr_digest.specs.Digest.{digest_of}
use Rattle.hr_digest.specs.Reading.{IsWhole}
use Rattle.hr_digest.specs.declared.digest.Digest.{Digest}
use Rattle.hr_name.specs.Name.{RepoName}
use Rattle.hr_name.specs.Tag.{TagName}
use Rattle.hr_base.specs.declared.number.RegNo.{RegNo}
use Rattle.hr_event.specs.declared.reference.Fetched.{Fetched}
use Rattle.hr_manifest.specs.Canonical.{image_media, index_media, index_text}
use Rattle.hr_manifest.specs.Reading.{Reads}
use Rattle.hr_manifest.specs.Writable.{IsListed, IsWritable}
use Rattle.hr_manifest.specs.declared.child.Child.{Child}
use Rattle.hr_manifest.specs.declared.child.ChildKind.{ChildKind}
use Rattle.hr_manifest.specs.declared.child.ChildKind.TheVariants as kind
use Rattle.hr_manifest.proofs.ReadingLaws.{reads_short}
use Rattle.hr_adapter.specs.Content.{Content, manifest_at, tag_at}
use Rattle.hr_adapter.specs.Put.{as_manifest}
use Rattle.hr_journal.specs.Graph.{StandsUnder}
use Rattle.hr_journal.proofs.ListLaws.{contains_first, contains_later, each_has}
use Rattle.hr_journal.proofs.PromiseLaws.{closed_made}
use Rattle.hr_line.specs.Destination.{stored_of}
use Rattle.hr_opening.specs.Stored.{child_of, children_of}
use Rattle.hr_script.specs.declared.line.Line.{Line}
use Rattle.hr_whole.specs.Whole.{IsAmong}
use Rattle.hr_copyable.specs.Canonical.{Tree, deepest, index_tree, tree_of, trees_of}
use Rattle.hr_copyable.proofs.DigestLemmas.{whole_digest}
use Rattle.hr_copyable.proofs.FormLemmas.{IsForm}
use Rattle.hr_copyable.proofs.HoldLemmas.{IsOf, Keeps, some_same, told}
use Rattle.hr_copyable.proofs.LengthLemmas.{IsShort}
use Rattle.hr_copyable.proofs.TreeLemmas.{IsIn, IsNode, IsTree, kids_more, nodes_more, tree_keeps}

-- a child of an index is a manifest in its canonical text, whose graph stands there
pub record IsKid (c : Content) (repo : RepoName) (tree : Tree) (kid : Child) : Type 0 where
  pub manifest : kid.kind ≡ kind.Manifest
  pub stored : Fetched
  pub there : manifest_at c repo kid.digest ≡ Some stored
  pub own : digest_of stored.bytes ≡ kid.digest
  pub size : kid.size ≡ length stored.bytes
  pub media : kid.media ≡ stored.media
  pub form : IsForm stored
  pub graph : IsTree c repo kid.digest tree

-- so is each of these children, each with its tree
abbrev pub AreKids : Content → RepoName → List Tree → List Child → Type 0
AreKids c repo [] [] = Unit {0}
AreKids c repo [] (kid ∷ kids) = ⊥
AreKids c repo (tree ∷ trees) [] = ⊥
AreKids c repo (tree ∷ trees) (kid ∷ kids) = IsKid c repo tree kid × AreKids c repo trees kids

-- ---- where they come from

then_some : {X Y : Type 0} (f : X → Option Y) (o : Option X) (y : Y) → option_and_then f o ≡ Some y
    → (x : X) × (o ≡ Some x) × (f x ≡ Some y)
then_some f (Some x) y is = (x, refl, is)
then_some f None y is = cc is

map_some : {X Y : Type 0} (f : X → Y) (o : Option X) (y : Y) → option_map f o ≡ Some y → (x : X) × (o ≡ Some x) × (f x ≡ y)
map_some f (Some x) y is = (x, refl, some_same (f x) y is)
map_some f None y is = cc is

module _ (T : ByteList → Type 0) (c : Content) (of : IsOf T c) (repo : RepoName) where
  kid_found : (tag : TagName) (tree : Tree) → ((d : Digest) → tag_at c repo tag ≡ Some d → IsTree c repo d tree) → (kid : Child)
      → child_of c repo tag ≡ Some kid → IsKid c repo tree kid
  kid_found tag tree graph kid is =
      let named = then_some (λ d. option_map (λ (m : Fetched). record { kind = kind.Manifest; digest = d; size = length m.bytes; media = m.media }) (manifest_at c repo d))
      (tag_at c repo tag) kid is in
      let d = named.0 in
      let held = map_some (λ (m : Fetched). record { kind = kind.Manifest; digest = d; size = length m.bytes; media = m.media }) (manifest_at c repo d) kid named.2 in
      let m = held.0 in
      subst (λ (k : Child). IsKid c repo tree k) held.2 (record {
        manifest = refl;
        stored = m;
        there = held.1;
        own = told (λ (f : Fetched). digest_of f.bytes ≡ d) (manifest_at c repo d) m (of.honest.manifests repo d) held.1;
        size = refl;
        media = refl;
        form = of.forms repo d m held.1;
        graph = graph d named.1;
      })

  pub kids_found : (before : List Line) (reg : RegNo)
      → ((tag : TagName) (d : Digest) → tag_at c repo tag ≡ Some d → IsTree c repo d (tree_of before (record { reg = reg; repo = repo; tag = tag })))
      → (tags : List TagName) (kids : List Child) → children_of c repo tags ≡ Some kids → AreKids c repo (trees_of before reg repo tags) kids
  kids_found before reg graphs [] kids is = subst (AreKids c repo []) (some_same [] kids is) tt
  kids_found before reg graphs (tag ∷ tags) kids is =
      let first = then_some (λ child. option_map (λ children. child ∷ children) (children_of c repo tags)) (child_of c repo tag) kids is in
      let rest = map_some (λ children. first.0 ∷ children) (children_of c repo tags) kids first.2 in
      subst (AreKids c repo (trees_of before reg repo (tag ∷ tags))) rest.2 (
        kid_found tag (tree_of before (record { reg = reg; repo = repo; tag = tag })) (graphs tag) first.0 first.1,
        kids_found before reg graphs tags rest.0 rest.1,
      )

-- they go on standing in a content that has all of the first
kid_keeps : (b c : Content) (repo : RepoName) (tree : Tree) (kid : Child) → Keeps b c → IsKid b repo tree kid → IsKid c repo tree kid
kid_keeps b c repo tree kid keeps is = record {
  manifest = is.manifest;
  stored = is.stored;
  there = keeps.manifests repo kid.digest is.stored is.there;
  own = is.own;
  size = is.size;
  media = is.media;
  form = is.form;
  graph = tree_keeps b c repo kid.digest tree keeps is.graph;
}

pub kids_keep : (b c : Content) (repo : RepoName) (trees : List Tree) (kids : List Child) → Keeps b c → AreKids b repo trees kids
    → AreKids c repo trees kids
kids_keep b c repo [] [] keeps are = tt
kids_keep b c repo [] (kid ∷ kids) keeps are = absurd are
kids_keep b c repo (tree ∷ trees) [] keeps are = absurd are
kids_keep b c repo (tree ∷ trees) (kid ∷ kids) keeps are =
    (kid_keeps b c repo tree kid keeps are.0, kids_keep b c repo trees kids keeps are.1)

-- ---- they can be written, and are listed

record IsGoodMedia (media : Media) : Type 0 where
  text : IsUtf8 media
  plain : IsUnescaped media
  short : length media ≤ 64

form_media : (m : Fetched) → IsForm m → IsGoodMedia m.media
form_media m (IsForm.image layers is) =
    subst (λ (f : Fetched). IsGoodMedia f.media) (sym is) (record { text = IsUtf8-are_ascii image_media refl; plain = unescaped_text image_media refl; short = omega arith })
form_media m (IsForm.index kids is) =
    subst (λ (f : Fetched). IsGoodMedia f.media) (sym is) (record { text = IsUtf8-are_ascii index_media refl; plain = unescaped_text index_media refl; short = omega arith })

-- a child as it is written, listed and measured
pub record IsGood (kid : Child) : Type 0 where
  pub written : IsWritable kid
  pub listed : IsListed kid
  pub short : IsShort kid

kid_size : (c : Content) (repo : RepoName) (tree : Tree) (kid : Child) → IsKid c repo tree kid → kid.size ≤ MANIFEST_LIMIT
kid_size c repo tree kid is =
    let node = each_has (IsNode c repo is.graph.blobs is.graph.manifests) is.graph.manifests is.graph.nodes kid.digest is.graph.first in
    let same = some_same is.stored (stored_of node.parts) (sym is.there ∙ node.here.there) in
    let few = reads_short node.parts.media node.parts.bytes node.parts.children node.here.reads in
    let long : kid.size ≡ length node.parts.bytes = is.size ∙ ap (λ (m : Fetched). length m.bytes) same in
    omega (arith, few, long)

kid_good : (c : Content) (repo : RepoName) (tree : Tree) (kid : Child) → IsKid c repo tree kid → IsGood kid
kid_good c repo tree kid is =
    let size = kid_size c repo tree kid is in
    let whole = subst IsWhole is.own (whole_digest is.stored.bytes) in
    let good = subst IsGoodMedia (sym is.media) (form_media is.stored is.form) in record {
      written = record { fit = record { whole = whole; small = omega (arith, size) }; text = good.text; plain = good.plain };
      listed = record { kind = is.manifest; size = omega (arith, size); text = good.text };
      short = record { whole = whole; size = omega (arith, size); media = good.short };
    }

pub kids_good : (c : Content) (repo : RepoName) (trees : List Tree) (kids : List Child) → AreKids c repo trees kids → AllByRecursion IsGood kids
kids_good c repo [] [] are = tt
kids_good c repo [] (kid ∷ kids) are = absurd are
kids_good c repo (tree ∷ trees) [] are = absurd are
kids_good c repo (tree ∷ trees) (kid ∷ kids) are = (kid_good c repo tree kid are.0, kids_good c repo trees kids are.1)

pub kids_count : (c : Content) (repo : RepoName) (trees : List Tree) (kids : List Child) → AreKids c repo trees kids → length kids ≡ length trees
kids_count c repo [] [] are = refl
kids_count c repo [] (kid ∷ kids) are = absurd are
kids_count c repo (tree ∷ trees) [] are = absurd are
kids_count c repo (tree ∷ trees) (kid ∷ kids) are = ap suc (kids_count c repo trees kids are.1)

-- ---- the graph of their index

kid_stands : (n : ℕ) (c : Content) (repo : RepoName) (tree : Tree) (kid : Child) → IsKid c repo tree kid → tree.depth < n
    → StandsUnder n c repo kid.kind kid.digest kid.size
kid_stands n c repo tree kid is below =
    subst (λ (k : ChildKind). StandsUnder n c repo k kid.digest kid.size) (sym is.manifest) (
      tree.depth,
      below,
      (
        ap (option_map (λ (m : Fetched). length m.bytes)) is.there ∙ ap Some (sym is.size),
        is.graph.closed tree.depth (omega arith),
      ),
    )

kids_stand : (n : ℕ) (c : Content) (repo : RepoName) (trees : List Tree) (kids : List Child) → AreKids c repo trees kids → deepest trees < n
    → AllByRecursion (λ kid. StandsUnder n c repo kid.kind kid.digest kid.size) kids
kids_stand n c repo [] [] are below = tt
kids_stand n c repo [] (kid ∷ kids) are below = absurd are
kids_stand n c repo (tree ∷ trees) [] are below = absurd are
kids_stand n c repo (tree ∷ trees) (kid ∷ kids) are below =
    (kid_stands n c repo tree kid are.0 (omega (arith, below)), kids_stand n c repo trees kids are.1 (omega (arith, below)))

-- all blobs and manifests of the graphs of some children
record AreListed (c : Content) (repo : RepoName) (trees : List Tree) (kids : List Child) : Type 0 where
  blobs : List Digest
  manifests : List Digest
  nodes : AllByRecursion (IsNode c repo blobs manifests) manifests
  among : AllByRecursion (λ kid. IsAmong blobs manifests kid.kind kid.digest) kids
  few : length blobs + length manifests ≤ sum_by (λ tree. tree.pairs) trees

each_append : {X : Type 0} (P : X → Type 0) (xs ys : List X) → AllByRecursion P xs → AllByRecursion P ys → AllByRecursion P (xs ++ ys)
each_append P [] ys all more = more
each_append P (x ∷ xs) ys all more = (all.0, each_append P xs ys all.1 more)

kids_listed : (c : Content) (repo : RepoName) (trees : List Tree) (kids : List Child) → AreKids c repo trees kids → AreListed c repo trees kids
kids_listed c repo [] [] are = record { blobs = []; manifests = []; nodes = tt; among = tt; few = omega arith }
kids_listed c repo [] (kid ∷ kids) are = absurd are
kids_listed c repo (tree ∷ trees) [] are = absurd are
kids_listed c repo (tree ∷ trees) (kid ∷ kids) are =
    let one = are.0.graph in
    let rest = kids_listed c repo trees kids are.1 in
    let bs = one.blobs ++ rest.blobs in
    let ms = one.manifests ++ rest.manifests in
    let left_b : IsIn one.blobs bs = Contains-append_left one.blobs rest.blobs in
    let left_m : IsIn one.manifests ms = Contains-append_left one.manifests rest.manifests in
    let right_b : IsIn rest.blobs bs = Contains-append_right one.blobs rest.blobs in
    let right_m : IsIn rest.manifests ms = Contains-append_right one.manifests rest.manifests in record {
      blobs = bs;
      manifests = ms;
      nodes = each_append (IsNode c repo bs ms) one.manifests rest.manifests
          (nodes_more c repo one.blobs one.manifests bs ms left_b left_m one.manifests one.nodes)
          (nodes_more c repo rest.blobs rest.manifests bs ms right_b right_m rest.manifests rest.nodes);
      among = (
        subst (λ (k : ChildKind). IsAmong bs ms k kid.digest) (sym are.0.manifest) (left_m kid.digest one.first),
        kids_more rest.blobs rest.manifests bs ms right_b right_m kids rest.among,
      );
      few = omega (
        arith,
        one.few,
        rest.few,
        length-append one.blobs rest.blobs,
        length-append one.manifests rest.manifests,
        sum_by-cons (λ (t : Tree). t.pairs) tree trees,
      );
    }

-- the graph of an index stands where its manifest and the graphs of its children do
pub index_tree_is : (c : Content) (repo : RepoName) (trees : List Tree) (kids : List Child)
    → manifest_at c repo (digest_of (index_text kids)) ≡ Some (as_manifest index_media (index_text kids))
    → Reads index_media (index_text kids) kids → AreKids c repo trees kids → IsTree c repo (digest_of (index_text kids)) (index_tree trees)
index_tree_is c repo trees kids there reads are =
    let d = digest_of (index_text kids) in
    let all = kids_listed c repo trees kids are in
    let ms = d ∷ all.manifests in
    let same : IsIn all.blobs all.blobs = λ e within. within in
    let later : IsIn all.manifests ms = contains_later d all.manifests in record {
      closed = λ n le. closed_made n c repo d (as_manifest index_media (index_text kids)) kids there reads
          (kids_stand n c repo trees kids are (omega (arith, le)));
      blobs = all.blobs;
      manifests = ms;
      first = contains_first d all.manifests;
      nodes = (
        record {
          parts = record { media = index_media; bytes = index_text kids; children = kids };
          here = record { there = there; reads = reads };
          among = kids_more all.blobs all.manifests all.blobs ms same later kids all.among;
        },
        nodes_more c repo all.blobs all.manifests all.blobs ms same later all.manifests all.nodes,
      );
      few = omega (arith, all.few);
    }
