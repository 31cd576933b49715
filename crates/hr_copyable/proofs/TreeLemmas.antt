-- Graphs that stand in a content, each with lists of all its blobs and manifests, and what is held
-- of them.
use Rattle.std.proofs.Common.{◌≡◌, ◌≤◌, ◌+◌, ℕ, zero, suc, List, [], ◌∷◌, length, map, Option, Some, None, option_map, refl, sym, ap, subst, ◌∙◌, arith}
use Rattle.std.specs.Prelude.{Contains}
use Rattle.std.specs.List.{AllByRecursion}
use Rattle.hr_base.specs.Bytes.{ByteList}
use Rattle.hr_digest.specs.Digest.{digest_of}
use Rattle.hr_digest.specs.declared.digest.Digest.{Digest}
use Rattle.hr_name.specs.Name.{RepoName}
use Rattle.hr_event.specs.declared.reference.Fetched.{Fetched}
use Rattle.hr_manifest.specs.Canonical.{image_children, image_media, image_text, layer_of}
use Rattle.hr_manifest.specs.Manifest.{Parts}
use Rattle.hr_manifest.specs.Reading.{Reads}
use Rattle.hr_manifest.specs.declared.child.Child.{Child}
use Rattle.hr_manifest.specs.declared.child.ChildKind.{ChildKind}
use Rattle.hr_manifest.specs.declared.child.ChildKind.TheVariants as kind
use Rattle.hr_manifest.proofs.ReadingLaws.{reads_once}
use Rattle.hr_graph.specs.declared.opened.TheConstants.{PAIR_LIMIT}
use Rattle.hr_adapter.specs.Content.{Content, blob_at, manifest_at}
use Rattle.hr_adapter.specs.Put.{as_manifest}
use Rattle.hr_journal.specs.Graph.{Closed, StandsUnder}
use Rattle.hr_journal.specs.Grows.{Grows}
use Rattle.hr_journal.proofs.ListLaws.{contains_first, contains_later, each_has, each_then}
use Rattle.hr_journal.proofs.PromiseLaws.{closed_made, stands_closed_grow}
use Rattle.hr_line.specs.Destination.{stored_of}
use Rattle.hr_opening.specs.Stored.{config_text}
use Rattle.hr_whole.specs.Whole.{AreAllOf, HasFewPairs, IsAmong, IsHere}
use Rattle.hr_copyable.specs.Canonical.{IsWithin, Tree, image_tree}
use Rattle.hr_copyable.specs.Copyable.{IsHeld}
use Rattle.hr_copyable.proofs.HoldLemmas.{Keeps, some_same}

-- all of the first list is in the second
abbrev pub IsIn : List Digest → List Digest → Type 0
IsIn xs ys = (d : Digest) → Contains xs d → Contains ys d

-- a manifest of a graph is here, and what it lists is among these blobs and manifests
pub record IsNode (c : Content) (repo : RepoName) (blobs manifests : List Digest) (d : Digest) : Type 0 where
  pub parts : Parts
  pub here : IsHere c repo d parts
  pub among : AllByRecursion (λ kid. IsAmong blobs manifests kid.kind kid.digest) parts.children

-- the graph of a manifest stands there, as deep as a tree and of no more pairs
pub record IsTree (c : Content) (repo : RepoName) (d : Digest) (tree : Tree) : Type 0 where
  pub closed : (n : ℕ) → tree.depth ≤ n → Closed n c repo d
  pub blobs : List Digest
  pub manifests : List Digest
  pub first : Contains manifests d
  pub nodes : AllByRecursion (IsNode c repo blobs manifests) manifests
  pub few : length blobs + length manifests ≤ tree.pairs

-- ---- longer lists, and more content

among_more : (bs ms cs ns : List Digest) → IsIn bs cs → IsIn ms ns → (k : ChildKind) (d : Digest) → IsAmong bs ms k d → IsAmong cs ns k d
among_more bs ms cs ns more_b more_m kind.Manifest d in_it = more_m d in_it
among_more bs ms cs ns more_b more_m kind.Blob d in_it = more_b d in_it
among_more bs ms cs ns more_b more_m kind.Foreign d in_it = tt

pub kids_more : (bs ms cs ns : List Digest) → IsIn bs cs → IsIn ms ns → (kids : List Child)
    → AllByRecursion (λ kid. IsAmong bs ms kid.kind kid.digest) kids → AllByRecursion (λ kid. IsAmong cs ns kid.kind kid.digest) kids
kids_more bs ms cs ns more_b more_m kids all =
    each_then {P = λ kid. IsAmong bs ms kid.kind kid.digest} {Q = λ kid. IsAmong cs ns kid.kind kid.digest}
    (λ kid. among_more bs ms cs ns more_b more_m kid.kind kid.digest) kids all

pub nodes_more : (c : Content) (repo : RepoName) (bs ms cs ns : List Digest) → IsIn bs cs → IsIn ms ns → (ds : List Digest)
    → AllByRecursion (IsNode c repo bs ms) ds → AllByRecursion (IsNode c repo cs ns) ds
nodes_more c repo bs ms cs ns more_b more_m ds all =
    each_then {P = IsNode c repo bs ms} {Q = IsNode c repo cs ns}
    (λ d node. record { parts = node.parts; here = node.here; among = kids_more bs ms cs ns more_b more_m node.parts.children node.among }) ds all

length_kept : (o p : Option ByteList) → ((x : ByteList) → o ≡ Some x → p ≡ Some x) → (len : ℕ) → option_map length o ≡ Some len
    → option_map length p ≡ Some len
length_kept (Some x) p keeps len is = ap (option_map length) (keeps x refl) ∙ is
length_kept None p keeps len is = cc is

grows_of : (b c : Content) → Keeps b c → Grows b c
grows_of b c keeps = record {
  blobs = λ repo d len is. length_kept (blob_at b repo d) (blob_at c repo d) (keeps.blobs repo d) len is;
  manifests = λ repo d m is. record { stored = m; there = keeps.manifests repo d m is; bytes = refl; reads = λ kids reads. reads };
}

closed_there : (n : ℕ) (c : Content) (repo : RepoName) (d : Digest) → Closed n c repo d → (m : Fetched) × (manifest_at c repo d ≡ Some m)
closed_there zero c repo d closed = (closed.stored, closed.there)
closed_there (suc n) c repo d closed = (closed.stored, closed.there)

closed_keeps : (n : ℕ) (b c : Content) (repo : RepoName) (d : Digest) → Keeps b c → Closed n b repo d → Closed n c repo d
closed_keeps n b c repo d keeps closed =
    let there = closed_there n b repo d closed in
    (stands_closed_grow n b c repo (grows_of b c keeps) kind.Manifest d (length there.0.bytes)
    (ap (option_map (λ (m : Fetched). length m.bytes)) there.1, closed)).1

nodes_keep : (b c : Content) (repo : RepoName) (bs ms : List Digest) → Keeps b c → (ds : List Digest) → AllByRecursion (IsNode b repo bs ms) ds
    → AllByRecursion (IsNode c repo bs ms) ds
nodes_keep b c repo bs ms keeps ds all =
    each_then {P = IsNode b repo bs ms} {Q = IsNode c repo bs ms}
    (λ d node. record {
      parts = node.parts;
      here = record { there = keeps.manifests repo d (stored_of node.parts) node.here.there; reads = node.here.reads };
      among = node.among;
    }) ds all

-- a graph goes on standing in a content that has all of the first
pub tree_keeps : (b c : Content) (repo : RepoName) (d : Digest) (tree : Tree) → Keeps b c → IsTree b repo d tree → IsTree c repo d tree
tree_keeps b c repo d tree keeps is = record {
  closed = λ n le. closed_keeps n b c repo d keeps (is.closed n le);
  blobs = is.blobs;
  manifests = is.manifests;
  first = is.first;
  nodes = nodes_keep b c repo is.blobs is.manifests keeps is.manifests is.nodes;
  few = is.few;
}

-- ---- what is held

here_once : (c : Content) (repo : RepoName) (d : Digest) (p q : Parts) → IsHere c repo d p → IsHere c repo d q → p.children ≡ q.children
here_once c repo d p q one other =
    let same = some_same (stored_of p) (stored_of q) (sym one.there ∙ other.there) in
    let bytes : p.bytes ≡ q.bytes = ap (λ (m : Fetched). m.bytes) same in
    reads_once p.media q.media p.bytes p.children q.children one.reads
    (subst (λ (b : ByteList). Reads q.media b q.children) (sym bytes) other.reads)

all_of : (c : Content) (repo : RepoName) (d : Digest) (tree : Tree) → (is : IsTree c repo d tree) → AreAllOf c repo d is.blobs is.manifests
all_of c repo d tree is = record {
  first = is.first;
  each = λ e parts within here.
      let node = each_has (IsNode c repo is.blobs is.manifests) is.manifests is.nodes e within in
      subst (λ (kids : List Child). AllByRecursion (λ kid. IsAmong is.blobs is.manifests kid.kind kid.digest) kids)
      (here_once c repo e node.parts parts node.here here) node.among;
}

-- few pairs are reached of a graph whose blobs and manifests are few
abbrev pub FewAreReached : Type 0
FewAreReached = (c : Content) (repo : RepoName) (root : Digest) (blobs manifests : List Digest)
    → AreAllOf c repo root blobs manifests → length blobs + length manifests ≤ PAIR_LIMIT → HasFewPairs c repo root

pub held_of : FewAreReached → (c : Content) (repo : RepoName) (d : Digest) (tree : Tree) → IsTree c repo d tree → IsWithin tree
    → IsHeld c repo d
held_of law c repo d tree is within = record {
  whole = is.closed 8 within.depth;
  few = law c repo d is.blobs is.manifests (all_of c repo d tree is) (omega (arith, is.few, within.pairs));
}

-- ---- an image

blobs_among : (bs : List Digest) (layers : List ByteList) → ((b : ByteList) → Contains layers b → Contains bs (digest_of b)) → (ms : List Digest)
    → AllByRecursion (λ kid. IsAmong bs ms kid.kind kid.digest) (map layer_of layers)
blobs_among bs [] all ms = tt
blobs_among bs (layer ∷ layers) all ms =
    (all layer (contains_first layer layers), blobs_among bs layers (λ b within. all b (contains_later layer layers b within)) ms)

digests_have : (layers : List ByteList) (b : ByteList) → Contains layers b → Contains (map digest_of layers) (digest_of b)
digests_have [] b (k, within, is) = absurd (omega (arith, within))
digests_have (layer ∷ layers) b (zero, within, is) =
    subst (λ (x : ByteList). Contains (digest_of layer ∷ map digest_of layers) (digest_of x)) is (contains_first (digest_of layer) (map digest_of layers))
digests_have (layer ∷ layers) b (suc k, within, is) =
    contains_later (digest_of layer) (map digest_of layers) (digest_of b) (digests_have layers b (k, omega (arith, within), is))

layers_stand : (n : ℕ) (c : Content) (repo : RepoName) (layers : List ByteList) → AllByRecursion (λ b. blob_at c repo (digest_of b) ≡ Some b) layers
    → AllByRecursion (λ kid. StandsUnder n c repo kid.kind kid.digest kid.size) (map layer_of layers)
layers_stand n c repo [] all = tt
layers_stand n c repo (layer ∷ layers) all = (ap (option_map length) all.0, layers_stand n c repo layers all.1)

length_digests : (layers : List ByteList) → length (map digest_of layers) ≡ length layers
length_digests [] = refl
length_digests (layer ∷ layers) = ap suc (length_digests layers)

module _ (c : Content) (repo : RepoName) (layers : List ByteList) where
  abbrev text : ByteList
  text = image_text config_text layers

  abbrev blobs : List Digest
  blobs = map digest_of (config_text ∷ layers)

  -- the graph of an image stands where its manifest and its blobs do
  pub image_tree_of : manifest_at c repo (digest_of text) ≡ Some (as_manifest image_media text)
      → AllByRecursion (λ b. blob_at c repo (digest_of b) ≡ Some b) (config_text ∷ layers)
      → Reads image_media text (image_children config_text layers) → IsTree c repo (digest_of text) (image_tree (length layers))
  image_tree_of there all reads = record {
    closed = λ n le. closed_made n c repo (digest_of text) (as_manifest image_media text) (image_children config_text layers) there reads
        (ap (option_map length) all.0, layers_stand n c repo layers all.1);
    blobs = blobs;
    manifests = digest_of text ∷ [];
    first = contains_first (digest_of text) [];
    nodes = (
      record {
        parts = record { media = image_media; bytes = text; children = image_children config_text layers };
        here = record { there = there; reads = reads };
        among = (
          digests_have (config_text ∷ layers) config_text (contains_first config_text layers),
          blobs_among blobs layers (λ b within. digests_have (config_text ∷ layers) b (contains_later config_text layers b within)) (digest_of text ∷ []),
        );
      },
      tt,
    );
    few = let e = length_digests layers in omega (arith, e);
  }
