-- Scripts whose setup lines store images and indexes alone, in their canonical texts and within the
-- limits of copies. (Our own, over OCI Image 1.1, "Image Manifest" and "Image Index".)
use Rattle.std.specs.Prelude.{◌<◌, ◌≤◌, ◌+◌, ◌&&◌, max, ⊤, ℕ, Bool, nat_eq, if◌then◌else◌, List, [], ◌∷◌, length, map, sum_by}
use Rattle.std.specs.List.{AllByRecursion}
use Rattle.std.specs.Str.{bytes_eq}
use Rattle.hr_base.specs.declared.number.RegNo.{RegNo}
use Rattle.hr_name.specs.Name.{RepoName}
use Rattle.hr_name.specs.Tag.{TagName}
use Rattle.hr_manifest.specs.declared.manifest.TheConstants.{CHILD_LIMIT}
use Rattle.hr_graph.specs.declared.opened.TheConstants.{DEPTH_LIMIT, PAIR_LIMIT}
use Rattle.hr_adapter.specs.declared.registry.TheConstants.{BLOB_LIMIT}
use Rattle.hr_script.specs.declared.line.Line.{Line}
use Rattle.hr_script.specs.declared.line.Line.TheVariants as line
use Rattle.hr_script.specs.declared.reading.Numbered.{Numbered}

-- a tag of a repository in one of the registries
pub record RegTag : Type 0 where
  pub reg : RegNo
  pub repo : RepoName
  pub tag : TagName

-- a tag by its registry, its repository and its name
abbrev pub at_tag : RegNo → RepoName → TagName → RegTag
at_tag reg repo tag = record { reg = reg; repo = repo; tag = tag }

-- whether two of them are the same
abbrev pub is_same_tag : RegTag → RegTag → Bool
is_same_tag a b = nat_eq a.reg.0 b.reg.0 && bytes_eq a.repo b.repo && bytes_eq a.tag b.tag

-- the graph of a manifest, counted as a tree: how many indexes stand one below the other at most,
-- and how many blobs and manifests there are, each counted as often as it is listed
pub record Tree : Type 0 where
  pub depth : ℕ
  pub pairs : ℕ

-- that of an image: its manifest, its config, and so many layers
abbrev pub image_tree : ℕ → Tree
image_tree layers = record { depth = 0; pairs = 2 + layers }

-- the greatest depth of these trees
abbrev pub deepest : List Tree → ℕ
deepest [] = 0
deepest (tree ∷ trees) = max tree.depth (deepest trees)

-- that of an index of manifests whose graphs are these
abbrev pub index_tree : List Tree → Tree
index_tree trees =
    record { depth = 1 + deepest trees; pairs = 1 + sum_by (λ tree. tree.pairs) trees }

-- the graph that a tag leads to, where these are the lines before, the newest first
abbrev pub tree_of : List Line → RegTag → Tree
tree_of [] named = record { depth = 0; pairs = 0 }
tree_of (line.Image reg repo tag layers ∷ before) named =
    if is_same_tag (at_tag reg repo tag) named then image_tree (length layers)
    else tree_of before named
tree_of (line.Index reg repo tag children ∷ before) named =
    if is_same_tag (at_tag reg repo tag) named
    then index_tree (map (λ child. tree_of before (at_tag reg repo child)) children)
    else tree_of before named
tree_of (_ ∷ before) named = tree_of before named

-- those that these tags of a repository lead to
abbrev pub trees_of : List Line → RegNo → RepoName → List TagName → List Tree
trees_of before reg repo tags = map (λ tag. tree_of before (at_tag reg repo tag)) tags

-- a graph is no deeper than it may be, and has no more pairs than a walk may meet
pub record IsWithin (tree : Tree) : Type 0 where
  pub depth : tree.depth ≤ DEPTH_LIMIT
  pub pairs : tree.pairs ≤ PAIR_LIMIT

-- a line stores an image or an index of no more children than a manifest may list, and within the
-- other limits, or the manifest of an image alone; or it allows so many jobs, or is an
-- event
abbrev pub IsCanonical : List Line → Line → Type 0
IsCanonical before (line.Image reg repo tag layers) =
    (length layers < CHILD_LIMIT) × AllByRecursion (λ layer. length layer ≤ BLOB_LIMIT) layers
IsCanonical before (line.Index reg repo tag children) =
    (length children ≤ CHILD_LIMIT) × IsWithin (index_tree (trees_of before reg repo children))
IsCanonical before (line.Orphan reg repo layers) = ⊤
IsCanonical before (line.Jobs jobs) = ⊤
IsCanonical before (line.Event event) = ⊤
IsCanonical before _ = ⊥

-- so is each of these lines, behind those before, the newest first
abbrev pub AreCanonicalAfter : List Line → List Numbered → Type 0
AreCanonicalAfter before [] = ⊤
AreCanonicalAfter before (numbered ∷ rest) =
    IsCanonical before numbered.line × AreCanonicalAfter (numbered.line ∷ before) rest

-- each line of a script is canonical
abbrev pub AreCanonical : List Numbered → Type 0
AreCanonical lines = AreCanonicalAfter [] lines
