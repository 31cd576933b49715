-- What a policy selects of a listing. (Our own, after Harbor's.)
use Rattle.std.specs.Prelude.{◌≡◌, ◌≢◌, ◌↔◌, List, [], map, All, Contains}
use Rattle.std.specs.List.{AllByRecursion, flat_map}
use Rattle.std.specs.List.Sorted.{IsStrictlySortedBy}
use Rattle.std.specs.declared.cmp.Ordering.{Ordering}
use Rattle.std.specs.Cmp.Lexicographic.{slice_cmp}
use Rattle.std.specs.Ordering.{nat_cmp, ordering_then}
use Rattle.hr_name.specs.Name.{RepoName}
use Rattle.hr_name.specs.Tag.{TagName}
use Rattle.hr_filter.specs.declared.filter.Filter.{Filter}
use Rattle.hr_filter.specs.declared.listed.Listed.{Listed}
use Rattle.hr_filter.specs.declared.listed.Pick.{Pick}
use Rattle.hr_filter.specs.Filter.{Meets}

-- a tag of a repository
abbrev pub RepoTag : Type 0
RepoTag = RepoName × TagName

-- the byte order of repository and tag: that of the repositories, and within one that of the tags
abbrev pub repo_tag_cmp : RepoTag → RepoTag → Ordering
repo_tag_cmp one other =
    ordering_then (slice_cmp nat_cmp one.0 other.0) (slice_cmp nat_cmp one.1 other.1)

-- the listing has this tag of this repository, and so that it meets each filter
pub record IsSelected (filters : List Filter) (listing : List Listed) (tag : RepoTag) : Type 0 where
  pub listed : Listed
  pub there : Contains listing listed
  pub is : tag ≡ (listed.repo, listed.tag)
  pub meets : All (Meets listed) filters

-- the tags of picks, each with its repository
abbrev pub picked_tags : List Pick → List RepoTag
picked_tags picks = flat_map (λ pick. map (λ tag. (pick.repo, tag)) pick.tags) picks

-- the picks have exactly the selected tags, each once and in byte order of repository and tag; each
-- repository stands once, and none without a tag
pub record IsSelection (filters : List Filter) (listing : List Listed) (picks : List Pick)
    : Type 0 where
  pub exact : (tag : RepoTag) → Contains (picked_tags picks) tag ↔ IsSelected filters listing tag
  pub in_order : IsStrictlySortedBy repo_tag_cmp (picked_tags picks)
  pub once : IsStrictlySortedBy (slice_cmp nat_cmp) (map (λ pick. pick.repo) picks)
  pub some : AllByRecursion (λ pick. pick.tags ≢ []) picks
