-- The plan of a policy: the tasks of what it selects of a listing, by the exact calls of the source
-- that gave that listing, and what holds of it. (Our own, after Harbor's.)
use Rattle.std.specs.Prelude.{◌≡◌, ◌≢◌, ◌<◌, ◌≤◌, ⊤, ℕ, IsTrue, List, [], ◌∷◌, ◌++◌, length, map, flat_map, Result, Ok, Err}
use Rattle.std.specs.List.{AllByRecursion}
use Rattle.std.specs.List.Sorted.{IsStrictlySortedBy}
use Rattle.std.specs.Cmp.Lexicographic.{slice_cmp}
use Rattle.std.specs.Ordering.{nat_cmp}
use Rattle.hr_cause.specs.Stream.{Rose}
use Rattle.hr_name.specs.Name.{RepoName}
use Rattle.hr_event.specs.declared.task.TaskSpec.{TaskSpec}
use Rattle.hr_adapter.specs.Calls.{KeepsOpen, Moved}
use Rattle.hr_adapter.specs.Content.{Content}
use Rattle.hr_adapter.specs.Listing.{repos_of, tags_of}
use Rattle.hr_adapter.specs.Reg.{Reg}
use Rattle.hr_adapter.specs.declared.registry.TheConstants.{LIST_LIMIT}
use Rattle.hr_filter.specs.Selection.{IsSelection, RepoTag, repo_tag_cmp}
use Rattle.hr_filter.specs.declared.filter.Filter.{Filter}
use Rattle.hr_filter.specs.declared.listed.Listed.{Listed}
use Rattle.hr_filter.specs.declared.listed.Pick.{Pick}
use Rattle.hr_policy.specs.declared.config.Policy.{Policy}
use Rattle.hr_plan.specs.Listing.{Breaks, Lists, listing_of}
use Rattle.hr_plan.specs.Naming.{MeetsNames}
use Rattle.hr_plan.specs.Tasks.{AreTasks, IsFirstTooLong}
use Rattle.hr_plan.specs.declared.refusal.PlanRefused.{PlanRefused}
use Rattle.hr_plan.specs.declared.refusal.PlanRefused.TheVariants as why

-- ---- the definition

-- the plan of a policy for a listing: what its filters select, a task for each repository
pub record IsPlan (policy : Policy) (listing : List Listed) (specs : List TaskSpec) : Type 0 where
  pub picks : List Pick
  pub selected : IsSelection policy.filters listing picks
  pub tasks : AreTasks policy picks specs

-- a listing of which a policy has no plan: the first picked repository whose name at the
-- destination is too long
pub record HasLongPlace (policy : Policy) (listing : List Listed) (repo : RepoName) : Type 0 where
  pub picks : List Pick
  pub selected : IsSelection policy.filters listing picks
  pub first : IsFirstTooLong policy picks repo

-- ---- the exact relation

-- a source was listed to its end, and this holds of the listing
pub record Gives (policy : Policy) (before after : Reg) (P : List Listed → Type 0) : Type 0 where
  pub listing : List Listed
  pub lists : Lists policy.filters before after listing
  pub holds : P listing

-- what a source was asked for a policy, in order, and what came out of its answers
abbrev pub Plans : Policy → Reg → Reg → Result (List TaskSpec) PlanRefused → Type 0
Plans policy before after (Ok specs) =
    Gives policy before after (λ listing. IsPlan policy listing specs)
Plans policy before after (Err (why.Dest repo)) =
    Gives policy before after (λ listing. HasLongPlace policy listing repo)
Plans policy before after (Err (why.Fault low high)) =
    Breaks policy.filters before after (PlanRefused.Fault low high)
Plans policy before after (Err (why.TooLong len)) =
    Breaks policy.filters before after (PlanRefused.TooLong len)
Plans policy before after (Err why.Memory) =
    Breaks policy.filters before after PlanRefused.Memory

-- ---- what holds of every plan

-- the tags of tasks, each with its repository at the source
abbrev pub planned_tags : List TaskSpec → List RepoTag
planned_tags specs = flat_map (λ spec. map (λ tag. (spec.from, tag)) spec.tags) specs

-- the repositories of tasks are in byte order, each once, and so are the tags of each, of which
-- there is at least one
pub record AreInOrder (specs : List TaskSpec) : Type 0 where
  pub repos : IsStrictlySortedBy (slice_cmp nat_cmp) (map (λ spec. spec.from) specs)
  pub tags : IsStrictlySortedBy repo_tag_cmp (planned_tags specs)
  pub some : AllByRecursion (λ spec. spec.tags ≢ []) specs

-- what calls that list left, whatever they answered: at most tags were moved, as was planned
pub record Listens (before after : Reg) : Type 0 where
  pub later : before.faults ≤ after.faults
  pub moved : Moved before after
  pub quiet : IsTrue before.quiet → IsTrue after.quiet
  pub sure : IsTrue before.sure → IsTrue after.sure × (after.faults ≡ before.faults)
  pub ever : after.ever ≡ before.ever
  pub kept : KeepsOpen before after

-- a fault of the source is told with counts that rose, and comes only where the source may fail
pub record HasRisen (before after : Reg) (low high : ℕ) : Type 0 where
  pub since : before.faults ≤ low
  pub rose : Rose low high
  pub now : high ≡ after.faults
  pub never : IsTrue before.sure → ⊥

-- ---- a source that tells, and stays as it is

-- none of these repositories that meets all filters on names has more tags than may be listed
abbrev pub AreShort : Content → List Filter → List RepoName → Type 0
AreShort c filters repos =
    AllByRecursion (λ repo. MeetsNames filters repo → length (tags_of c repo) ≤ LIST_LIMIT) repos

-- no list that is asked for has more items than may be listed
pub record EachIsShort (c : Content) (filters : List Filter) : Type 0 where
  pub repos : length (repos_of c) ≤ LIST_LIMIT
  pub tags : AreShort c filters (repos_of c)

-- the first list that is asked for, and has more items than may be listed, has so many
pub data IsFirstLong (c : Content) (filters : List Filter) (len : ℕ) : Type 0 where
  long_repos : LIST_LIMIT < len → length (repos_of c) ≡ len → IsFirstLong c filters len
  long_tags : (front rest : List RepoName) (repo : RepoName) → length (repos_of c) ≤ LIST_LIMIT
      → repos_of c ≡ front ++ repo ∷ rest → AreShort c filters front → MeetsNames filters repo
      → LIST_LIMIT < len → length (tags_of c repo) ≡ len → IsFirstLong c filters len

-- the answer by a content: the plan of all its tags, or the first pick whose name at the
-- destination is too long, or the first list that is; a fault and want of memory may come before
abbrev pub AnswersBy : Policy → Content → Result (List TaskSpec) PlanRefused → Type 0
AnswersBy policy c (Ok specs) =
    EachIsShort c policy.filters × IsPlan policy (listing_of c) specs
AnswersBy policy c (Err (why.Dest repo)) =
    EachIsShort c policy.filters × HasLongPlace policy (listing_of c) repo
AnswersBy policy c (Err (why.TooLong len)) = IsFirstLong c policy.filters len
AnswersBy policy c (Err (why.Fault low high)) = ⊤
AnswersBy policy c (Err why.Memory) = ⊤
