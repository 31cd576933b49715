-- The tasks that a trigger plans. (Our own.)
use Rattle.std.specs.Prelude.{◌≡◌, ◌&&◌, Bool, true, nat_le, if◌then◌else◌, List, [], ◌∷◌, length, map, flat_map, Option, Some, None}
use Rattle.std.specs.List.{list_all}
use Rattle.hr_event.specs.declared.task.TaskSpec.{TaskSpec}
use Rattle.hr_name.specs.Name.{RepoName}
use Rattle.hr_adapter.specs.Content.{Content}
use Rattle.hr_adapter.specs.Listing.{repos_of, tags_of}
use Rattle.hr_adapter.specs.declared.listed.Tagged.{Tagged}
use Rattle.hr_adapter.specs.declared.registry.TheConstants.{LIST_LIMIT}

-- the task of a repository: all its tags, from registry 1 to registry 2, in three attempts
abbrev pub spec_of : RepoName → List Tagged → TaskSpec
spec_of repo tags = record {
  policy = record { 0 = 1 };
  src = record { 0 = 1 };
  dst = record { 0 = 2 };
  from = repo;
  to = repo;
  tags = map (λ tagged. tagged.tag) tags;
  override_it = true;
  attempts = 3;
}

-- the task of a repository that has a tag, and none of one that has none
abbrev pub specs_for : RepoName → List Tagged → List TaskSpec
specs_for repo [] = []
specs_for repo (tagged ∷ tags) = spec_of repo (tagged ∷ tags) ∷ []

-- the tasks of these repositories
abbrev pub specs_of : Content → List RepoName → List TaskSpec
specs_of c repos = flat_map (λ repo. specs_for repo (tags_of c repo)) repos

-- a list is not longer than may be listed
abbrev pub is_short : {X : Type 0} → List X → Bool
is_short items = nat_le (length items) LIST_LIMIT

-- the tags of each of these repositories can be listed
abbrev pub are_listed : Content → List RepoName → Bool
are_listed c repos = list_all (λ repo. is_short (tags_of c repo)) repos

-- a task for each repository that has a tag, in byte order, unless a list is too long
abbrev pub plan_of : Content → Option (List TaskSpec)
plan_of c = if is_short (repos_of c) && are_listed c (repos_of c)
    then Some (specs_of c (repos_of c)) else None

-- a task of policy 1: from registry 1 to the repository of the same name in registry 2, in three
-- attempts
pub record IsPlanned (spec : TaskSpec) : Type 0 where
  pub policy : spec.policy.0 ≡ 1
  pub src : spec.src.0 ≡ 1
  pub dst : spec.dst.0 ≡ 2
  pub same : spec.to ≡ spec.from
  pub over : spec.override_it ≡ true
  pub attempts : spec.attempts ≡ 3
