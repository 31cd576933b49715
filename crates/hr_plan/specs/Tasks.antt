-- The tasks of a policy. (Our own, after Harbor's.)
use Rattle.std.specs.Prelude.{◌≡◌, ◌<◌, ◌≤◌, ⊤, ℕ, List, map, length, take, slice_index_or, All, Result, Ok, Err}
use Rattle.hr_name.specs.Name.{RepoName}
use Rattle.hr_name.specs.declared.name.TheConstants.{NAME_LIMIT}
use Rattle.hr_event.specs.declared.task.TaskSpec.{TaskSpec}
use Rattle.hr_filter.specs.Naming.{destination_of}
use Rattle.hr_filter.specs.declared.listed.Pick.{Pick}
use Rattle.hr_policy.specs.declared.config.Policy.{Policy}
use Rattle.hr_plan.specs.declared.refusal.PlanRefused.{PlanRefused}
use Rattle.hr_plan.specs.declared.refusal.PlanRefused.TheVariants as why

-- the name of a repository at the destination of a policy
abbrev pub place_of : Policy → RepoName → RepoName
place_of policy repo = destination_of policy.namespace policy.replace repo

-- the task of a policy for a pick
abbrev pub spec_of : Policy → Pick → TaskSpec
spec_of policy pick = record {
  policy = policy.id;
  src = policy.src;
  dst = policy.dst;
  from = pick.repo;
  to = place_of policy pick.repo;
  tags = pick.tags;
  override_it = policy.override_it;
  attempts = policy.attempts;
}

-- a pick has a name at the destination that is not too long
abbrev pub HasPlace : Policy → Pick → Type 0
HasPlace policy pick = length (place_of policy pick.repo) ≤ NAME_LIMIT

-- this is the first pick whose name at the destination is too long
pub record IsFirstTooLong (policy : Policy) (picks : List Pick) (repo : RepoName) : Type 0 where
  pub at : ℕ
  pub pick : Pick
  pub within : at < length picks
  pub here : pick ≡ slice_index_or picks at pick
  pub before : All (HasPlace policy) (take at picks)
  pub long : NAME_LIMIT < length (place_of policy pick.repo)
  pub is : repo ≡ pick.repo

-- each pick has its task
pub record AreTasks (policy : Policy) (picks : List Pick) (specs : List TaskSpec) : Type 0 where
  pub each : specs ≡ map (spec_of policy) picks
  pub places : All (HasPlace policy) picks

-- the task of one pick, or that its name at the destination is too long
abbrev pub MakesTask : Policy → Pick → Result TaskSpec PlanRefused → Type 0
MakesTask policy pick (Ok spec) = (spec ≡ spec_of policy pick) × HasPlace policy pick
MakesTask policy pick (Err (why.Dest repo)) =
    (repo ≡ pick.repo) × (NAME_LIMIT < length (place_of policy pick.repo))
MakesTask policy pick (Err why.Memory) = ⊤
MakesTask policy pick (Err other) = ⊥

-- the tasks of all picks, or the first whose name at the destination is too long
abbrev pub MakesTasks : Policy → List Pick → Result (List TaskSpec) PlanRefused → Type 0
MakesTasks policy picks (Ok specs) = AreTasks policy picks specs
MakesTasks policy picks (Err (why.Dest repo)) = IsFirstTooLong policy picks repo
MakesTasks policy picks (Err why.Memory) = ⊤
MakesTasks policy picks (Err other) = ⊥
