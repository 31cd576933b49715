-- Lemmas on the order of tasks, which is that of picks.
use Rattle.std.proofs.Common.{◌↔◌, ◌∙◌, Contains, ◌≡◌, ◌≢◌, List, [], ◌∷◌, ◌++◌, map, refl, sym, ap, subst}
use Rattle.std.specs.List.{AllByRecursion}
use Rattle.std.specs.List.Sorted.{IsStrictlySortedBy}
use Rattle.std.specs.Cmp.Lexicographic.{slice_cmp}
use Rattle.std.specs.Ordering.{nat_cmp}
use Rattle.hr_name.specs.Name.{RepoName}
use Rattle.hr_event.specs.declared.task.TaskSpec.{TaskSpec}
use Rattle.hr_filter.specs.Selection.{IsSelected, RepoTag, picked_tags, repo_tag_cmp}
use Rattle.hr_filter.specs.declared.listed.Listed.{Listed}
use Rattle.hr_filter.specs.declared.listed.Pick.{Pick}
use Rattle.hr_policy.specs.declared.config.Policy.{Policy}
use Rattle.hr_plan.specs.Plan.{AreInOrder, IsPlan, planned_tags}
use Rattle.hr_plan.specs.Tasks.{spec_of}

repos_are : (policy : Policy) (picks : List Pick)
    → map (λ (s : TaskSpec). s.from) (map (spec_of policy) picks) ≡ map (λ (p : Pick). p.repo) picks
repos_are policy [] = refl
repos_are policy (p ∷ ps) = ap (λ (l : List RepoName). p.repo ∷ l) (repos_are policy ps)

tags_are : (policy : Policy) (picks : List Pick) → planned_tags (map (spec_of policy) picks) ≡ picked_tags picks
tags_are policy [] = refl
tags_are policy (p ∷ ps) = ap (λ (l : List RepoTag). map (λ tag. (p.repo, tag)) p.tags ++ l) (tags_are policy ps)

some_are : (policy : Policy) (picks : List Pick) → AllByRecursion (λ (p : Pick). p.tags ≢ []) picks
    → AllByRecursion (λ (s : TaskSpec). s.tags ≢ []) (map (spec_of policy) picks)
some_are policy [] some = tt
some_are policy (p ∷ ps) some = (some.0, some_are policy ps some.1)

-- the tasks of a plan are in order
pub plan_in_order : (policy : Policy) (listing : List Listed) (specs : List TaskSpec) → IsPlan policy listing specs → AreInOrder specs
plan_in_order policy listing specs plan = subst AreInOrder (sym plan.tasks.each) (record {
  repos = subst (IsStrictlySortedBy (slice_cmp nat_cmp)) (sym (repos_are policy plan.picks)) plan.selected.once;
  tags = subst (IsStrictlySortedBy repo_tag_cmp) (sym (tags_are policy plan.picks)) plan.selected.in_order;
  some = some_are policy plan.picks plan.selected.some;
})

-- the tasks of a plan have exactly the selected tags
pub plan_exact : (policy : Policy) (listing : List Listed) (specs : List TaskSpec) → IsPlan policy listing specs
    → (tag : RepoTag) → Contains (planned_tags specs) tag ↔ IsSelected policy.filters listing tag
plan_exact policy listing specs plan tag =
    subst (λ (tags : List RepoTag). Contains tags tag ↔ IsSelected policy.filters listing tag)
    (sym (ap planned_tags plan.tasks.each ∙ tags_are policy plan.picks)) (plan.selected.exact tag)
