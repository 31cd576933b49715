-- A law of plans: what each of their tasks copies.
use Rattle.std.proofs.Common.{◌≡◌, ◌&&◌, ◌++◌, Bool, true, false, if◌then◌else◌, List, [], ◌∷◌, Some, None, refl, subst}
use Rattle.std.specs.List.{AllByRecursion}
use Rattle.hr_event.specs.declared.task.TaskSpec.{TaskSpec}
use Rattle.hr_name.specs.Name.{RepoName}
use Rattle.hr_adapter.specs.Content.{Content}
use Rattle.hr_adapter.specs.Listing.{repos_of, tags_of}
use Rattle.hr_adapter.specs.declared.listed.Tagged.{Tagged}
use Rattle.hr_opening.specs.Plan.{IsPlanned, are_listed, is_short, plan_of, specs_for, specs_of}

both_planned : (specs others : List TaskSpec) → AllByRecursion IsPlanned specs → AllByRecursion IsPlanned others → AllByRecursion IsPlanned (specs ++ others)
both_planned [] others all more = more
both_planned (spec ∷ specs) others all more = (all.0, both_planned specs others all.1 more)

one_planned : (repo : RepoName) (tags : List Tagged) → AllByRecursion IsPlanned (specs_for repo tags)
one_planned repo [] = tt
one_planned repo (tag ∷ tags) = (
  record { policy = refl; src = refl; dst = refl; same = refl; over = refl; attempts = refl },
  tt,
)

each_planned : (c : Content) (repos : List RepoName) → AllByRecursion IsPlanned (specs_of c repos)
each_planned c [] = tt
each_planned c (repo ∷ repos) =
    both_planned (specs_for repo (tags_of c repo)) (specs_of c repos) (one_planned repo (tags_of c repo)) (each_planned c repos)

-- each task of a plan is of policy 1, from registry 1 to registry 2
pub plan_planned : (c : Content) (specs : List TaskSpec) → plan_of c ≡ Some specs → AllByRecursion IsPlanned specs
plan_planned c specs is = go (is_short (repos_of c) && are_listed c (repos_of c)) is
  where
    go : (listed : Bool) → (if listed then Some (specs_of c (repos_of c)) else None) ≡ Some specs → AllByRecursion IsPlanned specs
    go true e =
        let same : specs_of c (repos_of c) ≡ specs = cc e in
        subst (λ (all : List TaskSpec). AllByRecursion IsPlanned all) same (each_planned c (repos_of c))
    go false e = cc e
