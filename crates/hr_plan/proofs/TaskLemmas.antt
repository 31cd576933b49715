-- Lemmas on tasks, pick by pick.
use Rattle.std.proofs.Common.{◌≡◌, ◌<◌, ◌≤◌, ◌+◌, ℕ, List, [], ◌∷◌, ◌++◌, length, map, get_or, take, sym, ap, subst, ◌∙◌}
use Rattle.std.specs.Prelude.{Ok, Err}
use Rattle.std.proofs.lemmas.List.{map-append, take_all, take_more}
use Rattle.std.proofs.lemmas.List.Elements.{All-more}
use Rattle.hr_event.specs.declared.task.TaskSpec.{TaskSpec}
use Rattle.hr_filter.specs.declared.listed.Pick.{Pick}
use Rattle.hr_policy.specs.declared.config.Policy.{Policy}
use Rattle.hr_plan.specs.Tasks.{AreTasks, HasPlace, MakesTask, MakesTasks, spec_of}
use Rattle.hr_plan.specs.declared.refusal.PlanRefused.{PlanRefused}
use Rattle.hr_plan.specs.declared.refusal.PlanRefused.TheVariants as why

pub tasks_more : (policy : Policy) (picks : List Pick) (at : ℕ) (pick : Pick) (specs made : List TaskSpec) (spec : TaskSpec)
    → AreTasks policy (take at picks) specs → at < length picks → pick ≡ get_or picks at pick
    → made ≡ specs ++ spec ∷ [] → MakesTask policy pick (Ok spec) → AreTasks policy (take (at + 1) picks) made
tasks_more policy picks at pick specs made spec so_far within is push task =
    let cut : take (at + 1) picks ≡ take at picks ++ pick ∷ []
    = take_more picks at pick within ∙ ap (λ (p : Pick). take at picks ++ p ∷ []) (sym is) in
    let mapped : map (spec_of policy) (take (at + 1) picks) ≡ map (spec_of policy) (take at picks) ++ spec_of policy pick ∷ []
    = ap (map (spec_of policy)) cut ∙ map-append (spec_of policy) (take at picks) (pick ∷ []) in
    record {
      each = push ∙ ap (λ (s : TaskSpec). specs ++ s ∷ []) task.0
          ∙ ap (λ (l : List TaskSpec). l ++ spec_of policy pick ∷ []) so_far.each ∙ sym mapped;
      places = All-more (HasPlace policy) picks at pick within so_far.places (subst (HasPlace policy) is task.1);
    }

pub tasks_all : (policy : Policy) (picks : List Pick) (at : ℕ) (specs : List TaskSpec)
    → AreTasks policy (take at picks) specs → length picks ≤ at → AreTasks policy picks specs
tasks_all policy picks at specs so_far past =
    subst (λ (l : List Pick). AreTasks policy l specs) (take_all at picks past) so_far

-- the error of a pick is that of all
pub tasks_stop : (policy : Policy) (picks : List Pick) (at : ℕ) (pick : Pick) (specs : List TaskSpec) (w : PlanRefused)
    → AreTasks policy (take at picks) specs → at < length picks → pick ≡ get_or picks at pick
    → MakesTask policy pick (Err w) → MakesTasks policy picks (Err w)
tasks_stop policy picks at pick specs (why.Fault low high) so_far within is stops = absurd stops
tasks_stop policy picks at pick specs (why.TooLong len) so_far within is stops = absurd stops
tasks_stop policy picks at pick specs (why.Dest repo) so_far within is stops = record {
  at = at;
  pick = pick;
  within = within;
  here = is;
  before = so_far.places;
  long = stops.1;
  is = stops.0;
}
tasks_stop policy picks at pick specs why.Memory so_far within is stops = tt
