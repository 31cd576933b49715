-- Laws of plans: what follows from the calls that a plan was made by.
use Rattle.std.proofs.Common.{◌≡◌, ◌↔◌, ◌≤◌, ℕ, IsTrue, List, [], ◌∷◌, ◌++◌, length, Option, Some, None, refl, sym, ap, subst, ◌∙◌}
use Rattle.std.specs.Prelude.{IfOk, IfSome, Result, Ok, Err}
use Rattle.std.specs.List.{AllByRecursion}
use Rattle.std.proofs.lemmas.Grind.{flat_map-append}
use Rattle.std.proofs.lemmas.List.{append-nil}
use Rattle.hr_name.specs.Name.{RepoName}
use Rattle.hr_event.specs.declared.task.TaskSpec.{TaskSpec}
use Rattle.hr_adapter.specs.Content.{Content}
use Rattle.hr_adapter.specs.Listing.{repos_of, tags_of}
use Rattle.hr_adapter.specs.Reg.{Reg}
use Rattle.hr_adapter.specs.declared.listed.Tagged.{Tagged}
use Rattle.hr_adapter.specs.declared.registry.TheConstants.{LIST_LIMIT}
use Rattle.hr_filter.specs.Selection.{IsSelected, IsSelection, RepoTag}
use Rattle.hr_filter.specs.declared.filter.Filter.{Filter}
use Rattle.hr_filter.specs.declared.listed.Listed.{Listed}
use Rattle.hr_filter.specs.declared.listed.Pick.{Pick}
use Rattle.hr_policy.specs.declared.config.Policy.{Policy}
use Rattle.hr_plan.specs.Listing.{AsksTags, Breaks, Goes, Lists, Reaches, Visits, listed_in, listed_under, listing_of}
use Rattle.hr_plan.specs.Listing.Breaks.{at_repos, at_tags, no_room}
use Rattle.hr_plan.specs.Listing.Goes.{none, more}
use Rattle.hr_plan.specs.Listing.Halts.{failed, unkept}
use Rattle.hr_plan.specs.Listing.Visits.{passed, asked}
use Rattle.hr_plan.specs.Naming.{MeetsNames}
use Rattle.hr_plan.specs.Plan.{AnswersBy, AreInOrder, AreShort, EachIsShort, HasRisen, IsFirstLong, Listens, Plans}
use Rattle.hr_plan.specs.Plan.IsFirstLong.{long_repos, long_tags}
use Rattle.hr_plan.specs.Tasks.{MakesTasks}
use Rattle.hr_plan.specs.declared.refusal.PlanRefused.{PlanRefused}
use Rattle.hr_plan.specs.declared.refusal.PlanRefused.TheVariants as why
use Rattle.hr_plan.proofs.CallLemmas.{listens_breaks, listens_goes, listens_reaches, listens_repos, listens_visits, risen_breaks}
use Rattle.hr_plan.proofs.NamingLemmas.{selected_behind, selected_beside, selected_none}
use Rattle.hr_plan.proofs.OrderLemmas.{plan_in_order}

-- ---- the relation, from the parts of the call

pub planned : (policy : Policy) (s t : Reg) (listing : List Listed) (picks : List Pick) (result : Result (List TaskSpec) PlanRefused)
    → Lists policy.filters s t listing → IsSelection policy.filters listing picks → MakesTasks policy picks result
    → Plans policy s t result
planned policy s t listing picks (Ok specs) lists selected made =
    record { listing = listing; lists = lists; holds = record { picks = picks; selected = selected; tasks = made } }
planned policy s t listing picks (Err (why.Dest repo)) lists selected made =
    record { listing = listing; lists = lists; holds = record { picks = picks; selected = selected; first = made } }
planned policy s t listing picks (Err (why.Fault low high)) lists selected made = absurd made
planned policy s t listing picks (Err (why.TooLong len)) lists selected made = absurd made
planned policy s t listing picks (Err why.Memory) lists selected made = no_room listing lists refl

dest_never : (filters : List Filter) (s t : Reg) (repo : RepoName) → Breaks filters s t (PlanRefused.Dest repo) → ⊥
dest_never filters s t repo (at_repos r) = r
dest_never filters s t repo (at_tags front rest other mid listing r (failed meets q)) = q
dest_never filters s t repo (at_tags front rest other mid listing r (unkept tags meets answer is)) = cc is
dest_never filters s t repo (no_room listing l is) = cc is

pub unplanned : (policy : Policy) (s t : Reg) (w : PlanRefused) → Breaks policy.filters s t w → Plans policy s t (Err w)
unplanned policy s t (why.Fault low high) broken = broken
unplanned policy s t (why.TooLong len) broken = broken
unplanned policy s t (why.Dest repo) broken = absurd (dest_never policy.filters s t repo broken)
unplanned policy s t why.Memory broken = broken

-- ---- whatever the source tells

-- at most tags were moved, as was planned
pub plans_listen : (policy : Policy) (s t : Reg) (result : Result (List TaskSpec) PlanRefused) → Plans policy s t result → Listens s t
plans_listen policy s t (Ok specs) p = listens_reaches policy.filters s p.lists.names [] t p.listing p.lists.reaches
plans_listen policy s t (Err (why.Dest repo)) p = listens_reaches policy.filters s p.lists.names [] t p.listing p.lists.reaches
plans_listen policy s t (Err (why.Fault low high)) p = listens_breaks policy.filters s t (PlanRefused.Fault low high) p
plans_listen policy s t (Err (why.TooLong len)) p = listens_breaks policy.filters s t (PlanRefused.TooLong len) p
plans_listen policy s t (Err why.Memory) p = listens_breaks policy.filters s t PlanRefused.Memory p

-- the tasks are in order
pub plans_in_order : (policy : Policy) (s t : Reg) (result : Result (List TaskSpec) PlanRefused) → Plans policy s t result → IfOk result AreInOrder
plans_in_order policy s t (Ok specs) p = plan_in_order policy p.listing specs p.holds
plans_in_order policy s t (Err w) p = tt

-- a fault is told with counts that rose
pub plans_risen : (policy : Policy) (s t : Reg) (result : Result (List TaskSpec) PlanRefused) (low high : ℕ) → Plans policy s t result
    → result ≡ Err (PlanRefused.Fault low high) → HasRisen s t low high
plans_risen policy s t result low high p is = risen_breaks policy.filters s t low high (subst (Plans policy s t) is p)

-- ---- a source that tells, and stays as it is

-- its content is this one, and no change is planned
pub record IsStill (c : Content) (s : Reg) : Type 0 where
  pub told : s.told ≡ Some c
  pub quiet : IsTrue s.quiet

still_then : (c : Content) (s t : Reg) → IsStill c s → Listens s t → IsStill c t
still_then c s t still h = record { told = h.moved.quiet still.quiet ∙ still.told; quiet = h.quiet still.quiet }

said : (P : Content → Type 0) (c : Content) (o : Option Content) → o ≡ Some c → IfSome o P → P c
said P c o is answer = subst (λ (t : Option Content). IfSome t P) is answer

tags_said : (c : Content) (repo : RepoName) (s t : Reg) (tags : List Tagged) → IsStill c s → AsksTags repo s t (Ok tags)
    → Listens s t → tags ≡ tags_of c repo
tags_said c repo s t tags still answer h =
    said (λ d. tags ≡ tags_of d repo) c t.told (still_then c s t still h).told answer.call.told

visits_select : (c : Content) (filters : List Filter) (repo : RepoName) (s t : Reg) (listing made all : List Listed) (tag : RepoTag)
    → IsStill c s → Visits filters repo s t listing made
    → (IsSelected filters listing tag ↔ IsSelected filters all tag)
    → IsSelected filters made tag ↔ IsSelected filters (all ++ listed_in repo (tags_of c repo)) tag
visits_select c filters repo s t listing made all tag still (passed misses same is) so_far =
    subst (λ (l : List Listed). IsSelected filters l tag ↔ IsSelected filters (all ++ listed_in repo (tags_of c repo)) tag) (sym is)
    (selected_beside filters listing all (listed_in repo (tags_of c repo)) tag so_far
    (selected_none filters repo (tags_of c repo) tag misses))
visits_select c filters repo s t listing made all tag still (asked tags meets answer is) so_far =
    let visit : Visits filters repo s t listing made = asked tags meets answer is in
    let same : tags ≡ tags_of c repo
    = tags_said c repo s t tags still answer (listens_visits filters repo s t listing made visit) in
    subst (λ (l : List Listed). IsSelected filters l tag ↔ IsSelected filters (all ++ listed_in repo (tags_of c repo)) tag)
    (sym (is ∙ ap (λ (ts : List Tagged). listing ++ listed_in repo ts) same))
    (selected_behind filters listing all (listed_in repo (tags_of c repo)) tag so_far)

under_more : (c : Content) (front : List RepoName) (repo : RepoName)
    → listed_under c (front ++ repo ∷ []) ≡ listed_under c front ++ listed_in repo (tags_of c repo)
under_more c front repo =
    flat_map-append (λ (r : RepoName). listed_in r (tags_of c r)) front (repo ∷ [])
    ∙ ap (λ (l : List Listed). listed_under c front ++ l) (append-nil (listed_in repo (tags_of c repo)))

-- what is selected of what was listed is what is selected of all tags of the same repositories
goes_select : (c : Content) (filters : List Filter) (s : Reg) (names : List RepoName) (t : Reg) (made : List Listed) (tag : RepoTag)
    → IsStill c s → Goes filters s names t made
    → IsSelected filters made tag ↔ IsSelected filters (listed_under c names) tag
goes_select c filters s names t made tag still (none empty same is) =
    let here : made ≡ listed_under c names = is ∙ ap (listed_under c) (sym empty) in
    subst (λ (l : List Listed). IsSelected filters made tag ↔ IsSelected filters l tag) here (λ x. x, λ x. x)
goes_select c filters s names t made tag still (more front repo mid listing cut so_far visit) =
    let there = still_then c s mid still (listens_goes filters s front mid listing so_far) in
    subst (λ (l : List Listed). IsSelected filters made tag ↔ IsSelected filters l tag)
    (sym (ap (listed_under c) cut ∙ under_more c front repo))
    (visits_select c filters repo mid t listing made (listed_under c front) tag there visit
    (goes_select c filters s front mid listing tag still so_far))

repos_said : (c : Content) (filters : List Filter) (s : Reg) (front rest : List RepoName) (t : Reg) (listing : List Listed)
    → IsStill c s → (r : Reaches filters s front rest t listing) → IsStill c r.first × (front ++ rest ≡ repos_of c)
repos_said c filters s front rest t listing still r =
    let first = still_then c s r.first still (listens_repos s r.first (Ok (front ++ rest)) r.asks) in
    (first, said (λ d. front ++ rest ≡ repos_of d) c r.first.told first.told r.asks.call.told)

lists_select : (c : Content) (filters : List Filter) (s t : Reg) (listing : List Listed) (picks : List Pick)
    → IsStill c s → Lists filters s t listing → IsSelection filters listing picks → IsSelection filters (listing_of c) picks
lists_select c filters s t listing picks still lists selected =
    let names = lists.names in
    let there = repos_said c filters s names [] t listing still lists.reaches in
    let all : names ≡ repos_of c = sym (append-nil names) ∙ there.1 in
    record {
      exact = λ tag.
          let same = subst (λ (l : List RepoName). IsSelected filters listing tag ↔ IsSelected filters (listed_under c l) tag) all
          (goes_select c filters lists.reaches.first names t listing tag there.0 lists.reaches.goes) in
          (λ picked. same.0 ((selected.exact tag).0 picked), λ is. (selected.exact tag).1 (same.1 is));
      in_order = selected.in_order;
      once = selected.once;
      some = selected.some;
    }

-- ---- lists within their limit

short_push : (P : RepoName → Type 0) (front : List RepoName) (repo : RepoName) → AllByRecursion P front → P repo
    → AllByRecursion P (front ++ repo ∷ [])
short_push P [] repo all here = (here, tt)
short_push P (x ∷ xs) repo all here = (all.0, short_push P xs repo all.1 here)

visits_short : (c : Content) (filters : List Filter) (repo : RepoName) (s t : Reg) (listing made : List Listed)
    → IsStill c s → Visits filters repo s t listing made → MeetsNames filters repo → length (tags_of c repo) ≤ LIST_LIMIT
visits_short c filters repo s t listing made still (passed misses same is) meets = absurd (misses meets)
visits_short c filters repo s t listing made still (asked tags own answer is) meets =
    let visit : Visits filters repo s t listing made = asked tags own answer is in
    subst (λ (ts : List Tagged). length ts ≤ LIST_LIMIT)
    (tags_said c repo s t tags still answer (listens_visits filters repo s t listing made visit)) answer.call.short

goes_short : (c : Content) (filters : List Filter) (s : Reg) (names : List RepoName) (t : Reg) (made : List Listed)
    → IsStill c s → Goes filters s names t made → AreShort c filters names
goes_short c filters s names t made still (none empty same is) = subst (AreShort c filters) (sym empty) tt
goes_short c filters s names t made still (more front repo mid listing cut so_far visit) =
    let there = still_then c s mid still (listens_goes filters s front mid listing so_far) in
    subst (AreShort c filters) (sym cut)
    (short_push (λ r. MeetsNames filters r → length (tags_of c r) ≤ LIST_LIMIT) front repo
    (goes_short c filters s front mid listing still so_far)
    (visits_short c filters repo mid t listing made there visit))

lists_short : (c : Content) (filters : List Filter) (s t : Reg) (listing : List Listed) → IsStill c s
    → Lists filters s t listing → EachIsShort c filters
lists_short c filters s t listing still lists =
    let names = lists.names in
    let there = repos_said c filters s names [] t listing still lists.reaches in
    let all : names ≡ repos_of c = sym (append-nil names) ∙ there.1 in
    record {
      repos = subst (λ (l : List RepoName). length l ≤ LIST_LIMIT) there.1 lists.reaches.asks.call.short;
      tags = subst (AreShort c filters) all
          (goes_short c filters lists.reaches.first names t listing there.0 lists.reaches.goes);
    }

breaks_long : (c : Content) (filters : List Filter) (s t : Reg) (len : ℕ) → IsStill c s
    → Breaks filters s t (PlanRefused.TooLong len) → IsFirstLong c filters len
breaks_long c filters s t len still (at_repos r) =
    let after = still_then c s t still (listens_repos s t (Err _) r) in
    let says = r.call.too_long len refl in
    long_repos says.0 (said (λ d. length (repos_of d) ≡ len) c t.told after.told says.1)
breaks_long c filters s t len still (at_tags front rest repo mid listing r (failed meets q)) =
    let there = repos_said c filters s front (repo ∷ rest) mid listing still r in
    let here = still_then c r.first mid there.0 (listens_goes filters r.first front mid listing r.goes) in
    let after = still_then c s t still (listens_breaks filters s t (PlanRefused.TooLong len)
    (at_tags front rest repo mid listing r (failed meets q))) in
    let says = q.call.too_long len refl in
    long_tags front rest repo
    (subst (λ (l : List RepoName). length l ≤ LIST_LIMIT) there.1 r.asks.call.short) (sym there.1)
    (goes_short c filters r.first front mid listing there.0 r.goes) meets says.0
    (said (λ d. length (tags_of d repo) ≡ len) c t.told after.told says.1)
breaks_long c filters s t len still (at_tags front rest repo mid listing r (unkept tags meets answer is)) = cc is
breaks_long c filters s t len still (no_room listing l is) = cc is

-- ---- the answer by the content

answers_still : (policy : Policy) (c : Content) (s t : Reg) (result : Result (List TaskSpec) PlanRefused) → IsStill c s
    → Plans policy s t result → AnswersBy policy c result
answers_still policy c s t (Ok specs) still p = (
  lists_short c policy.filters s t p.listing still p.lists,
  record {
    picks = p.holds.picks;
    selected = lists_select c policy.filters s t p.listing p.holds.picks still p.lists p.holds.selected;
    tasks = p.holds.tasks;
  },
)
answers_still policy c s t (Err (why.Dest repo)) still p = (
  lists_short c policy.filters s t p.listing still p.lists,
  record {
    picks = p.holds.picks;
    selected = lists_select c policy.filters s t p.listing p.holds.picks still p.lists p.holds.selected;
    first = p.holds.first;
  },
)
answers_still policy c s t (Err (why.TooLong len)) still p = breaks_long c policy.filters s t len still p
answers_still policy c s t (Err (why.Fault low high)) still p = tt
answers_still policy c s t (Err why.Memory) still p = tt

answers_at : (policy : Policy) (o : Option Content) (s t : Reg) (result : Result (List TaskSpec) PlanRefused) → s.told ≡ o
    → IsTrue s.quiet → Plans policy s t result → IfSome o (λ c. AnswersBy policy c result)
answers_at policy (Some c) s t result is quiet p = answers_still policy c s t result (record { told = is; quiet = quiet }) p
answers_at policy None s t result is quiet p = tt

-- a source that tells, and of which no change is planned: the answer is that by its content
pub plans_told : (policy : Policy) (s t : Reg) (result : Result (List TaskSpec) PlanRefused) → Plans policy s t result
    → IsTrue s.quiet → IfSome s.told (λ c. AnswersBy policy c result)
plans_told policy s t result p quiet = answers_at policy s.told s t result refl quiet p
