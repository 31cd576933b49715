-- A listing has one plan: lists in strict order with the same elements are the same, and so are picks
-- of the same tags.
use Rattle.std.proofs.Common.{◌≡◌, ◌≢◌, ◌⊎◌, inl, inr, false, cond, List, [], ◌∷◌, ◌++◌, map, Contains, refl, sym, ap, subst, ◌∙◌, arith}
use Rattle.std.specs.Prelude.{nat_eq}
use Rattle.std.specs.List.{AllByRecursion}
use Rattle.std.specs.List.Sorted.{IsStrictlySortedBy}
use Rattle.std.specs.Cmp.{IsTotalOrder}
use Rattle.std.specs.declared.cmp.Ordering.{Ordering}
use Rattle.std.specs.declared.cmp.Ordering.TheVariants.{Less, Equal}
use Rattle.std.specs.Cmp.Lexicographic.{bytes_decides, nat_list_eq_equiv, pointwise, slice_cmp}
use Rattle.std.specs.Ordering.{nat_cmp}
use Rattle.std.proofs.lemmas.Bool.{cases_Bool}
use Rattle.std.proofs.lemmas.Cmp.{nat_list_cmp_total, on_total, then_total, tied_itself}
use Rattle.std.proofs.lemmas.List.Elements.{All-contains, All-from_recursion, Contains-append_cases, Contains-append_left, Contains-append_right, Contains-push, Contains-push_cases}
use Rattle.hr_name.specs.Name.{RepoName}
use Rattle.hr_name.specs.Tag.{TagName}
use Rattle.hr_event.specs.declared.task.TaskSpec.{TaskSpec}
use Rattle.hr_filter.specs.Grouping.{grouped, onto_picks}
use Rattle.hr_filter.specs.Selection.{IsSelection, RepoTag, picked_tags, repo_tag_cmp}
use Rattle.hr_filter.specs.declared.filter.Filter.{Filter}
use Rattle.hr_filter.specs.declared.listed.Listed.{Listed}
use Rattle.hr_filter.specs.declared.listed.Pick.{Pick}
use Rattle.hr_policy.specs.declared.config.Policy.{Policy}
use Rattle.hr_plan.specs.Plan.{IsPlan}
use Rattle.hr_plan.specs.Tasks.{spec_of}

-- ---- lists in strict order

never_both : {K : Type 0} (R : K → K → Ordering) → IsTotalOrder R → (x y : K) → R x y ≡ Less → R y x ≡ Less → ⊥
never_both R o x y p q =
    let loop : R x x ≡ Less = o.trans x y x p q in
    let tie : R x x ≡ Equal = tied_itself o x in
    cc

below : {K : Type 0} (R : K → K → Ordering) (x : K) (xs : List K) (k : K) → AllByRecursion (λ y. R x y ≡ Less) xs → Contains xs k → R x k ≡ Less
below R x xs k all there = All-contains (λ y. R x y ≡ Less) xs k (All-from_recursion (λ y. R x y ≡ Less) xs all) there

none_in : {K : Type 0} (k : K) → Contains [] k → ⊥
none_in k there = let within = there.1 in omega (arith, within)

here : {K : Type 0} (x : K) (xs : List K) → Contains (x ∷ xs) x
here x xs = Contains-append_left (x ∷ []) xs x (Contains-push [] x)

behind : {K : Type 0} (x : K) (xs : List K) (k : K) → Contains xs k → Contains (x ∷ xs) k
behind x xs k there = Contains-append_right (x ∷ []) xs k there

first_or : {K : Type 0} (x : K) (xs : List K) (k : K) → Contains (x ∷ xs) k → (x ≡ k) ⊎ Contains xs k
first_or x xs k there = elim (Contains-append_cases (x ∷ []) xs k there) [
  | inl one ↦ elim (Contains-push_cases [] x k one) [
    | inl none ↦ absurd (none_in k none)
    | inr same ↦ inl same
  ]
  | inr rest ↦ inr rest
]

heads : {K : Type 0} (R : K → K → Ordering) → IsTotalOrder R → (x y : K) (xs ys : List K)
    → AllByRecursion (λ k. R x k ≡ Less) xs → AllByRecursion (λ k. R y k ≡ Less) ys
    → (y ≡ x) ⊎ Contains ys x → (x ≡ y) ⊎ Contains xs y → x ≡ y
heads R o x y xs ys s t (inl same) second = sym same
heads R o x y xs ys s t (inr low) (inl same) = same
heads R o x y xs ys s t (inr low) (inr high) = absurd (never_both R o y x (below R y ys x t low) (below R x xs y s high))

tails : {K : Type 0} (R : K → K → Ordering) → IsTotalOrder R → (x y : K) (xs ys : List K) (k : K) → x ≡ y
    → AllByRecursion (λ z. R x z ≡ Less) xs → Contains xs k → Contains (y ∷ ys) k → Contains ys k
tails R o x y xs ys k same s there into = elim (first_or y ys k into) [
  | inl first ↦
      let less : R x x ≡ Less = subst (λ z. R x z ≡ Less) (sym (same ∙ first)) (below R x xs k s there) in
      absurd (never_both R o x x less less)
  | inr rest ↦ rest
]

sorted_same : {K : Type 0} (R : K → K → Ordering) → IsTotalOrder R → (xs ys : List K) → IsStrictlySortedBy R xs → IsStrictlySortedBy R ys
    → ((k : K) → Contains xs k → Contains ys k) → ((k : K) → Contains ys k → Contains xs k) → xs ≡ ys
unfolding IsStrictlySortedBy
sorted_same R o [] [] s t into back = refl
sorted_same R o [] (y ∷ ys) s t into back = absurd (none_in y (back y (here y ys)))
sorted_same R o (x ∷ xs) [] s t into back = absurd (none_in x (into x (here x xs)))
sorted_same R o (x ∷ xs) (y ∷ ys) s t into back =
    let same : x ≡ y = heads R o x y xs ys s.0 t.0 (first_or y ys x (into x (here x xs))) (first_or x xs y (back y (here y ys))) in
    let rest : xs ≡ ys = sorted_same R o xs ys s.1 t.1
    (λ k there. tails R o x y xs ys k same s.0 there (into k (behind x xs k there)))
    (λ k there. tails R o y x ys xs k (sym same) t.0 there (back k (behind y ys k there))) in
    λ i. same i ∷ rest i

-- ---- picks

-- the first of some picks is not of this repository
abbrev IsApart : RepoName → List Pick → Type 0
IsApart repo [] = Unit {0}
IsApart repo (p ∷ ps) = pointwise nat_eq repo p.repo ≡ false

apart : (repo : RepoName) (picks : List Pick)
    → AllByRecursion (λ other. slice_cmp nat_cmp repo other ≡ Less) (map (λ (p : Pick). p.repo) picks) → IsApart repo picks
apart repo [] all = tt
apart repo (p ∷ ps) all = elim (cases_Bool (pointwise nat_eq repo p.repo)) [
  | inl same ↦
      let is : repo ≡ p.repo = (bytes_decides repo p.repo).0 same in
      let less : slice_cmp nat_cmp repo repo ≡ Less = subst (λ (r : RepoName). slice_cmp nat_cmp repo r ≡ Less) (sym is) all.0 in
      absurd (never_both (slice_cmp nat_cmp) nat_list_cmp_total repo repo less less)
  | inr other ↦ other
]

onto_first : (repo : RepoName) (t : TagName) (picks : List Pick) → IsApart repo picks
    → onto_picks (repo, t) picks ≡ record { repo = repo; tags = t ∷ [] } ∷ picks
onto_first repo t [] away = refl
onto_first repo t (p ∷ ps) away =
    ap (λ b. cond b (record { repo = p.repo; tags = t ∷ p.tags } ∷ ps) (record { repo = repo; tags = t ∷ [] } ∷ p ∷ ps)) away

one_pick : (repo : RepoName) (tags : List TagName) (rest : List RepoTag) (picks : List Pick) → grouped rest ≡ picks → tags ≢ []
    → IsApart repo picks → grouped (map (λ (t : TagName). (repo, t)) tags ++ rest) ≡ record { repo = repo; tags = tags } ∷ picks
one_pick repo [] rest picks is some away = absurd (some refl)
one_pick repo (t ∷ []) rest picks is some away = ap (onto_picks (repo, t)) is ∙ onto_first repo t picks away
one_pick repo (t ∷ u ∷ ts) rest picks is some away =
    ap (onto_picks (repo, t)) (one_pick repo (u ∷ ts) rest picks is (λ e. cc) away)
    ∙ ap (λ b. cond b (record { repo = repo; tags = t ∷ u ∷ ts } ∷ picks) (record { repo = repo; tags = t ∷ [] } ∷ record { repo = repo; tags = u ∷ ts } ∷ picks))
    (nat_list_eq_equiv.refl repo)

-- picks of which each repository stands once, and none is without a tag, come of their tags
regrouped : (picks : List Pick) → IsStrictlySortedBy (slice_cmp nat_cmp) (map (λ (p : Pick). p.repo) picks)
    → AllByRecursion (λ (p : Pick). p.tags ≢ []) picks → grouped (picked_tags picks) ≡ picks
unfolding IsStrictlySortedBy
regrouped [] once some = refl
regrouped (p ∷ ps) once some =
    one_pick p.repo p.tags (picked_tags ps) ps (regrouped ps once.1 some.1) some.0 (apart p.repo ps once.0)

repo_tag_total : IsTotalOrder repo_tag_cmp
repo_tag_total = then_total (on_total (λ (t : RepoTag). t.0) nat_list_cmp_total) (on_total (λ (t : RepoTag). t.1) nat_list_cmp_total)

picks_same : (filters : List Filter) (listing : List Listed) (picks others : List Pick) → IsSelection filters listing picks
    → IsSelection filters listing others → picks ≡ others
picks_same filters listing picks others one other =
    let tags : picked_tags picks ≡ picked_tags others
    = sorted_same repo_tag_cmp repo_tag_total (picked_tags picks) (picked_tags others) one.in_order other.in_order
    (λ tag there. (other.exact tag).1 ((one.exact tag).0 there))
    (λ tag there. (one.exact tag).1 ((other.exact tag).0 there)) in
    sym (regrouped picks one.once one.some) ∙ ap grouped tags ∙ regrouped others other.once other.some

-- a policy has at most one plan for a listing
pub plan_same : (policy : Policy) (listing : List Listed) (specs others : List TaskSpec) → IsPlan policy listing specs
    → IsPlan policy listing others → specs ≡ others
plan_same policy listing specs others one other =
    one.tasks.each
    ∙ ap (map (spec_of policy)) (picks_same policy.filters listing one.picks other.picks one.selected other.selected)
    ∙ sym other.tasks.each
