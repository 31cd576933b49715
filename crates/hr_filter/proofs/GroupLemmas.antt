-- Lemmas on the words of specs/Grouping.antt.
use Rattle.std.proofs.Common.{◌≡◌, ◌≢◌, ◌+◌, ◌<◌, ℕ, suc, true, false, cond, List, [], ◌∷◌, ◌++◌, map, take, drop, refl, sym, ap, ◌∙◌, subst, append_assoc, arith, inl, inr}
use Rattle.std.specs.Prelude.{nat_eq, slice_get, Some}
use Rattle.std.specs.List.{AllByRecursion, prefix_len}
use Rattle.std.specs.List.Sorted.{IsStrictlySortedBy}
use Rattle.std.specs.declared.cmp.Ordering.{Ordering}
use Rattle.std.specs.declared.cmp.Ordering.TheVariants.{Less, Equal, Greater}
use Rattle.std.specs.Cmp.Lexicographic.{bytes_decides, nat_list_eq_equiv, pointwise, slice_cmp}
use Rattle.std.specs.Ordering.{nat_cmp, ordering_then}
use Rattle.std.proofs.lemmas.Bool.{cases_Bool}
use Rattle.std.proofs.lemmas.Cmp.{nat_list_cmp_total}
use Rattle.std.proofs.lemmas.Map.Lookups.{exact_bytes}
use Rattle.hr_base.specs.Bytes.{Text}
use Rattle.hr_name.specs.Name.{RepoName}
use Rattle.hr_filter.specs.declared.listed.Pick.{Pick}
use Rattle.hr_filter.specs.Grouping.{grouped, is_under, onto_picks}
use Rattle.hr_filter.specs.Selection.{RepoTag, repo_tag_cmp, picked_tags}

-- ---- the loop

-- the tags at the front that are under a repository, and those behind them
abbrev front : RepoName → List RepoTag → List RepoTag
front repo tags = take (prefix_len (is_under repo) tags) tags

abbrev behind : RepoName → List RepoTag → List RepoTag
behind repo tags = drop (prefix_len (is_under repo) tags) tags

front-here : (repo : RepoName) (tag : RepoTag) (tags : List RepoTag) → is_under repo tag ≡ true
    → (front repo (tag ∷ tags) ≡ tag ∷ front repo tags) × (behind repo (tag ∷ tags) ≡ behind repo tags)
front-here repo tag tags here =
    let count : prefix_len (is_under repo) (tag ∷ tags) ≡ suc (prefix_len (is_under repo) tags)
    = ap (λ b. cond b (1 + prefix_len (is_under repo) tags) 0) here ∙ (omega arith) in
    (ap (λ n. take n (tag ∷ tags)) count, ap (λ n. drop n (tag ∷ tags)) count)

front-away : (repo : RepoName) (tag : RepoTag) (tags : List RepoTag) → is_under repo tag ≡ false
    → (front repo (tag ∷ tags) ≡ []) × (behind repo (tag ∷ tags) ≡ tag ∷ tags)
front-away repo tag tags away =
    let count : prefix_len (is_under repo) (tag ∷ tags) ≡ 0 = ap (λ b. cond b (1 + prefix_len (is_under repo) tags) 0) away in
    (ap (λ n. take n (tag ∷ tags)) count, ap (λ n. drop n (tag ∷ tags)) count)

-- a pick of these tags
abbrev pick_of : RepoName → List RepoTag → Pick
pick_of repo tags = record { repo = repo; tags = map (λ (tag : RepoTag). tag.1) tags }

-- a tag before a pick of its repository, and before one of another
onto_picks-same : (tag : RepoTag) (pick : Pick) (picks : List Pick) → is_under pick.repo tag ≡ true
    → onto_picks tag (pick ∷ picks) ≡ record { repo = pick.repo; tags = tag.1 ∷ pick.tags } ∷ picks
onto_picks-same tag pick picks here =
    ap (λ b. cond b (record { repo = pick.repo; tags = tag.1 ∷ pick.tags } ∷ picks) (record { repo = tag.0; tags = tag.1 ∷ [] } ∷ pick ∷ picks)) here

onto_picks-other : (tag : RepoTag) (pick : Pick) (picks : List Pick) → is_under pick.repo tag ≡ false
    → onto_picks tag (pick ∷ picks) ≡ record { repo = tag.0; tags = tag.1 ∷ [] } ∷ pick ∷ picks
onto_picks-other tag pick picks away =
    ap (λ b. cond b (record { repo = pick.repo; tags = tag.1 ∷ pick.tags } ∷ picks) (record { repo = tag.0; tags = tag.1 ∷ [] } ∷ pick ∷ picks)) away

-- the pick of these tags, before those of the tags behind them
abbrev pick_before : RepoName → List RepoTag → List RepoTag → List Pick
pick_before repo together left =
    record { repo = repo; tags = map (λ (tag : RepoTag). tag.1) together } ∷ grouped left

pick_before-same : (repo other : RepoName) (xs ys more rest : List RepoTag) → repo ≡ other → xs ≡ ys → more ≡ rest
    → pick_before repo xs more ≡ pick_before other ys rest
pick_before-same repo other xs ys more rest a b c = λ i. pick_before (a i) (b i) (c i)

-- the first pick of some tags has all that stand together with the first
pub first_pick : (repo : RepoName) (tag : RepoTag) (tags : List RepoTag) → is_under repo tag ≡ true
    → grouped (tag ∷ tags) ≡ pick_before repo (front repo (tag ∷ tags)) (behind repo (tag ∷ tags))
first_pick repo tag [] here =
    let same : tag.0 ≡ repo = (bytes_decides tag.0 repo).0 here in
    let cut = front-here repo tag [] here in
    pick_before-same tag.0 repo (tag ∷ []) (front repo (tag ∷ [])) [] (behind repo (tag ∷ [])) same (sym cut.0) (sym cut.1)
first_pick repo tag (next ∷ tags) here =
    let same : tag.0 ≡ repo = (bytes_decides tag.0 repo).0 here in
    let cut = front-here repo tag (next ∷ tags) here in
    elim (cases_Bool (is_under repo next)) [
      | inl together ↦
          let picks = first_pick repo next tags together in
          ap (onto_picks tag) picks
          ∙ onto_picks-same tag (record { repo = repo; tags = map (λ (tag : RepoTag). tag.1) (front repo (next ∷ tags)) }) (grouped (behind repo (next ∷ tags))) here
          ∙ pick_before-same repo repo (tag ∷ front repo (next ∷ tags)) (front repo (tag ∷ next ∷ tags)) (behind repo (next ∷ tags)) (behind repo (tag ∷ next ∷ tags)) refl (sym cut.0) (sym cut.1)
      | inr apart ↦
          let own : is_under next.0 next ≡ true = nat_list_eq_equiv.refl next.0 in
          let picks = first_pick next.0 next tags own in
          let none = front-away repo next tags apart in
          let other : is_under next.0 tag ≡ false = ap (λ (r : RepoName). pointwise nat_eq r next.0) same ∙ nat_list_eq_equiv.symm repo next.0 ∙ apart in
          ap (onto_picks tag) picks
          ∙ onto_picks-other tag (record { repo = next.0; tags = map (λ (tag : RepoTag). tag.1) (front next.0 (next ∷ tags)) }) (grouped (behind next.0 (next ∷ tags))) other
          ∙ ap (λ (rest : List Pick). record { repo = tag.0; tags = tag.1 ∷ [] } ∷ rest) (sym picks)
          ∙ pick_before-same tag.0 repo (tag ∷ []) (front repo (tag ∷ next ∷ tags)) (next ∷ tags) (behind repo (tag ∷ next ∷ tags)) same
          (ap (λ (rest : List RepoTag). tag ∷ rest) (sym none.0) ∙ sym cut.0)
          (sym none.1 ∙ sym cut.1)
    ]

-- some tags by their first
pub first_tag : (left : List RepoTag) (tag : RepoTag) → slice_get left 0 ≡ Some tag → left ≡ tag ∷ drop 1 left
first_tag [] tag e = absurd (cc)
first_tag (own ∷ left) tag e = let same : own ≡ tag = cc in ap (λ (t : RepoTag). t ∷ left) same

-- one round of the loop
pub group_more : (picks : List Pick) (all left together rest : List RepoTag) (repo : RepoName) (tag : RepoTag) (pick : Pick) (count : ℕ)
    → picks ++ grouped left ≡ grouped all → left ≡ tag ∷ drop 1 left → tag.0 ≡ repo → count ≡ prefix_len (is_under repo) left
    → together ≡ take count left → rest ≡ drop count left
    → pick.repo ≡ repo → pick.tags ≡ map (λ (tag : RepoTag). tag.1) together
    → (picks ++ pick ∷ []) ++ grouped rest ≡ grouped all
group_more picks all left together rest repo tag pick count so_far cut under counted taken dropped named tagged =
    let here : is_under repo tag ≡ true = ap (λ (r : RepoName). pointwise nat_eq r repo) under ∙ nat_list_eq_equiv.refl repo in
    let first : grouped left ≡ pick_before repo (front repo left) (behind repo left)
    = subst (λ (l : List RepoTag). grouped l ≡ pick_before repo (front repo l) (behind repo l)) (sym cut) (first_pick repo tag (drop 1 left) here) in
    let parts : pick_before repo (front repo left) (behind repo left) ≡ pick_before repo together rest
    = pick_before-same repo repo (front repo left) together (behind repo left) rest refl
    (ap (λ n. take n left) (sym counted) ∙ sym taken) (ap (λ n. drop n left) (sym counted) ∙ sym dropped) in
    let own : pick_before repo together rest ≡ pick ∷ grouped rest = λ i. record { repo = sym named i; tags = sym tagged i } ∷ grouped rest in
    append_assoc picks (pick ∷ []) (grouped rest) ∙ ap (λ (t : List Pick). picks ++ t) (sym (first ∙ parts ∙ own)) ∙ so_far

-- the first tag stands together with itself
pub some_together : (left : List RepoTag) (repo : RepoName) (tag : RepoTag) (count : ℕ) → left ≡ tag ∷ drop 1 left → tag.0 ≡ repo
    → count ≡ prefix_len (is_under repo) left → 0 < count
some_together left repo tag count cut under counted =
    let here : is_under repo tag ≡ true = ap (λ (r : RepoName). pointwise nat_eq r repo) under ∙ nat_list_eq_equiv.refl repo in
    let whole : prefix_len (is_under repo) left ≡ 1 + prefix_len (is_under repo) (drop 1 left)
    = ap (prefix_len (is_under repo)) cut ∙ ap (λ b. cond b (1 + prefix_len (is_under repo) (drop 1 left)) 0) here in
    omega (arith, counted, whole)

-- ---- what the picks are

-- the picks of some tags have these tags
picked_tags-with : (tag : RepoTag) (picks : List Pick) → picked_tags (onto_picks tag picks) ≡ tag ∷ picked_tags picks
picked_tags-with tag [] = refl
picked_tags-with tag (pick ∷ picks) = elim (cases_Bool (is_under pick.repo tag)) [
  | inl here ↦
      let same : tag.0 ≡ pick.repo = (bytes_decides tag.0 pick.repo).0 here in
      ap picked_tags (onto_picks-same tag pick picks here)
      ∙ ap (λ (r : RepoName). (r, tag.1) ∷ picked_tags (pick ∷ picks)) (sym same)
  | inr away ↦ ap picked_tags (onto_picks-other tag pick picks away)
]

pub picked_tags-grouped : (tags : List RepoTag) → picked_tags (grouped tags) ≡ tags
picked_tags-grouped [] = refl
picked_tags-grouped (tag ∷ tags) = picked_tags-with tag (grouped tags) ∙ ap (λ (t : List RepoTag). tag ∷ t) (picked_tags-grouped tags)

-- none of them is without a tag
some-with : (tag : RepoTag) (picks : List Pick) → AllByRecursion (λ (pick : Pick). pick.tags ≢ []) picks
    → AllByRecursion (λ (pick : Pick). pick.tags ≢ []) (onto_picks tag picks)
some-with tag [] some = (λ e. cc, tt)
some-with tag (pick ∷ picks) some = elim (cases_Bool (is_under pick.repo tag)) [
  | inl here ↦ subst (AllByRecursion (λ (pick : Pick). pick.tags ≢ [])) (sym (onto_picks-same tag pick picks here)) (λ e. cc, some.1)
  | inr away ↦ subst (AllByRecursion (λ (pick : Pick). pick.tags ≢ [])) (sym (onto_picks-other tag pick picks away)) (λ e. cc, some)
]

pub some-grouped : (tags : List RepoTag) → AllByRecursion (λ (pick : Pick). pick.tags ≢ []) (grouped tags)
some-grouped [] = tt
some-grouped (tag ∷ tags) = some-with tag (grouped tags) (some-grouped tags)

-- the repositories of some picks
abbrev repos_of : List Pick → List RepoName
repos_of picks = map (λ (pick : Pick). pick.repo) picks

-- a repository below the first of some in order is below each
below_each : (repo first : RepoName) (repos : List RepoName) → slice_cmp nat_cmp repo first ≡ Less
    → AllByRecursion (λ other. slice_cmp nat_cmp first other ≡ Less) repos → AllByRecursion (λ other. slice_cmp nat_cmp repo other ≡ Less) repos
below_each repo first [] low all = tt
below_each repo first (other ∷ repos) low all =
    (nat_list_cmp_total.trans repo first other low all.0, below_each repo first repos low all.1)

once_more : (repo first : RepoName) (repos : List RepoName) → slice_cmp nat_cmp repo first ≡ Less
    → IsStrictlySortedBy (slice_cmp nat_cmp) (first ∷ repos) → IsStrictlySortedBy (slice_cmp nat_cmp) (repo ∷ first ∷ repos)
unfolding IsStrictlySortedBy
once_more repo first repos low sorted = ((low, below_each repo first repos low sorted.0), sorted)

-- of two tags in order under two repositories, the repositories are in order
then_less : (repos tags : Ordering) → ordering_then repos tags ≡ Less → (repos ≡ Equal → ⊥) → repos ≡ Less
then_less Less tags e apart = refl
then_less Equal tags e apart = absurd (apart refl)
then_less Greater tags e apart = cc

-- the repositories stay in order with one tag more at the front, which is below all others
once-with : (tag : RepoTag) (picks : List Pick) → AllByRecursion (λ other. repo_tag_cmp tag other ≡ Less) (picked_tags picks)
    → AllByRecursion (λ (pick : Pick). pick.tags ≢ []) picks → IsStrictlySortedBy (slice_cmp nat_cmp) (repos_of picks)
    → IsStrictlySortedBy (slice_cmp nat_cmp) (repos_of (onto_picks tag picks))
unfolding IsStrictlySortedBy
once-with tag [] low some sorted = (tt, tt)
once-with tag (pick ∷ picks) low some sorted = elim (cases_Bool (is_under pick.repo tag)) [
  | inl here ↦ subst (λ (p : List Pick). IsStrictlySortedBy (slice_cmp nat_cmp) (repos_of p)) (sym (onto_picks-same tag pick picks here)) sorted
  | inr away ↦
      let apart : slice_cmp nat_cmp tag.0 pick.repo ≡ Equal → ⊥ = λ e.
      (let same : tag.0 ≡ pick.repo = exact_bytes tag.0 pick.repo e in
      let here : is_under pick.repo tag ≡ true = (bytes_decides tag.0 pick.repo).1 same in cc) in
      let first : (t : Text) × (repo_tag_cmp tag (pick.repo, t) ≡ Less) = low_first tag pick.repo pick.tags (picked_tags picks) some.0 low in
      let below : slice_cmp nat_cmp tag.0 pick.repo ≡ Less = then_less (slice_cmp nat_cmp tag.0 pick.repo) (slice_cmp nat_cmp tag.1 first.0) first.1 apart in
      subst (λ (p : List Pick). IsStrictlySortedBy (slice_cmp nat_cmp) (repos_of p)) (sym (onto_picks-other tag pick picks away))
      (once_more tag.0 pick.repo (repos_of picks) below sorted)
]
  where
    low_first : (tag : RepoTag) (repo : RepoName) (own : List Text) (more : List RepoTag) → own ≢ []
        → AllByRecursion (λ other. repo_tag_cmp tag other ≡ Less) (map (λ (t : Text). (repo, t)) own ++ more)
        → (t : Text) × (repo_tag_cmp tag (repo, t) ≡ Less)
    low_first tag repo [] more some low = absurd (some refl)
    low_first tag repo (t ∷ own) more some low = (t, low.0)

-- each repository stands once
pub once-grouped : (tags : List RepoTag) → IsStrictlySortedBy repo_tag_cmp tags → IsStrictlySortedBy (slice_cmp nat_cmp) (repos_of (grouped tags))
unfolding IsStrictlySortedBy
once-grouped [] sorted = tt
once-grouped (tag ∷ tags) sorted =
    once-with tag (grouped tags)
    (subst (AllByRecursion (λ other. repo_tag_cmp tag other ≡ Less)) (sym (picked_tags-grouped tags)) sorted.0)
    (some-grouped tags) (once-grouped tags sorted.1)
