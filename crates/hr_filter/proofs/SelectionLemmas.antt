-- Lemmas on the words of specs/Selection.antt.
use Rattle.std.proofs.Common.{◌≡◌, ◌≢◌, ◌↔◌, ◌⊎◌, Bool, true, cond, IsTrue, List, [], ◌∷◌, ◌++◌, map, All, Contains, refl, sym, ap, ◌∙◌, subst, inl, inr, arith}
use Rattle.std.specs.List.{AllByRecursion}
use Rattle.std.specs.List.Sorted.{IsStrictlySortedBy}
use Rattle.std.specs.BTreeMap.{is_at}
use Rattle.std.specs.BTreeSet.{BTreeSet, contains, IsOrdered}
use Rattle.std.specs.Cmp.{IsTotalOrder, Equal-is}
use Rattle.std.specs.declared.cmp.Ordering.TheVariants.{Equal}
use Rattle.std.specs.Cmp.Lexicographic.{slice_cmp}
use Rattle.std.specs.Ordering.{nat_cmp}
use Rattle.std.proofs.lemmas.Cmp.{nat_list_cmp_total, on_total, then_total, tied_itself}
use Rattle.std.proofs.lemmas.Bool.{cases_Bool}
use Rattle.std.proofs.lemmas.Map.Lookups.{CmpEqualImpliesEq, exact_bytes, exact_pairs}
use Rattle.std.proofs.lemmas.Map.Views.{btree_set_contains_iff}
use Rattle.std.proofs.lemmas.List.Elements.{Contains-append_left, Contains-push, Contains-push_cases}
use Rattle.hr_name.specs.Name.{RepoName}
use Rattle.hr_name.specs.Tag.{TagName}
use Rattle.hr_filter.specs.declared.filter.Filter.{Filter}
use Rattle.hr_filter.specs.declared.listed.Listed.{Listed}
use Rattle.hr_filter.specs.declared.listed.Pick.{Pick}
use Rattle.hr_filter.specs.Filter.{Meets}
use Rattle.hr_filter.specs.Grouping.{grouped}
use Rattle.hr_filter.specs.Selection.{IsSelected, IsSelection, RepoTag, repo_tag_cmp, picked_tags}
use Rattle.hr_filter.proofs.GroupLemmas.{once-grouped, some-grouped, picked_tags-grouped}

pub repo_tag_total : IsTotalOrder repo_tag_cmp
repo_tag_total = then_total (on_total (λ (t : RepoTag). t.0) nat_list_cmp_total) (on_total (λ (t : RepoTag). t.1) nat_list_cmp_total)

repo_tag_exact : CmpEqualImpliesEq repo_tag_cmp
repo_tag_exact = exact_pairs (slice_cmp nat_cmp) (slice_cmp nat_cmp) exact_bytes exact_bytes

-- the picks of the tags that a set has, where it has what is selected
pub selection : (filters : List Filter) (listing : List Listed) (selected : BTreeSet RepoTag) (tags : List RepoTag) (picks : List Pick)
    → ((tag : RepoTag) → IsTrue (contains repo_tag_cmp selected tag) ↔ IsSelected filters listing tag)
    → IsOrdered repo_tag_cmp selected → tags ≡ selected.keys → picks ≡ grouped tags
    → IsSelection filters listing picks
selection filters listing selected tags picks has ordered all is =
    let picked : picked_tags picks ≡ selected.keys = ap picked_tags is ∙ picked_tags-grouped tags ∙ all in
    record {
      exact = λ tag.
          let there = btree_set_contains_iff repo_tag_total repo_tag_exact selected tag in (
            λ found. (has tag).0 (there.1 (subst (λ (t : List RepoTag). Contains t tag) picked found)),
            λ is. subst (λ (t : List RepoTag). Contains t tag) (sym picked) (there.0 ((has tag).1 is)),
          );
      in_order = subst (IsStrictlySortedBy repo_tag_cmp) (sym picked) ordered;
      once =
          let sorted : IsStrictlySortedBy repo_tag_cmp tags = subst (IsStrictlySortedBy repo_tag_cmp) (sym all) ordered in
          subst (λ (p : List Pick). IsStrictlySortedBy (slice_cmp nat_cmp) (map (λ (pick : Pick). pick.repo) p)) (sym is) (once-grouped tags sorted);
      some = subst (AllByRecursion (λ (pick : Pick). pick.tags ≢ [])) (sym is) (some-grouped tags);
    }

-- nothing is selected of away listing
pub selected_none : (filters : List Filter) (tag : RepoTag) → IsSelected filters [] tag → ⊥
selected_none filters tag s = let below = s.there.1 in omega (arith, below)

-- what is selected of a listing is so too where it has one more
selected_kept : (filters : List Filter) (listing : List Listed) (more : Listed) (tag : RepoTag) → IsSelected filters listing tag
    → IsSelected filters (listing ++ more ∷ []) tag
selected_kept filters listing more tag s = record {
  listed = s.listed;
  there = Contains-append_left listing (more ∷ []) s.listed s.there;
  is = s.is;
  meets = s.meets;
}

selected_last : (filters : List Filter) (listing : List Listed) (more : Listed) → All (Meets more) filters
    → IsSelected filters (listing ++ more ∷ []) (more.repo, more.tag)
selected_last filters listing more meets = record {
  listed = more;
  there = Contains-push listing more;
  is = refl;
  meets = meets;
}

-- what is selected where the listing has one more
selected_cases : (filters : List Filter) (listing : List Listed) (more : Listed) (tag : RepoTag) → IsSelected filters (listing ++ more ∷ []) tag
    → IsSelected filters listing tag ⊎ ((tag ≡ (more.repo, more.tag)) × All (Meets more) filters)
selected_cases filters listing more tag s = elim (Contains-push_cases listing more s.listed s.there) [
  | inl there ↦ inl (record { listed = s.listed; there = there; is = s.is; meets = s.meets })
  | inr same ↦ inr (
    s.is ∙ ap (λ (l : Listed). (l.repo, l.tag)) (sym same),
    subst (λ (l : Listed). All (Meets l) filters) (sym same) s.meets,
  )
]

-- one round of the loop: the set got one more, which meets each filter
pub selected_more : (filters : List Filter) (listing : List Listed) (more : Listed) (tag : RepoTag) (had has : Bool)
    (repo : RepoName) (own : TagName) → repo ≡ more.repo → own ≡ more.tag
    → has ≡ cond (is_at (repo_tag_cmp (repo, own)) tag) true had
    → (IsTrue had ↔ IsSelected filters listing tag) → All (Meets more) filters
    → IsTrue has ↔ IsSelected filters (listing ++ more ∷ []) tag
selected_more filters listing more tag had has repo own same_repo same_tag update so_far meets =
    let it : RepoTag = (more.repo, more.tag) in
    let updated : has ≡ cond (is_at (repo_tag_cmp it) tag) true had
    = update ∙ (λ i. cond (is_at (repo_tag_cmp (same_repo i, same_tag i)) tag) true had) in
    elim (cases_Bool (is_at (repo_tag_cmp it) tag)) [
      | inl here ↦
          let same : it ≡ tag = repo_tag_exact it tag ((Equal-is (repo_tag_cmp it tag)).0 here) in (
            λ _. subst (IsSelected filters (listing ++ more ∷ [])) same (selected_last filters listing more meets),
            λ _. updated ∙ ap (λ b. cond b true had) here,
          )
      | inr away ↦
          let stays : has ≡ had = updated ∙ ap (λ b. cond b true had) away in (
            λ here. selected_kept filters listing more tag (so_far.0 (sym stays ∙ here)),
            λ s. elim (selected_cases filters listing more tag s) [
              | inl before ↦ stays ∙ so_far.1 before
              | inr last ↦
                  let tied : repo_tag_cmp it tag ≡ Equal = ap (repo_tag_cmp it) last.0 ∙ tied_itself repo_tag_total it in
                  let here : is_at (repo_tag_cmp it) tag ≡ true = (Equal-is (repo_tag_cmp it tag)).1 tied in
                  absurd (cc)
            ],
          )
    ]

-- one round of the loop: the set stayed, since one more meets not each filter
pub selected_same : (filters : List Filter) (listing : List Listed) (more : Listed) (tag : RepoTag) (had : Bool)
    → (IsTrue had ↔ IsSelected filters listing tag) → (All (Meets more) filters → ⊥)
    → IsTrue had ↔ IsSelected filters (listing ++ more ∷ []) tag
selected_same filters listing more tag had so_far misses = (
  λ here. selected_kept filters listing more tag (so_far.0 here),
  λ s. elim (selected_cases filters listing more tag s) [
    | inl before ↦ so_far.1 before
    | inr last ↦ absurd (misses last.1)
  ],
)
