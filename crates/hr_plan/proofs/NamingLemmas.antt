-- Lemmas on what a policy selects of the tags of a repository, by its name.
use Rattle.std.proofs.Common.{◌≡◌, ◌↔◌, ◌⊎◌, inl, inr, List, ◌++◌, refl, subst}
use Rattle.std.proofs.lemmas.List.Elements.{All-contains, All-map, All-weaker, Contains-append_left, Contains-append_right, Contains-append_cases}
use Rattle.hr_name.specs.Name.{RepoName}
use Rattle.hr_adapter.specs.declared.listed.Tagged.{Tagged}
use Rattle.hr_filter.specs.Filter.{Meets}
use Rattle.hr_filter.specs.Selection.{IsSelected, RepoTag}
use Rattle.hr_filter.specs.declared.filter.Filter.{Filter}
use Rattle.hr_filter.specs.declared.filter.Filter.TheVariants.{Name, Tag, Label, Resource}
use Rattle.hr_filter.specs.declared.listed.Listed.{Listed}
use Rattle.hr_plan.specs.Listing.{listed_as, listed_in}
use Rattle.hr_plan.specs.Naming.{MeetsName, MeetsNames}

meets_by_name : (listed : Listed) (filter : Filter) → Meets listed filter → MeetsName listed.repo filter
meets_by_name listed (Name pattern decoration) meets = meets
meets_by_name listed (Tag pattern decoration) meets = tt
meets_by_name listed (Label labels decoration) meets = tt
meets_by_name listed Resource meets = tt

-- none of the tags of a repository is selected that misses a filter on names
pub selected_none : (filters : List Filter) (repo : RepoName) (tags : List Tagged) (tag : RepoTag)
    → (MeetsNames filters repo → ⊥) → IsSelected filters (listed_in repo tags) tag → ⊥
selected_none filters repo tags tag misses s =
    let own : s.listed.repo ≡ repo
    = All-contains (λ (l : Listed). l.repo ≡ repo) (listed_in repo tags) s.listed
    (All-map (λ (l : Listed). l.repo ≡ repo) (listed_as repo) tags (λ k d within. refl)) s.there in
    misses (subst (MeetsNames filters) own
    (All-weaker (Meets s.listed) (MeetsName s.listed.repo) (meets_by_name s.listed) filters s.meets))

-- ---- listings behind one another

selected_left : (filters : List Filter) (xs ys : List Listed) (tag : RepoTag) → IsSelected filters xs tag → IsSelected filters (xs ++ ys) tag
selected_left filters xs ys tag s = record {
  listed = s.listed;
  there = Contains-append_left xs ys s.listed s.there;
  is = s.is;
  meets = s.meets;
}

selected_right : (filters : List Filter) (xs ys : List Listed) (tag : RepoTag) → IsSelected filters ys tag → IsSelected filters (xs ++ ys) tag
selected_right filters xs ys tag s = record {
  listed = s.listed;
  there = Contains-append_right xs ys s.listed s.there;
  is = s.is;
  meets = s.meets;
}

selected_cases : (filters : List Filter) (xs ys : List Listed) (tag : RepoTag) → IsSelected filters (xs ++ ys) tag
    → IsSelected filters xs tag ⊎ IsSelected filters ys tag
selected_cases filters xs ys tag s = elim (Contains-append_cases xs ys s.listed s.there) [
  | inl there ↦ inl (record { listed = s.listed; there = there; is = s.is; meets = s.meets })
  | inr there ↦ inr (record { listed = s.listed; there = there; is = s.is; meets = s.meets })
]

-- the same is selected of two listings, with the same behind both
pub selected_behind : (filters : List Filter) (xs xs' ys : List Listed) (tag : RepoTag)
    → (IsSelected filters xs tag ↔ IsSelected filters xs' tag)
    → IsSelected filters (xs ++ ys) tag ↔ IsSelected filters (xs' ++ ys) tag
selected_behind filters xs xs' ys tag same = (
  λ s. elim (selected_cases filters xs ys tag s) [
    | inl p ↦ selected_left filters xs' ys tag (same.0 p)
    | inr p ↦ selected_right filters xs' ys tag p
  ],
  λ s. elim (selected_cases filters xs' ys tag s) [
    | inl p ↦ selected_left filters xs ys tag (same.1 p)
    | inr p ↦ selected_right filters xs ys tag p
  ],
)

-- the same is selected where one of the two has behind it what is not selected
pub selected_beside : (filters : List Filter) (xs xs' ys : List Listed) (tag : RepoTag)
    → (IsSelected filters xs tag ↔ IsSelected filters xs' tag) → (IsSelected filters ys tag → ⊥)
    → IsSelected filters xs tag ↔ IsSelected filters (xs' ++ ys) tag
selected_beside filters xs xs' ys tag same none = (
  λ s. selected_left filters xs' ys tag (same.0 s),
  λ s. elim (selected_cases filters xs' ys tag s) [
    | inl p ↦ same.1 p
    | inr p ↦ absurd (none p)
  ],
)
