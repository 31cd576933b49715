-- Lemmas on what a registry in memory lists.
use Rattle.std.proofs.Common.{◌≡◌, refl, sym, ap, subst, ◌∙◌, List, [], ◌∷◌, map, Option, Some, None}
use Rattle.std.specs.Option.{option_map, unwrap_or}
use Rattle.std.specs.Map.{keys_of}
use Rattle.std.specs.List.Sorted.{IsStrictlySortedBy}
use Rattle.std.specs.Cmp.Lexicographic.{slice_cmp}
use Rattle.std.specs.Ordering.{nat_cmp}
use Rattle.hr_name.specs.Name.{RepoName}
use Rattle.hr_name.specs.Tag.{TagName}
use Rattle.hr_adapter.specs.Content.{Content, Repo, repo_at}
use Rattle.hr_adapter.specs.Listing.{tagged_in, tagged_of, tags_of}

tags_back : (held : Repo) (tags : List TagName) → map (λ t. t.tag) (map (tagged_in held) tags) ≡ tags
tags_back held [] = refl
tags_back held (t ∷ tags) = ap (λ (more : List TagName). t ∷ more) (tags_back held tags)

abbrev AreOrdered : List TagName → Type 0
AreOrdered tags = IsStrictlySortedBy (slice_cmp nat_cmp) tags

ordered_in : (o : Option Repo) (held : Repo) → Some held ≡ o → AreOrdered (keys_of held.tags)
    → AreOrdered (map (λ t. t.tag) (unwrap_or (option_map tagged_of o) []))
ordered_in o held is sorted =
    subst (λ (o : Option Repo). AreOrdered (map (λ t. t.tag) (unwrap_or (option_map tagged_of o) []))) is
    (subst AreOrdered (sym (tags_back held (keys_of held.tags))) sorted)

-- the tags of a repository that is there are in the order of its keys
pub tags_ordered : (c : Content) (repo : RepoName) (held : Repo) → Some held ≡ repo_at c repo → AreOrdered (keys_of held.tags)
    → AreOrdered (map (λ t. t.tag) (tags_of c repo))
tags_ordered c repo held is sorted = ordered_in (repo_at c repo) held is sorted

none_ordered : AreOrdered []
unfolding IsStrictlySortedBy
none_ordered = tt

-- there are none of a repository that is not there
pub no_tags_ordered : (c : Content) (repo : RepoName) → None ≡ repo_at c repo → AreOrdered (map (λ t. t.tag) (tags_of c repo))
no_tags_ordered c repo is =
    subst (λ (o : Option Repo). AreOrdered (map (λ t. t.tag) (unwrap_or (option_map tagged_of o) []))) is none_ordered
