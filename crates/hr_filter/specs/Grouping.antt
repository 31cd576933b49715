-- Tags that stand together under one repository, as picks. (Our own.)
use Rattle.std.specs.Prelude.{Bool, nat_eq, cond, List, [], ◌∷◌}
use Rattle.std.specs.Cmp.Lexicographic.{pointwise}
use Rattle.hr_name.specs.Name.{RepoName}
use Rattle.hr_filter.specs.declared.listed.Pick.{Pick}
use Rattle.hr_filter.specs.Selection.{RepoTag}

-- whether it is a tag of this repository
abbrev pub is_under : RepoName → RepoTag → Bool
is_under repo tag = pointwise nat_eq tag.0 repo

-- a tag before some picks: in the first, where that is of its repository, else in one of its own
abbrev pub onto_picks : RepoTag → List Pick → List Pick
onto_picks tag [] = record { repo = tag.0; tags = tag.1 ∷ [] } ∷ []
onto_picks tag (pick ∷ picks) =
    cond (is_under pick.repo tag)
    (record { repo = pick.repo; tags = tag.1 ∷ pick.tags } ∷ picks)
    (record { repo = tag.0; tags = tag.1 ∷ [] } ∷ pick ∷ picks)

-- tags as picks: those that stand together under one repository are one pick
abbrev pub grouped : List RepoTag → List Pick
grouped [] = []
grouped (tag ∷ tags) = onto_picks tag (grouped tags)
