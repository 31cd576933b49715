use Rattle.std.proofs.Common.{◌≡◌, ◌≢◌, ◌++◌, List, ℕ, subst}
use Rattle.std.specs.Prelude.{MatchOption}
use Rattle.std.proofs.lemmas.Slice.Eq.{strip_suffix_is}
use Rattle.std.proofs.lemmas.Bool.Decides.{Decides-eqb}
use Rattle.hr_route.proofs.path.ends_in.Goals as goal

pub returns : goal.returns
returns c =
    subst (λ (end : List ℕ). MatchOption c.strip_suffix.result ((repo : List ℕ) → c.args.rest.now ≢ repo ++ end) (λ repo. c.args.rest.now ≡ repo.now ++ end))
    c.text-end.ensures
    (strip_suffix_is Decides-eqb c.args.rest.now c.text-end.result.now c.strip_suffix.result c.strip_suffix.ensures.cases)
