use Rattle.std.proofs.Common.{◌++◌, ℕ, List, Some, ap, ◌∙◌}
use Rattle.std.proofs.lemmas.Slice.Eq.{strip_prefix_is}
use Rattle.std.proofs.lemmas.Bool.Decides.{Decides-eqb}
use Rattle.hr_rest.proofs.PathLemmas.{leads_within}
use Rattle.hr_rest.proofs.path.way_behind.Goals as goal

pub returns : goal.returns
returns c =
    leads_within c.args.rest.now c.in_ok-within.within.now c.way_within.result
    (strip_prefix_is Decides-eqb c.args.rest.now c.as_slice-3.result.now (Some c.in_ok-within.within) c.in_ok-within.ensures.cases
    ∙ ap (λ (t : List ℕ). t ++ c.in_ok-within.within.now) c.as_slice-3.ensures)
    c.way_within.ensures
