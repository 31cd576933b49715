use Rattle.std.proofs.Common.{◌++◌, ℕ, List, Some, ap, ◌∙◌}
use Rattle.std.proofs.lemmas.Slice.Eq.{strip_prefix_is}
use Rattle.std.proofs.lemmas.Bool.Decides.{Decides-eqb}
use Rattle.hr_rest.proofs.PathLemmas.{leads_behind}
use Rattle.hr_rest.proofs.path.way_of.Goals as goal

pub returns : goal.returns
returns c =
    leads_behind c.args.path.now c.in_ok-rest.rest.now c.way_behind.result
    (strip_prefix_is Decides-eqb c.args.path.now c.as_slice.result.now (Some c.in_ok-rest.rest) c.in_ok-rest.ensures.cases
    ∙ ap (λ (t : List ℕ). t ++ c.in_ok-rest.rest.now) c.as_slice.ensures)
    c.way_behind.ensures
