use Rattle.std.proofs.Common.{ℕ, List, refl, ap, ◌∙◌, subst, inr, unwrap_or, []}
use Rattle.hr_rest.specs.Path.{LeadsTo, Place, place_in}
use Rattle.hr_rest.specs.Query.{path_of, query_of}
use Rattle.hr_rest.proofs.AskingLemmas.{asked_there}
use Rattle.hr_rest.proofs.asking.asked.Goals as goal

pub returns-in_default : goal.returns-in_default
returns-in_default c = inr (record {
  none = subst (λ (t : List ℕ). (place : Place) → LeadsTo t place → ⊥) (c.cut.ensures.before ∙ ap (λ (t : List ℕ). path_of t) c.view.ensures) c.in_default.ensures;
  is = refl;
})

pub returns : goal.returns
returns c =
    asked_there c.args.request.now c.asks_of.result (place_in c.in-Some.way) c.cut.result.0.now c.query_in.result.now c.view-2.result.now
    c.in-Some.ensures
    (c.cut.ensures.before ∙ ap (λ (t : List ℕ). path_of t) c.view.ensures)
    (c.query_in.ensures ∙ ap (λ o. unwrap_or o []) c.cut.ensures.behind ∙ ap (λ (t : List ℕ). query_of t) c.view.ensures)
    c.view-2.ensures c.asks_of.ensures
