use Rattle.std.proofs.Common.{List, ℕ, Option, Bor, option_copied, ap, ◌∙◌}
use Rattle.hr_text.specs.Cutting.{pieces_left}
use Rattle.hr_route.proofs.QueryLemmas.{found_all, found_more}
use Rattle.hr_route.proofs.query.find_value.Goals as goal

pub loop-left-preserved : goal.loop-left-preserved
loop-left-preserved c =
    found_more _ c.args.key.now c.cut.result.0.now _ _ c.loop-left.found c.with-found.result (option_copied c.value_in.result)
    c.loop-left.invariant
    (ap (λ (o : Option (Bor (List ℕ))). pieces_left 38 (option_copied o)) c.in-Some.is ∙ c.cut.ensures.pieces)
    c.value_in.ensures c.with-found.ensures

pub returns : goal.returns
returns c =
    found_all c.args.key.now _ _ c.loop-left.found
    (ap (λ (o : Option (Bor (List ℕ))). pieces_left 38 (option_copied o)) c.in_default.is) c.loop-left.invariant
