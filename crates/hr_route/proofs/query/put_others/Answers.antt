use Rattle.std.proofs.Common.{◌++◌, List, ℕ, Option, Bor, option_copied, ap, sym, append-nil, ◌∙◌}
use Rattle.hr_text.specs.Cutting.{pieces_left}
use Rattle.hr_route.specs.Query.{marked, others}
use Rattle.hr_route.proofs.QueryLemmas.{others_none}
use Rattle.hr_route.proofs.query.put_others.Goals as goal

pub loop-left-preserved : goal.loop-left-preserved
loop-left-preserved c =
    c.in_ok-mark.ensures (pieces_left 38 (option_copied c.cut.result.1))
    ∙ ap (λ ps. c.loop-left.out.items ++ marked c.loop-left.mark (others c.args.key.now ps))
    (sym (ap (λ (o : Option (Bor (List ℕ))). pieces_left 38 (option_copied o)) c.in-Some.is ∙ c.cut.ensures.pieces))
    ∙ c.loop-left.invariant

pub returns : goal.returns
returns c =
    sym (append-nil c.loop-left.out.items)
    ∙ ap (λ ps. c.loop-left.out.items ++ marked c.loop-left.mark ps)
    (sym (ap (λ (o : Option (Bor (List ℕ))). others c.args.key.now (pieces_left 38 (option_copied o))) c.in_default.is ∙ others_none c.args.key.now))
    ∙ c.loop-left.invariant
