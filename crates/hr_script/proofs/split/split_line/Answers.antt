use Rattle.std.proofs.Common.{List, ℕ, Option, Bor, ◌∷◌, option_copied, ◌∙◌, ap}
use Rattle.hr_text.specs.Cutting.{pieces_left}
use Rattle.hr_script.proofs.SplitLemmas.{lines_found}
use Rattle.hr_script.proofs.split.split_line.Goals as goal

pub returns-in-Some-clause-lines : goal.returns-in-Some-clause-lines
returns-in-Some-clause-lines c =
    lines_found c.args.text.now c.cut.result.0.now c.in-Some.rest.now
    (c.cut.ensures.pieces ∙ ap (λ (o : Option (Bor (List ℕ))). c.cut.result.0.now ∷ pieces_left 10 (option_copied o)) c.in-Some.is)
