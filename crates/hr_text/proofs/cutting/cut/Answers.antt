use Rattle.std.proofs.Common.{◌∷◌, ◌++◌, Some, take, sym, ap, ◌∙◌}
use Rattle.hr_text.specs.Cutting.{pieces_left}
use Rattle.hr_text.proofs.CutLaws.{pieces_at_cut}
use Rattle.hr_text.proofs.CutLemmas.{cut_found, cut_nowhere, rest_whole}
use Rattle.hr_text.proofs.cutting.cut.Goals as goal

pub returns-in-Some-clause-before : goal.returns-in-Some-clause-before
returns-in-Some-clause-before c =
    let is = cut_found c.args.byte c.args.text.now c.in-Some.at (sym c.find.ensures ∙ c.in-Some.is) in
    sym (ap (λ p. p.0) is.cut)

pub returns-in-Some-clause-behind : goal.returns-in-Some-clause-behind
returns-in-Some-clause-behind c =
    let is = cut_found c.args.byte c.args.text.now c.in-Some.at (sym c.find.ensures ∙ c.in-Some.is) in
    ap Some (rest_whole c.args.text.now c.in-Some.at) ∙ sym (ap (λ p. p.1) is.cut)

pub returns-in-Some-clause-pieces : goal.returns-in-Some-clause-pieces
returns-in-Some-clause-pieces c =
    let is = cut_found c.args.byte c.args.text.now c.in-Some.at (sym c.find.ensures ∙ c.in-Some.is) in
    pieces_at_cut c.args.byte c.args.text.now
    ∙ ap (λ p. p.0 ∷ pieces_left c.args.byte p.1) is.cut
    ∙ ap (λ rest. take c.in-Some.at c.args.text.now ∷ pieces_left c.args.byte (Some rest)) (sym (rest_whole c.args.text.now c.in-Some.at))

pub returns-in-Some-clause-joined : goal.returns-in-Some-clause-joined
returns-in-Some-clause-joined c =
    let is = cut_found c.args.byte c.args.text.now c.in-Some.at (sym c.find.ensures ∙ c.in-Some.is) in
    is.joined ∙ ap (λ rest. take c.in-Some.at c.args.text.now ++ c.args.byte ∷ rest) (sym (rest_whole c.args.text.now c.in-Some.at))

pub returns-in-None-clause-before : goal.returns-in-None-clause-before
returns-in-None-clause-before c = sym (ap (λ p. p.0) (cut_nowhere c.args.byte c.args.text.now (sym c.find.ensures ∙ c.in-None.is)))

pub returns-in-None-clause-behind : goal.returns-in-None-clause-behind
returns-in-None-clause-behind c = sym (ap (λ p. p.1) (cut_nowhere c.args.byte c.args.text.now (sym c.find.ensures ∙ c.in-None.is)))

pub returns-in-None-clause-pieces : goal.returns-in-None-clause-pieces
returns-in-None-clause-pieces c =
    pieces_at_cut c.args.byte c.args.text.now
    ∙ ap (λ p. p.0 ∷ pieces_left c.args.byte p.1) (cut_nowhere c.args.byte c.args.text.now (sym c.find.ensures ∙ c.in-None.is))
