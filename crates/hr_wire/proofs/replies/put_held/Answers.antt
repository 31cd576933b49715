use Rattle.std.proofs.Common.{◌≡◌, ◌-◌, ◌++◌, ◌∷◌, [], List, ℕ, Bool, false, cond, eqb, codes, sym, ap, ◌∙◌, arith}
use Rattle.std.proofs.lemmas.Grind.{common_steps}
use Rattle.hr_wire.specs.Line.{line}
use Rattle.hr_wire.specs.Range.{range_text}
use Rattle.hr_wire.proofs.replies.put_held.Goals as goal

pub returns : goal.returns
returns c =
    let old = c.args.heads.now in
    let some : eqb c.args.count 0 ≡ false = grind (arith, common_steps) in
    c.in_ok-put_line.ensures
    ∙ ap (λ (t : List ℕ). old ++ line (codes "Range") t ∷ []) (c.view.ensures ∙ c.in_ok-range.ensures)
    ∙ ap (λ (t : Bool). old ++ cond t [] (line (codes "Range") (range_text 0 (c.args.count - 1)) ∷ [])) (sym some)
