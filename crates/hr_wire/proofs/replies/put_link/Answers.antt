use Rattle.std.proofs.Common.{◌≡◌, ◌++◌, ◌∷◌, [], List, ℕ, Bool, true, codes, sym, ap, ◌∙◌, arith}
use Rattle.std.proofs.lemmas.Grind.{common_steps}
use Rattle.hr_wire.specs.Line.{line}
use Rattle.hr_wire.specs.Reply.{link_lines}
use Rattle.hr_wire.proofs.replies.put_link.Goals as goal

pub returns : goal.returns
returns c =
    let old = c.args.heads.now in
    let on : c.args.more ≡ true = grind (arith, common_steps) in
    c.in_ok-put_line.ensures
    ∙ ap (λ (t : List ℕ). old ++ line (codes "Link") t ∷ []) (c.view.ensures ∙ c.in_ok-link.ensures)
    ∙ ap (λ (m : Bool). old ++ link_lines m c.args.target.now) (sym on)
