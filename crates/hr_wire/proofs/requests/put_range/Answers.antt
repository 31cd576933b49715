use Rattle.std.proofs.Common.{◌++◌, ◌∷◌, [], List, ℕ, Option, codes, sym, ap, ◌∙◌}
use Rattle.hr_wire.specs.Line.{line}
use Rattle.hr_wire.specs.Request.{range_lines}
use Rattle.hr_wire.proofs.requests.put_range.Goals as goal

pub returns : goal.returns
returns c =
    let old = c.args.heads.now in
    c.in_ok-put_line.ensures
    ∙ ap (λ (t : List ℕ). old ++ line (codes "Content-Range") t ∷ []) (c.view.ensures ∙ c.in_ok-range.ensures)
    ∙ ap (λ (f : Option ℕ). old ++ range_lines f c.args.bytes.now) (sym c.in-Some.is)
