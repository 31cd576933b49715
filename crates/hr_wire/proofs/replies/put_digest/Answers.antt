use Rattle.std.proofs.Common.{◌++◌, ◌∷◌, [], List, ℕ, Option, codes, sym, ap, ◌∙◌}
use Rattle.hr_digest.specs.declared.digest.Digest.{Digest}
use Rattle.hr_wire.specs.Line.{line}
use Rattle.hr_wire.specs.Reply.{digest_lines}
use Rattle.hr_wire.proofs.replies.put_digest.Goals as goal

pub returns : goal.returns
returns c =
    let old = c.args.heads.now in
    c.in_ok-put_line.ensures
    ∙ ap (λ (t : List ℕ). old ++ line (codes "Docker-Content-Digest") t ∷ []) (c.view.ensures ∙ c.in_ok-text.ensures)
    ∙ ap (λ (d : Option Digest). old ++ digest_lines d) (sym c.in-Some.is)
