use Rattle.std.proofs.Common.{◌≡◌, ap, ◌∙◌, string_bytes, append_assoc}
use Rattle.hr_top.proofs.wording.fit_line.Goals as goal

pub returns : goal.returns
returns c =
    let same : c.from.result ≡ string_bytes c.in_ok-line.line = c.from.ensures ∙ ap (λ v. v.items) c.into_bytes.ensures.value in
    same ∙ c.in_ok-line.ensures.ok ∙ simp append_assoc
