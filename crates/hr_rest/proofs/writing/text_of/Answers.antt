use Rattle.std.proofs.Common.{◌≡◌, string_bytes, ap, ◌∙◌}
use Rattle.hr_rest.proofs.writing.text_of.Goals as goal

pub returns : goal.returns
returns c =
    let same : c.from.result ≡ string_bytes c.in_ok-text.text = c.from.ensures ∙ ap (λ v. v.items) c.into_bytes.ensures.value in
    same ∙ c.in_ok-text.ensures.text c.requires
