use Rattle.std.proofs.Common.{List, ℕ, refl, ap, ◌∙◌}
use Rattle.std.proofs.lemmas.Str.Ascii.{trim_ascii_is}
use Rattle.hr_wire.specs.Media.{end_trimmed, front_trimmed}
use Rattle.hr_wire.proofs.media.type_said.Goals as goal

pub returns : goal.returns
returns c =
    trim_ascii_is c.cut.result.0.now c.trim_ascii.result.now (front_trimmed c.cut.result.0.now) refl c.trim_ascii.ensures.value
    ∙ ap (λ (t : List ℕ). end_trimmed (front_trimmed t)) c.cut.ensures.before
