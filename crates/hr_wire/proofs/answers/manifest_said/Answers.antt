use Rattle.std.proofs.Common.{List, ℕ, Option, Some, ap, ap₂, ◌∙◌}
use Rattle.hr_call.specs.declared.answer.Answer.TheVariants as answer
use Rattle.hr_wire.specs.Answer.{manifest_said}
use Rattle.hr_wire.proofs.answers.manifest_said.Goals as goal

pub returns : goal.returns
returns c =
    ap₂ (λ (m b : List ℕ). Some (answer.Manifest (record { media = m; bytes = b }))) (c.in_ok-media.ensures ∙ c.type_said.ensures) c.in_ok-bytes.ensures
    ∙ ap (λ (o : Option (List ℕ)). manifest_said c.args.bytes.now o) c.in-Some.ensures
