use Rattle.std.proofs.Common.{◌∙◌, refl, subst, arith}
use Rattle.hr_pattern.specs.Choice.{form_at}
use Rattle.hr_pattern.specs.Form.{reading_of, FormCovers}
use Rattle.hr_pattern.proofs.NumberLemmas.{some_form, none_of_forms}
use Rattle.hr_pattern.proofs.expansion.some_covers.Goals as goal

pub returns-then-covers : goal.returns-then-covers
returns-then-covers c =
    let is = c.as_slice.ensures.value ∙ c.expand.ensures in
    let covers : FormCovers c.args.text.now (form_at c.loop-number.number (reading_of c.args.pattern.now).parts) =
    subst (FormCovers c.args.text.now) is (c.covers.ensures.0 c.if-covers.true)
    in
    (λ _. some_form (FormCovers c.args.text.now) c.args.pattern.now c.loop-number.number c.args.forms c.requires.forms c.loop-number-test.true covers, λ _. refl)

pub returns : goal.returns
returns c =
    let none = none_of_forms (FormCovers c.args.text.now) c.args.pattern.now c.args.forms c.requires.forms (λ k lt. c.loop-number.invariant k (omega arith)) in
    (λ yes. absurd (cc), λ some. absurd (none some))
