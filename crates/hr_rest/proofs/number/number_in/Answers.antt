use Rattle.std.proofs.Common.{sym, ◌∙◌, ℕ, List, subst}
use Rattle.std.specs.Str.Parse.{ParsesUnsigned}
use Rattle.hr_rest.proofs.NumberLemmas.{number_text, parsed}
use Rattle.hr_rest.proofs.number.number_in.Goals as goal

pub returns-in_default : goal.returns-in_default
returns-in_default c = absurd (number_text c.args.text.now (sym c.is_number.ensures ∙ c.if-not-is_number.false) c.in_default.ensures.cases.0)

pub returns-in-Err : goal.returns-in-Err
returns-in-Err c =
    let is = parsed c.args.text.now c.parse.result (sym c.is_number.ensures ∙ c.if-not-is_number.false) (subst (λ (w : List ℕ). ParsesUnsigned 64 10 w c.parse.result) c.in-Ok.ensures.cases.0 c.parse.ensures.value.0) in
    is.not c.in-Err.field-0 c.in-Err.is
