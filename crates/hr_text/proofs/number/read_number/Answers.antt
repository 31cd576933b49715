use Rattle.std.proofs.Common.{sym, ◌∙◌, ℕ, List, subst}
use Rattle.std.specs.Str.Parse.{ParsesUnsigned}
use Rattle.hr_text.proofs.NumberLemmas.{not_begun, not_text, parsed_number}
use Rattle.hr_text.proofs.number.read_number.Goals as goal

pub returns-then-not-begins_number-clause-none : goal.returns-then-not-begins_number-clause-none
returns-then-not-begins_number-clause-none c = not_begun c.args.word.now (sym c.begins_number.ensures ∙ c.if-not-begins_number.true)

pub returns-in_default-clause-none : goal.returns-in_default-clause-none
returns-in_default-clause-none c = not_text c.args.word.now c.in_default.ensures.cases.0

pub returns-clause-some : goal.returns-clause-some
returns-clause-some c =
    let begins = sym c.begins_number.ensures ∙ c.if-not-begins_number.false in
    let is = parsed_number c.args.word.now c.parse.result begins (subst (λ (w : List ℕ). ParsesUnsigned 64 10 w c.parse.result) c.in-Ok.ensures.cases.0 c.parse.ensures.value.0) in
    rw c.ok.ensures.value is.some

pub returns-clause-none : goal.returns-clause-none
returns-clause-none c =
    let begins = sym c.begins_number.ensures ∙ c.if-not-begins_number.false in
    let is = parsed_number c.args.word.now c.parse.result begins (subst (λ (w : List ℕ). ParsesUnsigned 64 10 w c.parse.result) c.in-Ok.ensures.cases.0 c.parse.ensures.value.0) in
    rw c.ok.ensures.value is.none
