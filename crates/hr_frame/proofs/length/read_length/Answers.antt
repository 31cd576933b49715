use Rattle.std.proofs.Common.{refl, sym, ◌∙◌, subst}
use Rattle.std.proofs.lemmas.Bool.{false≢true}
use Rattle.std.specs.Str.Parse.{ParsesUnsigned}
use Rattle.hr_base.specs.Bytes.{Text}
use Rattle.hr_frame.proofs.LengthLemmas.{other_bytes, not_text, parsed_length}
use Rattle.hr_frame.proofs.length.read_length.Goals as goal

pub returns-then-not-are_digits : goal.returns-then-not-are_digits
returns-then-not-are_digits c = other_bytes c.args.value.now (λ all. false≢true (c.if-not-are_digits.ensures.1 all))

pub returns-in_default : goal.returns-in_default
returns-in_default c = not_text c.args.value.now (c.if-not-are_digits.ensures.0 refl) c.in_default.ensures.cases.0

pub returns-in_err-len : goal.returns-in_err-len
returns-in_err-len c =
    let is = parsed_length c.args.value.now c.parse.result (c.if-not-are_digits.ensures.0 refl) (subst (λ (w : Text). ParsesUnsigned 64 10 w c.parse.result) c.in-Ok.ensures.cases.0 c.parse.ensures.value.0) in
    c.from_residual.ensures ∙ is.none (sym c.ok.ensures.value ∙ c.in_err-len.was)

pub returns-then-len : goal.returns-then-len
returns-then-len c =
    let is = parsed_length c.args.value.now c.parse.result (c.if-not-are_digits.ensures.0 refl) (subst (λ (w : Text). ParsesUnsigned 64 10 w c.parse.result) c.in-Ok.ensures.cases.0 c.parse.ensures.value.0) in
    is.small c.in_ok-len.len (sym c.ok.ensures.value ∙ c.in_ok-len.was) c.if-len.true c.if-value-gt-MOST_DIGITS.false
