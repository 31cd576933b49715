use Rattle.std.proofs.Common.{◌≡◌, ◌∙◌, ap, sym, None, Some, length}
use Rattle.std.proofs.lemmas.Result.{err_from_is_err_and}
use Rattle.hr_pattern.specs.Form.{fault_of, forms_of, forms, reading_of, too_many}
use Rattle.hr_pattern.specs.Reading.{outside}
use Rattle.hr_pattern.proofs.FaultLemmas.{unless, long, many, other, expanded}
use Rattle.hr_pattern.proofs.pattern.Pattern.read.Goals as goal

pub returns-then-text-gt-LIMIT-clause-refused : goal.returns-then-text-gt-LIMIT-clause-refused
returns-then-text-gt-LIMIT-clause-refused c = long c.args.text.now c.if-text-gt-LIMIT.true

pub returns-in_err-forms-clause-refused : goal.returns-in_err-forms-clause-refused
returns-in_err-forms-clause-refused c =
    let is : c.in_ok-reading.reading ≡ reading_of c.args.text.now = c.in_ok-reading.ensures ∙ ap outside (c.view.ensures ∙ c.in_ok-signs.ensures) in
    let p = err_from_is_err_and c.from_residual-in_err-forms.result c.from_residual-in_err-forms.ensures.1 in
    let passed : too_many 1 c.in_ok-reading.reading.parts ≡ Some p.0 = ap (too_many 1) (sym c.view-2.ensures) ∙ c.in_err-forms.ensures.refused ∙ ap Some (sym p.2) in
    rw p.1 (unless p.0 _ (many c.args.text.now c.in_ok-reading.reading p.0 c.if-text-gt-LIMIT.false is passed))

pub returns-in-Some-clause-refused : goal.returns-in-Some-clause-refused
returns-in-Some-clause-refused c =
    let is : c.in_ok-reading.reading ≡ reading_of c.args.text.now = c.in_ok-reading.ensures ∙ ap outside (c.view.ensures ∙ c.in_ok-signs.ensures) in
    let few : too_many 1 c.in_ok-reading.reading.parts ≡ None = ap (too_many 1) (sym c.view-2.ensures) ∙ c.in_ok-forms.ensures.few in
    unless c.in-Some.refused _ (other c.args.text.now c.in_ok-reading.reading (Some c.in-Some.refused) c.if-text-gt-LIMIT.false is few c.in-Some.is)

pub invariant_of-result : goal.invariant_of-result
invariant_of-result c =
    let is : c.in_ok-reading.reading ≡ reading_of c.args.text.now = c.in_ok-reading.ensures ∙ ap outside (c.view.ensures ∙ c.in_ok-signs.ensures) in
    let few : too_many 1 c.in_ok-reading.reading.parts ≡ None = ap (too_many 1) (sym c.view-2.ensures) ∙ c.in_ok-forms.ensures.few in
    let sound : fault_of c.args.text.now ≡ None = other c.args.text.now c.in_ok-reading.reading None c.if-text-gt-LIMIT.false is few c.in_default.is in
    let made : forms c.in_ok-reading.reading.parts ≡ forms_of c.args.text.now = expanded c.args.text.now c.in_ok-reading.reading is in
    record {
      sound = ap fault_of c.in_ok-text.ensures ∙ sound;
      forms = c.in_ok-forms.ensures.count ∙ ap (λ parts. length (forms parts)) c.view-2.ensures ∙ ap length (made ∙ sym (ap forms_of c.in_ok-text.ensures));
    }

pub returns-clause-ok : goal.returns-clause-ok
returns-clause-ok c =
    let is : c.in_ok-reading.reading ≡ reading_of c.args.text.now = c.in_ok-reading.ensures ∙ ap outside (c.view.ensures ∙ c.in_ok-signs.ensures) in
    let few : too_many 1 c.in_ok-reading.reading.parts ≡ None = ap (too_many 1) (sym c.view-2.ensures) ∙ c.in_ok-forms.ensures.few in
    other c.args.text.now c.in_ok-reading.reading None c.if-text-gt-LIMIT.false is few c.in_default.is
