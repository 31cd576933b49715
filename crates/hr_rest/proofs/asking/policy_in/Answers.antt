use Rattle.std.proofs.Common.{◌<◌, ℕ, Err, ap, subst}
use Rattle.hr_json.specs.declared.doc.TheConstants.{DOC_LIMIT}
use Rattle.hr_rest.proofs.AskingLemmas.{too_long_body}
use Rattle.hr_rest.proofs.asking.policy_in.Goals as goal

pub returns-in-Err-TooLong : goal.returns-in-Err-TooLong
returns-in-Err-TooLong c =
    let long = (c.in-Err-TooLong.ensures.too_long c.in-Err-TooLong.field-0-0).0 (ap Err c.in-Err-TooLong.field-0-is) in
    too_long_body c.args.body.now (subst (λ (n : ℕ). DOC_LIMIT < n) long.0 long.1)
