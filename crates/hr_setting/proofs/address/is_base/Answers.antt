use Rattle.std.proofs.Common.{sym, ◌∙◌}
use Rattle.std.proofs.lemmas.Result.{IfOk-weaker}
use Rattle.hr_setting.proofs.AddressLemmas.{no_text, url_decides}
use Rattle.hr_setting.proofs.address.is_base.Goals as goal

pub returns-in-Err : goal.returns-in-Err
returns-in-Err c =
    no_text c.args.text.now (sym (sym c.are_base_bytes.ensures ∙ c.if-not-are_base_bytes.false)) c.in-Err.ensures.cases.0

pub returns-in-Ok : goal.returns-in-Ok
returns-in-Ok c =
    let bytes = sym (sym c.are_base_bytes.ensures ∙ c.if-not-are_base_bytes.false) in
    IfOk-weaker c.is_url.result _ _ (λ answer h. url_decides c.args.text.now c.in-Ok.text.now answer bytes c.in-Ok.ensures.cases.1 c.in-Ok.ensures.cases.0 h) c.is_url.ensures
