use Rattle.std.proofs.Common.{◌≡◌, ◌∙◌, ap, sym, arith, None}
use Rattle.hr_body.specs.Reading.{in_word}
use Rattle.hr_frame.specs.Framing.{reply_framing}
use Rattle.hr_http1.proofs.ReplyLemmas.{unframed_lost}
use Rattle.hr_http1.proofs.response.read_framed.Goals as goal

pub returns-in-None-clause-err : goal.returns-in-None-clause-err
returns-in-None-clause-err g c = λ limit.
    let small : c.in_ok-head.at ≡ in_word c.in_ok-head.at = omega (arith, c.in_ok-head.ensures.len) in
    let none : reply_framing c.args.head_only c.in_ok-head.head.status c.in_ok-head.head.heads ≡ None =
    ap (λ l. reply_framing c.args.head_only c.in_ok-head.head.status l) (sym c.view.ensures) ∙ sym c.reply_framing.ensures ∙ c.in-None.is in
    unframed_lost c.args.head_only limit c.in_ok-head.at _ _ c.in_ok-head.head small c.in_ok-head.ensures.ok none
