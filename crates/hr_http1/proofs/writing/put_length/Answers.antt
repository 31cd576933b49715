use Rattle.std.proofs.Common.{◌≡◌, ◌∙◌, true, arith}
use Rattle.std.proofs.lemmas.Grind.{common_steps}
use Rattle.std.proofs.lemmas.Result.{on_ok_weaker}
use Rattle.hr_http1.proofs.WrittenLemmas.{length_put}
use Rattle.hr_http1.proofs.writing.put_length.Goals as goal

pub returns : goal.returns
returns c =
    let on : c.args.written ≡ true = grind (arith, common_steps) in
    on_ok_weaker c.put_line.result (length_put _ _ _ c.args.written c.args.len on (c.as_bytes.ensures.value ∙ c.in_ok-number.ensures.ok)) c.put_line.ensures
