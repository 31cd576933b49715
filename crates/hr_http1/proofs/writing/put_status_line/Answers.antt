use Rattle.std.proofs.Common.{◌∙◌}
use Rattle.hr_http1.proofs.WrittenLemmas.{status_put}
use Rattle.hr_http1.proofs.writing.put_status_line.Goals as goal

pub returns : goal.returns
returns c =
    status_put c.args.text.now.items _ _ _ _ _ _ _ _ c.args.status c.in_ok-extend_from_slice.ensures.items c.in_ok-extend_from_slice-2.ensures.items c.in_ok-extend_from_slice-3.ensures.items
    c.digit.ensures c.digit-2.ensures c.digit-3.ensures (c.as_bytes.ensures.value ∙ c.reason.ensures) c.in_ok-extend_from_slice-4.ensures.items
