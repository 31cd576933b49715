use Rattle.hr_http1.proofs.WrittenLemmas.{reply_put}
use Rattle.hr_http1.proofs.writing.reply_head.Goals as goal

pub returns : goal.returns
returns c = reply_put _ _ _ _ c.args.reply.now.status _ _
    (rw c.new-text.ensures.items at c.in_ok-put_status_line.ensures)
    (rw c.view.ensures at c.in_ok-put_lines.ensures)
    (rw c.view-2.ensures at c.in_ok-put_length.ensures)
    c.in_ok-extend_from_slice.ensures.items
