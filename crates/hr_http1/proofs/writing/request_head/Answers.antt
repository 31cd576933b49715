use Rattle.hr_http1.proofs.WrittenLemmas.{request_put}
use Rattle.hr_http1.proofs.writing.request_head.Goals as goal

pub returns : goal.returns
returns c = request_put _ _ _ _ c.args.request.now.verb c.args.request.now.target _ _
    (rw (c.new-text.ensures.items, c.view.ensures) at c.in_ok-put_request_line.ensures)
    (rw c.view-2.ensures at c.in_ok-put_lines.ensures)
    (rw (c.has_length.ensures, c.view-3.ensures) at c.in_ok-put_length.ensures)
    c.in_ok-extend_from_slice.ensures.items
