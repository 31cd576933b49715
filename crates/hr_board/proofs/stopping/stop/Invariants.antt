use Rattle.std.proofs.Common.{◌-◌}
use Rattle.hr_board.proofs.StoppingLemmas.{Passed}
use Rattle.hr_board.proofs.stopping.stop.Given as goal

abbrev pub invariant-revisions : goal.invariant-revisions
invariant-revisions g l =
    Passed (g.B.Board.seen l.fn.board) l.fn.job.0 l.fn.attempts l.rev (g.B.Board.seen l.board)
    × g.B.Board.same l.fn.board l.board

abbrev pub decreases-revisions : goal.decreases-revisions
decreases-revisions g l = l.fn.attempts - l.rev
