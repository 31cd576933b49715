use Rattle.std.proofs.Common.{◌-◌}
use Rattle.hr_base.specs.Status.{word_of}
use Rattle.hr_board.specs.View.{place_of}
use Rattle.hr_board.proofs.StoppingLemmas.{Looks}
use Rattle.hr_board.proofs.stopping.stop_at.Given as goal

abbrev pub invariant-looks : goal.invariant-looks
invariant-looks g l =
    Looks (g.B.Board.seen l.fn.board) (place_of l.fn.job.0 l.fn.rev) (word_of l.mark) (g.B.Board.seen l.board)
    × g.B.Board.same l.fn.board l.board

abbrev pub decreases-looks : goal.decreases-looks
decreases-looks g l = 7 - word_of l.mark
