use Rattle.std.proofs.Common.{arith}
use Rattle.hr_board.proofs.MovesLemmas.{same-word, word-small}
use Rattle.hr_board.proofs.StoppingLemmas.{looks-again, looks-higher}
use Rattle.hr_board.proofs.stopping.stop_at.Goals as goal

pub looks-smaller : goal.looks-smaller
looks-smaller g c =
    let higher = looks-higher _ _ _ _ _ c.looks.invariant.0 c.in-Err.ensures.found (λ e. c.in-Err.ensures.other (same-word _ _ e)) in
    omega (arith, higher, word-small c.in-Err.found)

pub looks-preserved : goal.looks-preserved
looks-preserved g c = (
  looks-again _ _ _ _ _ _ c.looks.invariant.0 c.in-Err.ensures.found c.in-Err.ensures.noted,
  g.met.B.Board.same_after _ _ _ c.looks.invariant.1 c.in-Err.ensures.same,
)
