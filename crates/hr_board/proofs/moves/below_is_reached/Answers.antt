use Rattle.hr_board.proofs.MovesLemmas.{below-reached, reached-below}
use Rattle.hr_board.proofs.moves.below_is_reached.Goals as goal

pub returns : goal.returns
returns c from to = (reached-below from to, below-reached from to)
