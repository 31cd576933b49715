use Rattle.hr_board.proofs.MovesLemmas.{below-reached, final-stays}
use Rattle.hr_board.proofs.moves.final_stays.Goals as goal

pub returns : goal.returns
returns c status mark f r = final-stays status mark f (below-reached _ mark r)
