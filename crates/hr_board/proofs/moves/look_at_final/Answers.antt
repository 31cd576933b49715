use Rattle.hr_board.proofs.MovesLemmas.{final-stays}
use Rattle.hr_board.proofs.moves.look_at_final.Goals as goal

pub returns : goal.returns
returns g c status f n = final-stays status _ f (c.look.ensures.found.above _ n)
