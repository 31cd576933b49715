use Rattle.hr_board.proofs.MovesLemmas.{at-final}
use Rattle.hr_board.proofs.moves.move_at_final.Goals as goal

pub returns : goal.returns
returns g c status f n =
    at-final c.advance.result _ _ _ _ status c.requires.moves f n c.advance.ensures.ok c.advance.ensures.found
