use Rattle.hr_board.proofs.OverLemmas.{over}
use Rattle.hr_board.proofs.laws.what_was_over_is_over.Goals as goal

pub returns : goal.returns
returns c = over
