use Rattle.hr_board.proofs.OverLemmas.{keeps_itself, keeps_after}
use Rattle.hr_board.proofs.laws.calls_keep_in_turn.Goals as goal

pub returns-clause-none : goal.returns-clause-none
returns-clause-none c = keeps_itself

pub returns-clause-both : goal.returns-clause-both
returns-clause-both c = keeps_after
