use Rattle.hr_board.proofs.OverLemmas.{stop_over}
use Rattle.hr_board.proofs.laws.a_stop_leaves_a_job_over.Goals as goal

pub returns : goal.returns
returns c = stop_over
