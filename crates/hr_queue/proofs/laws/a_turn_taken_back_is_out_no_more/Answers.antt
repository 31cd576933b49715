use Rattle.hr_queue.proofs.SettlingLemmas.{taken_back}
use Rattle.hr_queue.proofs.laws.a_turn_taken_back_is_out_no_more.Goals as goal

pub returns : goal.returns
returns c = taken_back
