use Rattle.hr_store.proofs.LawLemmas.{heard-put}
use Rattle.hr_store.proofs.laws.a_taken_hook_is_put.Goals as goal

pub returns : goal.returns
returns c = λ store after board board_after hook raised. heard-put store board hook raised after board_after
