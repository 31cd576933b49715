use Rattle.hr_store.proofs.OrderLemmas.{newest}
use Rattle.hr_store.proofs.laws.a_new_execution_is_found.Goals as goal

pub returns : goal.returns
returns c = newest
