use Rattle.hr_journal.proofs.PromiseLemmas.{promise_opens}
use Rattle.hr_journal.proofs.laws.the_promise_opens.Goals as goal

pub returns : goal.returns
returns c = promise_opens
