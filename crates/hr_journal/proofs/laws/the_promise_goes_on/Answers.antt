use Rattle.hr_journal.proofs.PromiseLemmas.{promise_elsewhere, promise_on, promise_still}
use Rattle.hr_journal.proofs.laws.the_promise_goes_on.Goals as goal

pub returns-clause-next : goal.returns-clause-next
returns-clause-next c = promise_on

pub returns-clause-elsewhere : goal.returns-clause-elsewhere
returns-clause-elsewhere c = promise_elsewhere

pub returns-clause-still : goal.returns-clause-still
returns-clause-still c = promise_still
