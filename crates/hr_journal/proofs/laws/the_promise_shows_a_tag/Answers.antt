use Rattle.hr_journal.proofs.PromiseLemmas.{promise_shows_under}
use Rattle.hr_journal.proofs.laws.the_promise_shows_a_tag.Goals as goal

pub returns : goal.returns
returns c = promise_shows_under
