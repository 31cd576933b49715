use Rattle.hr_journal.proofs.SourceLemmas.{promise_read}
use Rattle.hr_journal.proofs.laws.tags_are_complete.Goals as goal

pub returns : goal.returns
returns c = promise_read
