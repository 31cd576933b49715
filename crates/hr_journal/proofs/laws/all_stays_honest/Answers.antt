use Rattle.hr_journal.proofs.HonestLemmas.{does_honest, puts_honest}
use Rattle.hr_journal.proofs.laws.all_stays_honest.Goals as goal

pub returns-clause-next : goal.returns-clause-next
returns-clause-next c = does_honest

pub returns-clause-journal : goal.returns-clause-journal
returns-clause-journal c = puts_honest
