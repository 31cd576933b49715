use Rattle.hr_journal.proofs.GrowsLemmas.{does_grow}
use Rattle.hr_journal.proofs.laws.nothing_is_lost.Goals as goal

pub returns : goal.returns
returns c = does_grow
