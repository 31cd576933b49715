use Rattle.hr_journal.proofs.TextLemmas.{texts_stand_whole}
use Rattle.hr_journal.proofs.laws.tags_stand_whole.Goals as goal

pub returns : goal.returns
returns c = texts_stand_whole
