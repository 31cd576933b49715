use Rattle.hr_journal.proofs.TextLemmas.{one_text_each}
use Rattle.hr_journal.proofs.laws.digests_stand_for_one_text.Goals as goal

pub returns : goal.returns
returns c = one_text_each
