use Rattle.hr_journal.proofs.OriginLemmas.{read_was_shown}
use Rattle.hr_journal.proofs.SourceLemmas.{tag_was_read}
use Rattle.hr_journal.proofs.laws.tags_were_read.Goals as goal

pub returns-clause-read : goal.returns-clause-read
returns-clause-read c = tag_was_read

pub returns-clause-shown : goal.returns-clause-shown
returns-clause-shown c = read_was_shown
