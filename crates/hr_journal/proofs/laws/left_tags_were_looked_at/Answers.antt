use Rattle.hr_journal.proofs.SourceLemmas.{kept_was_looked_at, same_was_looked_at}
use Rattle.hr_journal.proofs.laws.left_tags_were_looked_at.Goals as goal

pub returns-clause-same : goal.returns-clause-same
returns-clause-same c = same_was_looked_at

pub returns-clause-kept : goal.returns-clause-kept
returns-clause-kept c = kept_was_looked_at
