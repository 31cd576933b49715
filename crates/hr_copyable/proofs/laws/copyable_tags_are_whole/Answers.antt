use Rattle.hr_copyable.proofs.CopyableLemmas.{tag_whole}
use Rattle.hr_copyable.proofs.laws.copyable_tags_are_whole.Goals as goal

pub returns : goal.returns
returns c = λ opens reg repo tag target is apart there. tag_whole opens reg repo tag target is apart there
