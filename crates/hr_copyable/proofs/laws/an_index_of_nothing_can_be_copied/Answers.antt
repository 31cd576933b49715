use Rattle.hr_copyable.proofs.WorkedLemmas.{lone_copied}
use Rattle.hr_copyable.proofs.laws.an_index_of_nothing_can_be_copied.Goals as goal

pub returns : goal.returns
returns c = lone_copied c.few_pairs_are_reached_of_few.ensures c.image_reads_back.ensures c.index_reads_back.ensures
