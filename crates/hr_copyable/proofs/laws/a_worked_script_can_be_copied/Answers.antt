use Rattle.hr_copyable.proofs.WorkedLemmas.{worked_canonical, worked_copied, worked_open}
use Rattle.hr_copyable.proofs.laws.a_worked_script_can_be_copied.Goals as goal

pub returns-clause-canonical : goal.returns-clause-canonical
returns-clause-canonical c = worked_canonical

pub returns-clause-opens : goal.returns-clause-opens
returns-clause-opens c = worked_open

pub returns-clause-copied : goal.returns-clause-copied
returns-clause-copied c =
    worked_copied c.few_pairs_are_reached_of_few.ensures c.image_reads_back.ensures c.index_reads_back.ensures
