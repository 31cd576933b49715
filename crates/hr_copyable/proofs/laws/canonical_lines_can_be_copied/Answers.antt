use Rattle.hr_copyable.proofs.OpenLemmas.{can_be_copied}
use Rattle.hr_copyable.proofs.laws.canonical_lines_can_be_copied.Goals as goal

pub returns : goal.returns
returns c = λ text read opens reading is canonical once.
    can_be_copied c.few_pairs_are_reached_of_few.ensures c.image_reads_back.ensures c.index_reads_back.ensures read.lines opens
    (c.what_is_read_is_fit.ensures text read reading) canonical once is
