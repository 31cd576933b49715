use Rattle.hr_copyable.proofs.OpenLemmas.{tags_are_held}
use Rattle.hr_copyable.proofs.laws.canonical_lines_store_whole_tags.Goals as goal

pub returns : goal.returns
returns c = λ text read opens reg reading is canonical once.
    tags_are_held c.few_pairs_are_reached_of_few.ensures c.image_reads_back.ensures c.index_reads_back.ensures read.lines opens
    (c.what_is_read_is_fit.ensures text read reading) canonical once is reg
