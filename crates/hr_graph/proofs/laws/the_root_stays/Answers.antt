use Rattle.hr_graph.proofs.AnsweredLemmas.{begun_root, root_stays}
use Rattle.hr_graph.proofs.laws.the_root_stays.Goals as goal

pub returns : goal.returns
returns c = record { begins = begun_root; goes_on = root_stays }
