use Rattle.hr_graph.proofs.LastLemmas.{comes_last}
use Rattle.hr_graph.proofs.laws.put_comes_last.Goals as goal

pub returns : goal.returns
returns c = comes_last
