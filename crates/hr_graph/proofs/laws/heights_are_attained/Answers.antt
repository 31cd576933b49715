use Rattle.hr_graph.proofs.AnsweredLemmas.{attained}
use Rattle.hr_graph.proofs.laws.heights_are_attained.Goals as goal

pub returns : goal.returns
returns c = attained
