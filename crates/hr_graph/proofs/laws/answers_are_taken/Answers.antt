use Rattle.hr_graph.proofs.AnsweredLemmas.{answered}
use Rattle.hr_graph.proofs.laws.answers_are_taken.Goals as goal

pub returns : goal.returns
returns c = answered
