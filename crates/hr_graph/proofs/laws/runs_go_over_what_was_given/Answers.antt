use Rattle.hr_graph.proofs.RunLemmas.{leaves}
use Rattle.hr_graph.proofs.laws.runs_go_over_what_was_given.Goals as goal

pub returns : goal.returns
returns c = λ root manifest run view at. (leaves root manifest run view at).read
