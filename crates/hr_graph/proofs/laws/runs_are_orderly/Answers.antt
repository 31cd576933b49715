use Rattle.hr_graph.proofs.RunLemmas.{orderly, whole}
use Rattle.hr_graph.proofs.laws.runs_are_orderly.Goals as goal

pub returns : goal.returns
returns c = record { going = orderly; done = whole }
