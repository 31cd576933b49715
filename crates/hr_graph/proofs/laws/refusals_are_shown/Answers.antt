use Rattle.hr_graph.proofs.RunLemmas.{begun_refusal, refusal}
use Rattle.hr_graph.proofs.laws.refusals_are_shown.Goals as goal

pub returns : goal.returns
returns c = record {
  begins = begun_refusal;
  goes_on = refusal;
}
