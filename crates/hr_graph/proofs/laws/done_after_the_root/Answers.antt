use Rattle.hr_graph.proofs.AnsweredLemmas.{begun_undone, done_last}
use Rattle.hr_graph.proofs.GiveLemmas.{begun_sound}
use Rattle.hr_graph.proofs.laws.done_after_the_root.Goals as goal

pub returns : goal.returns
returns c = record {
  begins = λ root manifest view is begun. begun_undone root manifest view begun (begun_sound root manifest view is begun);
  goes_on = done_last;
}
