use Rattle.hr_graph.proofs.GiveLemmas.{begun_sound, step_falls}
use Rattle.hr_graph.proofs.laws.steps_keep.Goals as goal

pub returns : goal.returns
returns c = record {
  begins = begun_sound;
  goes_on = λ old new answer s a e. (step_falls old new answer s a e).0;
}
