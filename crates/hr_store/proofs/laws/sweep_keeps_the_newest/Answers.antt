use Rattle.hr_store.proofs.LawLemmas.{few-kept, gone, stays}
use Rattle.hr_store.proofs.laws.sweep_keeps_the_newest.Goals as goal

pub returns-clause-stays : goal.returns-clause-stays
returns-clause-stays c = λ keep older newer exec. stays keep older newer exec

pub returns-clause-goes : goal.returns-clause-goes
returns-clause-goes c = λ keep older newer exec. gone 0 0 keep older newer exec

pub returns-clause-few : goal.returns-clause-few
returns-clause-few c = few-kept
