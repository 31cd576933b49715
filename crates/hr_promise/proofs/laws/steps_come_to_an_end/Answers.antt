use Rattle.hr_promise.proofs.MeasureLemmas.{goes_falls, goes_told}
use Rattle.hr_promise.proofs.laws.steps_come_to_an_end.Goals as goal

pub returns-clause-fewer : goal.returns-clause-fewer
returns-clause-fewer c = goes_falls

pub returns-clause-told : goal.returns-clause-told
returns-clause-told c = goes_told
