use Rattle.hr_run.proofs.RunLemmas.{parts_run, parts_sound}
use Rattle.hr_run.proofs.laws.lanes_run.Goals as goal

pub returns-clause-runs : goal.returns-clause-runs
returns-clause-runs c = parts_run c.calls_are_those_of_a_lane.ensures.steps

pub returns-clause-sound : goal.returns-clause-sound
returns-clause-sound c = parts_sound
