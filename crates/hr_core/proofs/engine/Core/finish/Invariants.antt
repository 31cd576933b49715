-- Whatever rounds follow, they follow those that were run.
use Rattle.hr_run.specs.Finish.{RunsRounds}
use Rattle.hr_run.specs.Ready.{IsReady}
use Rattle.hr_run.specs.Sound.{IsSound}
use Rattle.hr_run.specs.State.{CoreState}
use Rattle.hr_core.proofs.engine.Core.finish.Given as goal

abbrev pub invariant-rounds : goal.invariant-rounds
invariant-rounds g l = record {
  ran : (t : CoreState) → RunsRounds l.self t → RunsRounds l.initial.self t;
  ready : IsReady l.self;
  sound : IsSound l.self;
}
