-- Whatever steps follow, they follow those that were done; the turn is still out.
use Rattle.std.proofs.Common.{◌≡◌}
use Rattle.hr_run.specs.Finish.{StepsOut}
use Rattle.hr_run.specs.Ready.{IsReady}
use Rattle.hr_run.specs.Run.{StepsSome}
use Rattle.hr_run.specs.Sound.{IsSound}
use Rattle.hr_run.specs.State.{CoreState}
use Rattle.hr_core.proofs.engine.Core.step_away.Given as goal

abbrev pub invariant-steps : goal.invariant-steps
invariant-steps g l = record {
  outs : (t : CoreState) → StepsOut l.turn.job l.self t → StepsOut l.turn.job l.initial.self t;
  some : (t : CoreState) → StepsSome l.turn.job l.self t → StepsSome l.turn.job l.initial.self t;
  ready : IsReady l.self;
  sound : IsSound l.self;
  turns : l.self.turns ≡ l.initial.self.turns;
}
