-- Whatever deliveries follow, they follow those that were made; no hook was emitted.
use Rattle.std.proofs.Common.{◌≡◌}
use Rattle.hr_run.specs.Finish.{DeliversFrom}
use Rattle.hr_run.specs.Ready.{IsReady}
use Rattle.hr_run.specs.Run.{DeliversSome}
use Rattle.hr_run.specs.Sound.{IsSound}
use Rattle.hr_run.specs.State.{CoreState}
use Rattle.hr_core.proofs.engine.Core.deliver_all.Given as goal

abbrev pub invariant-loop-place : goal.invariant-loop-place
invariant-loop-place g l = record {
  from : (t : CoreState) → DeliversFrom l.place l.self t → DeliversFrom 0 l.initial.self t;
  some : (t : CoreState) → DeliversSome l.place l.self t → DeliversSome 0 l.initial.self t;
  ready : IsReady l.self;
  sound : IsSound l.self;
  hooks : l.self.hooks ≡ l.initial.self.hooks;
}
