use Rattle.std.proofs.Common.{subst}
use Rattle.hr_run.specs.Turning.{NoneHolds}
use Rattle.hr_core.specs.Lanes.{HoldsAt}
use Rattle.hr_core.proofs.TurnLemmas.{out_fits, settle_held, settle_made, settle_none}
use Rattle.hr_core.proofs.engine.Core.settle.Goals as goal

pub returns-in_default : goal.returns-in_default
returns-in_default g c = settle_none _ c.args.self.now c.args.job c.self.view_is c.in_default.ensures

pub returns-in-Some-find_lane : goal.returns-in-Some-find_lane
returns-in-Some-find_lane g c =
    settle_held _ c.args.self.now c.args.job c.in-Some.turn c.in-Some-find_lane.field-0 c.self.view_is c.in-Some.ensures
    (subst (λ lanes. HoldsAt lanes c.args.job c.in-Some-find_lane.field-0) c.deref.ensures.value c.in-Some-find_lane.ensures)

pub settle-came-requires-clause-job : goal.settle-came-requires-clause-job
settle-came-requires-clause-job g c =
    out_fits _ c.args.self.now c.in-Some.turn c.self.view_is c.requires.ready c.in-Some.ensures.1

pub returns : goal.returns
returns g c =
    settle_made _ c.args.self.now c.args.job c.in-Some.turn c.settle-came.new.self c.settle-came.new.board c.settle-came.result
    c.tell_settled.result c.self.view_is c.in-Some.ensures
    (subst (λ lanes. NoneHolds lanes c.args.job) c.deref.ensures.value c.in_default-find_lane.ensures) c.settle-came.ensures.settles
    c.tell_settled.ensures
