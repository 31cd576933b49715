use Rattle.hr_json.specs.Node.{value_of, values_of}
use Rattle.hr_policy.specs.Reading.{policy_of}
use Rattle.hr_policy.proofs.StepLemmas.{each-next, each-fails}
use Rattle.hr_policy.proofs.policy.read_policies.Goals as goal

pub loop-at-preserved : goal.loop-at-preserved
loop-at-preserved c =
    each-next policy_of (values_of c.args.items.now) c.loop-at.at (value_of c.in-Some.node) c.loop-at.found _ c.in-Ok.policy c.in_ok-push.ensures.ok c.in-Some.ensures c.loop-at.invariant c.in-Ok.ensures

pub returns-in-Err : goal.returns-in-Err
returns-in-Err c =
    each-fails policy_of (values_of c.args.items.now) c.loop-at.at (value_of c.in-Some.node) c.loop-at.found c.in-Err.why c.in-Some.ensures c.loop-at.invariant c.in-Err.ensures
