use Rattle.std.proofs.Common.{Some, None, sym, append-nil}
use Rattle.hr_json.specs.Node.{value_of, values_of}
use Rattle.hr_policy.specs.Filter.{filter_of}
use Rattle.hr_policy.proofs.StepLemmas.{some-next, some-fails}
use Rattle.hr_policy.proofs.filter.read_each.Goals as goal

pub loop-at-preserved : goal.loop-at-preserved
loop-at-preserved c =
    let read = c.in-Ok-Some.ensures in
    some-next (filter_of c.args.policy) (values_of c.args.items.now) c.loop-at.at (value_of c.in-Some.node) c.loop-at.found _ (Some c.in-Ok-Some.filter) c.in_ok-push.ensures.ok c.in-Some.ensures c.loop-at.invariant (rw c.in-Ok-Some.field-0-is at read)

pub loop-at-preserved-in-Ok-None : goal.loop-at-preserved-in-Ok-None
loop-at-preserved-in-Ok-None c =
    let read = c.in-Ok-None.ensures in
    some-next (filter_of c.args.policy) (values_of c.args.items.now) c.loop-at.at (value_of c.in-Some.node) c.loop-at.found c.loop-at.found None (sym (append-nil c.loop-at.found)) c.in-Some.ensures c.loop-at.invariant (rw c.in-Ok-None.field-0-is at read)

pub returns-in-Err : goal.returns-in-Err
returns-in-Err c =
    some-fails (filter_of c.args.policy) (values_of c.args.items.now) c.loop-at.at (value_of c.in-Some.node) c.loop-at.found c.in-Err.why c.in-Some.ensures c.loop-at.invariant c.in-Err.ensures
