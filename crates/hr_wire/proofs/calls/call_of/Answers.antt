use Rattle.hr_wire.proofs.CallLemmas.{asked_call}
use Rattle.hr_wire.proofs.calls.call_of.Goals as goal

pub returns : goal.returns
returns c = asked_call c.args.request.now c.in_ok-route.route c.call_with.result (rw c.view.ensures at c.in_ok-route.ensures) c.call_with.ensures
