use Rattle.std.proofs.Common.{◌≤◌, rules}
use Rattle.hr_core.proofs.DeliverLemmas.{number_given}
use Rattle.hr_core.proofs.engine.Core.deliver.Goals as goal

pub returns-clause-ok : goal.returns-clause-ok
returns-clause-ok g c =
    let some : 1 ≤ c.args.number = search rules in
    number_given c.args.self.now c.deliver_at.new.self c.args.number c.in_ok-received.received some c.in_ok-received.ensures.ok
