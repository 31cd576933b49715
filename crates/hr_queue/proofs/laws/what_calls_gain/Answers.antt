use Rattle.hr_queue.proofs.GainsLemmas.{take_gains, add_gains, settle_gains}
use Rattle.hr_queue.proofs.laws.what_calls_gain.Goals as goal

pub returns-clause-take : goal.returns-clause-take
returns-clause-take c = take_gains

pub returns-clause-add : goal.returns-clause-add
returns-clause-add c = add_gains

pub returns-clause-settle : goal.returns-clause-settle
returns-clause-settle c = settle_gains
