use Rattle.hr_hooks.proofs.DeliveryLemmas.{delivers-more, delivers-none}
use Rattle.hr_hooks.proofs.laws.deliveries_add_up.Goals as goal

pub returns-clause-none : goal.returns-clause-none
returns-clause-none c = delivers-none

pub returns-clause-both : goal.returns-clause-both
returns-clause-both c = delivers-more
