use Rattle.hr_policy.proofs.ConfigBackLemmas.{config-back}
use Rattle.hr_policy.proofs.law.configurations_read_back.Goals as goal

pub returns : goal.returns
returns c = config-back
