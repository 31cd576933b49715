use Rattle.hr_base.proofs.MergeLemmas.{joined-again}
use Rattle.hr_base.proofs.merge.joined_again.Goals as goal

pub returns : goal.returns
returns c = joined-again
