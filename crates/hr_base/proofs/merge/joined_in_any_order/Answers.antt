use Rattle.hr_base.proofs.MergeLemmas.{joined_alike}
use Rattle.hr_base.proofs.merge.joined_in_any_order.Goals as goal

pub returns : goal.returns
returns c = joined_alike
