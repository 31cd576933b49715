use Rattle.hr_base.proofs.MergeLemmas.{first_greatest-is}
use Rattle.hr_base.proofs.merge.joined_is_first_greatest.Goals as goal

pub returns : goal.returns
returns c hooks = first_greatest-is _ _
