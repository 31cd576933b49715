use Rattle.hr_base.proofs.MergeLemmas.{joined-push}
use Rattle.hr_base.proofs.merge.joined_in_turn.Goals as goal

pub returns : goal.returns
returns c = joined-push
