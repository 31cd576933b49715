use Rattle.hr_opening.proofs.OpeningLaws.{opened_are_eight}
use Rattle.hr_opening.proofs.laws.eight_registries_open.Goals as goal

pub returns : goal.returns
returns c = λ lines opened is. opened_are_eight lines opened is
