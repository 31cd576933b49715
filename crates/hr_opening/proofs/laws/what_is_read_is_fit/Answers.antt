use Rattle.hr_opening.proofs.FitLaws.{reading_fit}
use Rattle.hr_opening.proofs.laws.what_is_read_is_fit.Goals as goal

pub returns : goal.returns
returns c = λ text read is. reading_fit text read is
