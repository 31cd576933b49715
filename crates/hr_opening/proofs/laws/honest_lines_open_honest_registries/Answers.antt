use Rattle.hr_opening.proofs.OpeningLaws.{opened_are_honest}
use Rattle.hr_opening.proofs.laws.honest_lines_open_honest_registries.Goals as goal

pub returns : goal.returns
returns c = λ lines opened is keeps. opened_are_honest lines opened is keeps
