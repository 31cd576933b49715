use Rattle.hr_line.proofs.StepLemmas.{line_seen}
use Rattle.hr_line.proofs.laws.lines_have_evidence.Goals as goal

pub returns : goal.returns
returns c = line_seen
