use Rattle.hr_script.proofs.OneLemmas.{same_reading}
use Rattle.hr_script.proofs.reading.one_reading.Goals as goal

pub returns : goal.returns
returns c = same_reading
