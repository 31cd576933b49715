use Rattle.hr_script.proofs.OneLemmas.{some_reading}
use Rattle.hr_script.proofs.reading.some_reading.Goals as goal

pub returns : goal.returns
returns c = some_reading
