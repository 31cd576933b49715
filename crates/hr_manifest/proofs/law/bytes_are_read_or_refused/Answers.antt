use Rattle.hr_manifest.proofs.ReadingLemmas.{either}
use Rattle.hr_manifest.proofs.law.bytes_are_read_or_refused.Goals as goal

pub returns-clause-either : goal.returns-clause-either
returns-clause-either c = either _
