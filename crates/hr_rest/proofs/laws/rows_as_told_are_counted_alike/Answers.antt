use Rattle.hr_rest.proofs.SnapshotLemmas.{recounted_told}
use Rattle.hr_rest.proofs.laws.rows_as_told_are_counted_alike.Goals as goal

pub returns : goal.returns
returns c = recounted_told
