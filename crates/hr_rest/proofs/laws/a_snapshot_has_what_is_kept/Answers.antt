use Rattle.hr_rest.proofs.SnapshotLemmas.{rows_found, view_found}
use Rattle.hr_rest.proofs.laws.a_snapshot_has_what_is_kept.Goals as goal

pub returns-clause-exec : goal.returns-clause-exec
returns-clause-exec c = view_found

pub returns-clause-rows : goal.returns-clause-rows
returns-clause-rows c = λ number execs ordered. rows_found number 0 0 execs ordered
