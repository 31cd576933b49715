-- The rows of the executions so far.
use Rattle.std.proofs.Common.{◌≡◌, take}
use Rattle.hr_rest.specs.Snapshot.{rows_kept}
use Rattle.hr_rest.proofs.taking.rows_kept.Given as goal

abbrev pub invariant-loop-exec : goal.invariant-loop-exec
invariant-loop-exec l = l.all.items ≡ rows_kept (take l.exec-index l.store.kept)
