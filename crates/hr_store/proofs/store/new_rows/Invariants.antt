use Rattle.std.proofs.Common.{◌≡◌, ◌+◌, ◌++◌, length}
use Rattle.hr_store.specs.Creating.{new_rows}
use Rattle.hr_store.proofs.store.new_rows.Given as goal

abbrev pub invariant-loop-spec : goal.invariant-loop-spec
invariant-loop-spec l = record {
  job_is : l.job ≡ l.before + length l.yielded;
  rows_are : l.rows.items ≡ new_rows l.before l.yielded;
  all_are : l.fn.specs ≡ l.yielded ++ l.spec-iterator.rest.items;
}
