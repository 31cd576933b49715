use Rattle.std.proofs.Common.{arith}
use Rattle.hr_store.proofs.RowLemmas.{joined-none, none-once}
use Rattle.hr_store.proofs.row.Row.new.Goals as goal

pub invariant_of-result : goal.invariant_of-result
invariant_of-result c = rw c.in_ok-with_capacity.ensures.items (joined-none, none-once c.args.job.0, omega (arith, c.in_ok-with_capacity.ensures.capacity))
