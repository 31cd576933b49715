use Rattle.std.proofs.Common.{◌≡◌, drop}
use Rattle.std.specs.Ordering.{nat_cmp}
use Rattle.std.specs.BTreeSet.{contains}
use Rattle.hr_policy.specs.Fault.{first_such}
use Rattle.hr_policy.proofs.fault.first_in.Given as goal

abbrev pub invariant-loop-number : goal.invariant-loop-number
invariant-loop-number l = first_such (λ n. contains nat_cmp l.set n) l.numbers ≡ first_such (λ n. contains nat_cmp l.set n) (drop l.number-index l.numbers)
