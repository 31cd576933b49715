use Rattle.std.proofs.Common.{◌≡◌, drop, not}
use Rattle.std.specs.Ordering.{nat_cmp}
use Rattle.std.specs.BTreeSet.{contains}
use Rattle.hr_policy.specs.Fault.{first_such}
use Rattle.hr_policy.proofs.fault.first_outside.Given as goal

abbrev pub invariant-loop-number : goal.invariant-loop-number
invariant-loop-number l = first_such (λ n. not (contains nat_cmp l.set n)) l.numbers ≡ first_such (λ n. not (contains nat_cmp l.set n)) (drop l.number-index l.numbers)
