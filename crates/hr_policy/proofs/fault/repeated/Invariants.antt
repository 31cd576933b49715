use Rattle.std.proofs.Common.{◌≡◌, [], ℕ, List, drop}
use Rattle.std.specs.Ordering.{nat_cmp}
use Rattle.std.specs.BTreeSet.{contains}
use Rattle.hr_policy.specs.Fault.{repeated, stands}
use Rattle.hr_policy.proofs.fault.repeated.Given as goal

abbrev pub invariant-loop-number : goal.invariant-loop-number
invariant-loop-number l = (seen : List ℕ) × ((n : ℕ) → contains nat_cmp l.before n ≡ stands seen n) × (repeated [] l.numbers ≡ repeated seen (drop l.number-index l.numbers))
