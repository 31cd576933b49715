use Rattle.std.proofs.Common.{rules, arith}
use Rattle.std.proofs.lemmas.List.Sorted.{IsNonDecreasingBy-from_sort_by_key}
use Rattle.hr_periodic.proofs.PeriodicLemmas.{Ascends-from_sorted}
use Rattle.hr_periodic.proofs.periodic.Periodic.new.Goals as goal

pub returns-clause-order : goal.returns-clause-order
returns-clause-order c =
    Ascends-from_sorted _ (IsNonDecreasingBy-from_sort_by_key (λ x. x.0.0) _ c.sort_unstable_by_key.ensures.sorted (λ a r q k. search rules))

pub invariant_of-result : goal.invariant_of-result
invariant_of-result c = (Ascends-from_sorted _ (IsNonDecreasingBy-from_sort_by_key (λ x. x.0.0) _ c.sort_unstable_by_key.ensures.sorted (λ a r q k. search rules)), omega arith)
