use Rattle.std.proofs.Common.{◌≡◌, ℕ, ◌<◌, slice_get, Some}
use Rattle.std.specs.Map.{values_of}
use Rattle.std.specs.Prelude.{nat_eq, IsSome}
use Rattle.indexmap.specs.IndexMap.{get}
use Rattle.hr_store.specs.declared.held.Held.{Held}
use Rattle.hr_store.proofs.sweeping.clear.Given as goal

abbrev pub invariant-loop-at : goal.invariant-loop-at
invariant-loop-at l = record {
  cleared : (k : ℕ) (h : Held) → k < l.at → slice_get (values_of l.entries.entries) k ≡ Some h → get nat_eq l.counts h.execution.policy.0 ≡ Some 0;
  others : (p : ℕ) → IsSome (get nat_eq l.fn.counts p) → IsSome (get nat_eq l.counts p);
}
