-- How a sweep marks what it drops, from the newest execution on. (Our own.)
use Rattle.std.specs.Prelude.{◌≡◌, ℕ, nat_eq, not, Bool, List, [], ◌∷◌, filter, slice_get, Some}
use Rattle.std.specs.List.{AllByRecursion}
use Rattle.std.specs.Map.{values_of}
use Rattle.indexmap.specs.IndexMap.{IndexMap, get, set_value_at}
use Rattle.hr_store.specs.Execution.{ExecState}
use Rattle.hr_store.specs.Kept.{AreKeyed, execs_in}
use Rattle.hr_store.specs.Sweeping.{AsksAndCounts, is_dropped}
use Rattle.hr_store.specs.declared.held.Held.{Held}

-- the count of each execution's policy is 0
abbrev pub AreCleared : {S : Type 0} → IndexMap ℕ ℕ S → List ExecState → Type 0
AreCleared counts execs =
    AllByRecursion (λ exec. get nat_eq counts exec.policy.0 ≡ Some 0) execs

-- each entry is marked as dropped just where it is to be, by those after it
abbrev pub AreMarked : ℕ → List (ℕ × Held) → Type 0
AreMarked keep [] = Unit {0}
AreMarked keep (entry ∷ newer) =
    (entry.1.dropped ≡ is_dropped keep entry.1.execution (execs_in newer)) × AreMarked keep newer

-- the entries that are not marked as dropped
abbrev pub unmarked : List (ℕ × Held) → List (ℕ × Held)
unmarked entries = filter (λ entry. not entry.1.dropped) entries

-- the entries were marked, and nothing else of them was changed
pub record MarksEntries (keep : ℕ) (old new : List (ℕ × Held)) : Type 0 where
  pub marked : AreMarked keep new
  pub same : execs_in new ≡ execs_in old
  pub keyed : AreKeyed old → AreKeyed new

-- the entry at a place was asked whether it is dropped, marked so, and counted
pub record MarksAt {S : Type 0} (keep at : ℕ) (old : List (ℕ × Held)) (counts : IndexMap ℕ ℕ S)
    (new : List (ℕ × Held)) (counts_after : IndexMap ℕ ℕ S) : Type 0 where
  pub held : Held
  pub there : slice_get (values_of old) at ≡ Some held
  pub dropped : Bool
  pub asks : AsksAndCounts held.execution keep counts dropped counts_after
  pub new_is : new ≡ set_value_at old at (record held { dropped = dropped })
