-- Lemmas on the calls that fail by a list.
use Rattle.std.proofs.Common.{◌↔◌, ◌+◌, ◌<◌, ◌^◌, ℕ, Bool, List, IsTrue, Contains}
use Rattle.hr_cause.specs.Calls.{IsPlanned}

-- the test of the set tells whether a call is planned, where the set has the list's numbers
pub planned : (has : ℕ → Bool) (listed : List ℕ) (calls : ℕ) (test : Bool) → ((n : ℕ) → IsTrue (has n) ↔ Contains listed n)
    → ((n : ℕ) → Contains listed n → n < 2 ^ 64)
    → (IsTrue test ↔ ((calls + 1 < 2 ^ 64) × IsTrue (has (calls + 1)))) → IsTrue test ↔ IsPlanned listed calls
planned has listed calls test same in_range told =
    (λ yes. (same (calls + 1)).0 (told.0 yes).1, λ found. told.1 (in_range (calls + 1) found, (same (calls + 1)).1 found))
