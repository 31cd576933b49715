-- Marks of deliveries.
use Rattle.std.proofs.Common.{◌≡◌, ◌∙◌, inl, inr, refl, ap, zero, suc, ℕ, ◌+◌, ◌<◌, ◌≤◌, Bool, true, false, List, [], ◌∷◌, ◌++◌, length, get_or, set, arith}
use Rattle.std.proofs.lemmas.Bool.{cases_lt}
use Rattle.std.specs.Prelude.{Option, Some, slice_get, unwrap_or}
use Rattle.hr_core.specs.Marks.{AreSet}
use Rattle.hr_run.specs.State.{was_delivered, with_mark}

-- a mark that is missing is as one that was not set
pub mark_missing : (marks : List Bool) (place : ℕ) → length marks ≤ place
    → with_mark (marks ++ false ∷ []) place ≡ with_mark marks place
mark_missing [] zero past = refl
mark_missing [] (suc at) past = refl
mark_missing (m ∷ marks) zero past = absurd (omega (arith, past))
mark_missing (m ∷ marks) (suc at) past = ap (λ (ms : List Bool). m ∷ ms) (mark_missing marks at (omega (arith, past)))

-- a mark that is there is set
pub mark_there : (marks : List Bool) (place : ℕ) → place < length marks → set marks place true ≡ with_mark marks place
mark_there [] place within = absurd (omega (arith, within))
mark_there (m ∷ marks) zero within = refl
mark_there (m ∷ marks) (suc at) within = ap (λ (ms : List Bool). m ∷ ms) (mark_there marks at (omega (arith, within)))

get_there : (marks : List Bool) (at : ℕ) (d : Bool) → at < length marks → slice_get marks at ≡ Some (get_or marks at d)
get_there [] at d within = absurd (omega (arith, within))
get_there (m ∷ marks) zero d within = refl
get_there (m ∷ marks) (suc at) d within = get_there marks at d (omega (arith, within))

-- one more mark at the front is set
pub set_more : (marks : List Bool) (front : ℕ) (d : Bool) → front < length marks → get_or marks front d ≡ true → AreSet marks front
    → AreSet marks (front + 1)
set_more marks front d within is set place less = elim (cases_lt place front) [
  | inl below ↦ set place below
  | inr past ↦ (let same : place ≡ front = omega (arith, less, past) in
      ap (λ (n : ℕ). was_delivered marks (suc n)) same
      ∙ ap (λ (o : Option Bool). unwrap_or o false) (get_there marks front d within ∙ ap (λ (b : Bool). Some b) is))
]

-- what is set after a mark more was set
pub set_still : (marks : List Bool) (place front : ℕ) → AreSet marks front → AreSet (with_mark marks place) front
set_still marks place front set at less = still marks place at (set at less)
  where
    still : (marks : List Bool) (place at : ℕ) → was_delivered marks (suc at) ≡ true → was_delivered (with_mark marks place) (suc at) ≡ true
    still [] place zero is = absurd (cc)
    still [] place (suc at) is = absurd (cc)
    still (m ∷ marks) zero zero is = refl
    still (m ∷ marks) zero (suc at) is = is
    still (m ∷ marks) (suc place) zero is = is
    still (m ∷ marks) (suc place) (suc at) is = still marks place at is
