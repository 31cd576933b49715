-- The first part of a list that is cut at the items that pass a test.
use Rattle.std.proofs.Common.{◌≡◌, ℕ, ◌+◌, ◌≤◌, Bool, true, false, cond, nat_lt, Some, None, List, [], ◌∷◌, take, drop, length, refl, subst, ap, arith}
use Rattle.std.specs.List.{position, position_or_len, slice_split, IsFirstAndRest}
use Rattle.std.proofs.lemmas.List.Splits.{slice_split_first, slice_split_none}
use Rattle.std.proofs.lemmas.List.Sums.{fails_before_first}
use borrow.Author.Tests.{ltb-true, ltb-false}

cond_is_some : (b : Bool) (n i : ℕ) → cond b (Some n) None ≡ Some i → (b ≡ true) × (n ≡ i)
cond_is_some true n i e = (refl, cc)
cond_is_some false n i e = absurd (cc)

cond_is_none : (b : Bool) (n : ℕ) → cond b (Some n) None ≡ None → b ≡ false
cond_is_none true n e = absurd (cc)
cond_is_none false n e = refl

-- where an item passes, the first part ends before it
split_at : {X : Type 0} (p : X → Bool) (xs : List X) (d : X) (i : ℕ) → position p xs ≡ Some i → slice_split p xs ≡ take i xs ∷ slice_split p (drop (i + 1) xs)
split_at p xs d i e =
    let found = cond_is_some (nat_lt (position_or_len p xs) (length xs)) (position_or_len p xs) i e in
    let first = slice_split_first p xs d (ltb-true _ _ found.0) in
    subst (λ (n : ℕ). slice_split p xs ≡ take n xs ∷ slice_split p (drop (n + 1) xs)) found.1 first

pub split_some : {X : Type 0} (p : X → Bool) (xs : List X) (i : ℕ) → position p xs ≡ Some i → slice_split p xs ≡ take i xs ∷ slice_split p (drop (i + 1) xs)
split_some p [] i e = absurd (cc)
split_some p (x ∷ xs) i e = split_at p (x ∷ xs) x i e

-- where none passes, there is one part
pub split_none : {X : Type 0} (p : X → Bool) (xs : List X) → position p xs ≡ None → slice_split p xs ≡ xs ∷ []
split_none p xs e =
    let past : length xs ≤ position_or_len p xs = ltb-false _ _ (cond_is_none (nat_lt (position_or_len p xs) (length xs)) (position_or_len p xs) e) in
    slice_split_none p xs (λ k d h. fails_before_first p xs k d (omega arith))

-- a list that is known by its first item and the rest
pub first_and_rest : {X : Type 0} (xs : List X) (x : X) (rest : List X) → xs ≡ x ∷ rest → IsFirstAndRest xs x rest
first_and_rest xs x rest e = (e, omega (arith, ap length e))
