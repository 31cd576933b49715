-- Laws of lists with one element more at the front: what they contain, and what holds of each.
use Rattle.std.proofs.Common.{◌≡◌, ◌⊎◌, inl, inr, refl, subst, zero, suc, List, [], ◌∷◌, arith}
use Rattle.std.specs.List.{AllByRecursion, Contains}

-- what a list contains it contains behind one element more
pub contains_later : {X : Type 0} (y : X) (ys : List X) (x : X) → Contains ys x
    → Contains (y ∷ ys) x
contains_later y ys x (k, within, is) = (suc k, omega arith, is)

-- a list contains its first element
pub contains_first : {X : Type 0} (y : X) (ys : List X) → Contains (y ∷ ys) y
contains_first y ys = (zero, omega arith, refl)

-- what a list contains is its first element, or stands behind it
pub contains_cases : {X : Type 0} (y : X) (ys : List X) (x : X) → Contains (y ∷ ys) x
    → (y ≡ x) ⊎ Contains ys x
contains_cases y ys x (zero, within, is) = inl is
contains_cases y ys x (suc k, within, is) = inr (k, omega arith, is)

-- where P brings Q, all that have P have Q
pub each_then : {X : Type 0} {P Q : X → Type 0} → ((x : X) → P x → Q x) → (xs : List X)
    → AllByRecursion P xs → AllByRecursion Q xs
each_then f [] all = tt
each_then f (x ∷ xs) all = (f x all.0, each_then f xs all.1)

-- where all of a list have P, each that it contains does
pub each_has : {X : Type 0} (P : X → Type 0) (xs : List X) → AllByRecursion P xs
    → (x : X) → Contains xs x → P x
each_has P [] all x (k, within, is) = absurd (omega arith)
each_has P (y ∷ ys) all x within = elim (contains_cases y ys x within) [
  | inl is ↦ subst P is all.0
  | inr later ↦ each_has P ys all.1 x later
]
