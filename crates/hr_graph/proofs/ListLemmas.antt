-- Lemmas on lists whose last item is looked at, and on what is known under a digest.
use Rattle.std.proofs.Common.{◌≡◌, ℕ, ◌-◌, ◌<◌, Bool, true, false, cond, List, [], ◌∷◌, ◌++◌, suc, zero, length, take, reverse, get_or, refl, ◌∙◌, ap, subst, arith}
use Rattle.std.proofs.Math.ListN.{set}
use Rattle.std.proofs.lemmas.List.{reverse-append}
use Rattle.std.proofs.lemmas.Option.{slice_get_within, get_or_from_slice_get}
use Rattle.std.specs.Prelude.{Option, Some, slice_get}
use Rattle.std.specs.List.{AllByRecursion}
use Rattle.std.specs.Map.{lookup}

-- a list is its front and its last item
pub front_and_last : {A : Type 0} (xs : List A) (n : ℕ) (x : A) → length xs ≡ suc n
    → xs ≡ take n xs ++ get_or xs n x ∷ []
front_and_last [] n x e = absurd (omega (arith, e))
front_and_last (a ∷ []) zero x e = refl
front_and_last (a ∷ b ∷ xs) zero x e = absurd (omega (arith, e))
front_and_last (a ∷ xs) (suc n) x e = ap (λ l. a ∷ l) (front_and_last xs n x (omega (arith, e)))

set_last : {A : Type 0} (xs : List A) (n : ℕ) (y : A) → length xs ≡ suc n
    → set xs n y ≡ take n xs ++ y ∷ []
set_last [] n y e = absurd (omega (arith, e))
set_last (a ∷ []) zero y e = refl
set_last (a ∷ b ∷ xs) zero y e = absurd (omega (arith, e))
set_last (a ∷ xs) (suc n) y e = ap (λ l. a ∷ l) (set_last xs n y (omega (arith, e)))

pub reverse_snoc : {A : Type 0} (xs : List A) (x : A) → reverse (xs ++ x ∷ []) ≡ x ∷ reverse xs
reverse_snoc xs x = reverse-append xs (x ∷ [])

-- the last item comes first in reverse
pub reverse_last : {A : Type 0} (xs : List A) (x : A) → 0 < length xs
    → get_or xs (length xs - 1) x ≡ x → reverse xs ≡ x ∷ reverse (take (length xs - 1) xs)
reverse_last xs x some last =
    ap reverse (front_and_last xs (length xs - 1) x (omega (arith, some)))
    ∙ ap (λ y. reverse (take (length xs - 1) xs ++ y ∷ [])) last
    ∙ reverse_snoc (take (length xs - 1) xs) x

pub reverse_newest : {A : Type 0} (xs : List A) (x : A) → slice_get xs (length xs - 1) ≡ Some x
    → reverse xs ≡ x ∷ reverse (take (length xs - 1) xs)
reverse_newest xs x is =
    let within : length xs - 1 < length xs = slice_get_within xs (length xs - 1) x is in
    reverse_last xs x (omega (arith, within)) (get_or_from_slice_get xs (length xs - 1) x x is)

-- and so does what is written there
pub reverse_set_last : {A : Type 0} (xs : List A) (y : A) → 0 < length xs
    → reverse (set xs (length xs - 1) y) ≡ y ∷ reverse (take (length xs - 1) xs)
reverse_set_last xs y some =
    ap reverse (set_last xs (length xs - 1) y (omega (arith, some)))
    ∙ reverse_snoc (take (length xs - 1) xs) y

cond_holds : {X : Type 0} (P : X → Type 0) (b : Bool) (a x : X) (o : Option X)
    → cond b (Some a) o ≡ Some x → P a → (o ≡ Some x → P x) → P x
cond_holds P true a x o is here later = let same : a ≡ x = cc in subst P same here
cond_holds P false a x o is here later = later is

-- what holds of each entry holds of what is known
pub known_holds : {K X : Type 0} (test : K → Bool) (P : X → Type 0) (es : List (K × X)) (x : X)
    → AllByRecursion (λ e. P e.1) es → lookup test es ≡ Some x → P x
known_holds test P [] x all is = cc
known_holds test P (e ∷ es) x all is =
    cond_holds P (test e.0) e.1 x (lookup test es) is all.0 (known_holds test P es x all.1)
