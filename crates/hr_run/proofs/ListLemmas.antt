-- Lemmas over lists alone.
use Rattle.std.proofs.Common.{◌≡◌, ◌∙◌, sym, ◌⊎◌, inl, inr, refl, ap, subst, zero, suc, ℕ, ◌+◌, ◌<◌, ◌≤◌, List, [], ◌∷◌, ◌++◌, length, get_or, set, slice_get, arith}
use Rattle.std.proofs.lemmas.Bool.{cases_lt}
use Rattle.std.proofs.lemmas.List.Sums.{get_or-le-sum_by, sum_by-cons, sum_by-set}
use Rattle.std.specs.Prelude.{Some}
use Rattle.std.specs.List.{AllByRecursion, Contains, insert, remove, sum_by}

-- ---- each of a list

module _ {X : Type 0} (P : X → Type 0) where
  pub all_append : (xs ys : List X) → AllByRecursion P xs → AllByRecursion P ys → AllByRecursion P (xs ++ ys)
  all_append [] ys a b = b
  all_append (x ∷ xs) ys a b = (a.0, all_append xs ys a.1 b)

  pub all_at : (xs : List X) (i : ℕ) (x : X) → AllByRecursion P xs → slice_get xs i ≡ Some x → P x
  all_at [] zero x a e = absurd (cc)
  all_at [] (suc i) x a e = absurd (cc)
  all_at (y ∷ ys) zero x a e = let s : y ≡ x = cc in subst P s a.0
  all_at (y ∷ ys) (suc i) x a e = all_at ys i x a.1 e

  pub all_set : (xs : List X) (i : ℕ) (x : X) → AllByRecursion P xs → P x → AllByRecursion P (set xs i x)
  all_set [] zero x a p = a
  all_set [] (suc i) x a p = a
  all_set (y ∷ ys) zero x a p = (p, a.1)
  all_set (y ∷ ys) (suc i) x a p = (a.0, all_set ys i x a.1 p)

  pub all_then : (Q : X → Type 0) → ((x : X) → P x → Q x) → (xs : List X) → AllByRecursion P xs → AllByRecursion Q xs
  all_then Q h [] a = tt
  all_then Q h (x ∷ xs) a = (h x a.0, all_then Q h xs a.1)

  pub all_member : (xs : List X) (x : X) → AllByRecursion P xs → Contains xs x → P x
  all_member [] x a c = absurd (omega (arith, c.1))
  all_member (y ∷ ys) x a (zero, l, e) = subst P e a.0
  all_member (y ∷ ys) x a (suc k, l, e) = all_member ys x a.1 (k, omega (arith, l), e)

-- ---- places and members

pub get_more : {X : Type 0} (xs ys : List X) (i : ℕ) (x : X) → slice_get xs i ≡ Some x → slice_get (xs ++ ys) i ≡ Some x
get_more [] ys zero x e = absurd (cc)
get_more [] ys (suc i) x e = absurd (cc)
get_more (y ∷ xs) ys zero x e = e
get_more (y ∷ xs) ys (suc i) x e = get_more xs ys i x e

pub get_within : {X : Type 0} (xs : List X) (i : ℕ) (x : X) → slice_get xs i ≡ Some x → i < length xs
get_within [] zero x e = absurd (cc)
get_within [] (suc i) x e = absurd (cc)
get_within (y ∷ xs) zero x e = omega arith
get_within (y ∷ xs) (suc i) x e = let g = get_within xs i x e in omega (arith, g)

pub get_is : {X : Type 0} (xs : List X) (i : ℕ) (x : X) → slice_get xs i ≡ Some x → get_or xs i x ≡ x
get_is [] zero x e = absurd (cc)
get_is [] (suc i) x e = absurd (cc)
get_is (y ∷ xs) zero x e = cc
get_is (y ∷ xs) (suc i) x e = get_is xs i x e

pub get_at : {X : Type 0} (xs : List X) (k : ℕ) (x : X) → k < length xs → get_or xs k x ≡ x → slice_get xs k ≡ Some x
get_at [] k x l e = absurd (omega (arith, l))
get_at (y ∷ xs) zero x l e = ap Some e
get_at (y ∷ xs) (suc k) x l e = get_at xs k x (omega (arith, l)) e

-- what comes right behind some items
pub get_behind : {X : Type 0} (xs ys : List X) (i n : ℕ) → n ≡ length xs + i → slice_get (xs ++ ys) n ≡ slice_get ys i
get_behind [] ys i n e = ap (slice_get ys) (let k : n ≡ i = omega (arith, e) in k)
get_behind (x ∷ xs) ys i zero e = absurd (omega (arith, e))
get_behind (x ∷ xs) ys i (suc n) e = get_behind xs ys i n (omega (arith, e))

pub there_first : {X : Type 0} (x : X) (xs : List X) → Contains (x ∷ xs) x
there_first x xs = (0, omega arith, refl)

pub there_later : {X : Type 0} (x y : X) (xs : List X) → Contains xs y → Contains (x ∷ xs) y
there_later x y xs c = (suc c.0, omega (arith, c.1), c.2)

pub there_cases : {X : Type 0} (x y : X) (xs : List X) → Contains (x ∷ xs) y → (x ≡ y) ⊎ Contains xs y
there_cases x y xs (zero, l, e) = inl e
there_cases x y xs (suc k, l, e) = inr (k, omega (arith, l), e)

pub there_at : {X : Type 0} (xs : List X) (i : ℕ) (x : X) → slice_get xs i ≡ Some x → Contains xs x
there_at xs i x e = (i, get_within xs i x e, get_is xs i x e)

-- ---- an item more, or one less

pub inserted_there : {X : Type 0} (xs : List X) (i : ℕ) (x : X) → Contains (insert xs i x) x
inserted_there [] zero x = there_first x []
inserted_there [] (suc i) x = there_first x []
inserted_there (y ∷ ys) zero x = there_first x (y ∷ ys)
inserted_there (y ∷ ys) (suc i) x = there_later y x (insert ys i x) (inserted_there ys i x)

pub inserted_keeps : {X : Type 0} (xs : List X) (i : ℕ) (x y : X) → Contains xs y → Contains (insert xs i x) y
inserted_keeps [] i x y c = absurd (omega (arith, c.1))
inserted_keeps (z ∷ zs) zero x y c = there_later x y (z ∷ zs) c
inserted_keeps (z ∷ zs) (suc i) x y c = elim (there_cases z y zs c) [
  | inl same ↦ subst (λ w. Contains (z ∷ insert zs i x) w) same (there_first z (insert zs i x))
  | inr later ↦ there_later z y (insert zs i x) (inserted_keeps zs i x y later)
]

pub removed_keeps : {X : Type 0} (xs : List X) (i : ℕ) (x y : X) → slice_get xs i ≡ Some x → Contains xs y → (x ≡ y → ⊥)
    → Contains (remove xs i) y
removed_keeps [] i x y e c other = absurd (omega (arith, c.1))
removed_keeps (z ∷ zs) zero x y e c other = elim (there_cases z y zs c) [
  | inl same ↦ absurd (other (let first : z ≡ x = cc in sym first ∙ same))
  | inr later ↦ later
]
removed_keeps (z ∷ zs) (suc i) x y e c other = elim (there_cases z y zs c) [
  | inl same ↦ subst (λ w. Contains (z ∷ remove zs i) w) same (there_first z (remove zs i))
  | inr later ↦ there_later z y (remove zs i) (removed_keeps zs i x y e later other)
]

pub all_both : {X : Type 0} (P Q R : X → Type 0) → ((x : X) → P x → Q x → R x) → (xs : List X) → AllByRecursion P xs
    → AllByRecursion Q xs → AllByRecursion R xs
all_both P Q R h [] a b = tt
all_both P Q R h (x ∷ xs) a b = (h x a.0 b.0, all_both P Q R h xs a.1 b.1)

-- ---- sums

-- one item is exchanged
pub sum_set : {X : Type 0} (f : X → ℕ) (xs : List X) (i : ℕ) (x y : X) → slice_get xs i ≡ Some x
    → sum_by f (set xs i y) + f x ≡ sum_by f xs + f y
sum_set f xs i x y e =
    let s = sum_by-set f xs i y x (get_within xs i x e) in
    let g = ap f (get_is xs i x e) in
    omega (arith, s, g)

module _ {X : Type 0} (f : X → ℕ) where
  pub sum_zero : (xs : List X) → ((x : X) → Contains xs x → f x ≡ 0) → sum_by f xs ≡ 0
  sum_zero [] h = refl
  sum_zero (x ∷ xs) h =
      let c = sum_by-cons f x xs in
      let a = h x (there_first x xs) in
      let b = sum_zero xs (λ y k. h y (there_later x y xs k)) in
      omega (arith, c, a, b)

  pub each_zero : (xs : List X) (x : X) → sum_by f xs ≡ 0 → Contains xs x → f x ≡ 0
  each_zero xs x h c =
      let l = get_or-le-sum_by f xs c.0 x c.1 in
      let e = ap f c.2 in
      omega (arith, l, e, h)

  pub each_within : (xs : List X) (x : X) → Contains xs x → f x ≤ sum_by f xs
  each_within xs x c = let l = get_or-le-sum_by f xs c.0 x c.1 in let e = ap f c.2 in omega (arith, l, e)

  pub sum_some : (xs : List X) → 1 ≤ sum_by f xs → (x : X) × Contains xs x × (1 ≤ f x)
  sum_some [] h = absurd (omega (arith, h))
  sum_some (x ∷ xs) h = elim (cases_lt 0 (f x)) [
    | inl l ↦ (x, there_first x xs, omega (arith, l))
    | inr l ↦ (let c = sum_by-cons f x xs in
        let s = sum_some xs (omega (arith, c, h, l)) in
        (s.0, there_later x s.0 xs s.1, s.2))
  ]

pub sum_same : {X : Type 0} (f g : X → ℕ) (xs : List X) → ((x : X) → Contains xs x → f x ≡ g x) → sum_by f xs ≡ sum_by g xs
sum_same f g [] h = refl
sum_same f g (x ∷ xs) h =
    let c = sum_by-cons f x xs in
    let d = sum_by-cons g x xs in
    let a = h x (there_first x xs) in
    let b = sum_same f g xs (λ y k. h y (there_later x y xs k)) in
    omega (arith, c, d, a, b)
