-- Lemmas on ranks: how many at the front of a rising list have a lower number.
use Rattle.std.proofs.Common.{◌≡◌, ℕ, ◌+◌, ◌-◌, ◌<◌, ◌≤◌, List, [], ◌∷◌, length, get_or, sym, ap, subst, inl, inr, arith, suc, zero}
use Rattle.std.proofs.lemmas.Bool.Decides.{leb_tells}
use Rattle.hr_store.specs.Places.{rank_by}
use Rattle.hr_board.specs.View as board
use Rattle.hr_event.specs.declared.view.Received.TheVariants as received
use Rattle.std.specs.List.{AllByRecursion}

-- ranks of a list whose numbers don't fall
abbrev pub Rising : {X : Type 0} → (X → ℕ) → List X → Type 0
Rising f [] = Unit {0}
Rising f (x ∷ xs) = AllByRecursion (λ y. f x ≤ f y) xs × Rising f xs

abbrev pub Lower : {X : Type 0} → (X → ℕ) → ℕ → ℕ → List X → Type 0
Lower f zero job xs = Unit {0}
Lower f (suc n) job [] = ⊥
Lower f (suc n) job (x ∷ xs) = (f x < job) × Lower f n job xs

abbrev pub NotLower : {X : Type 0} → (X → ℕ) → ℕ → ℕ → List X → Type 0
NotLower f zero job xs = AllByRecursion (λ x. job ≤ f x) xs
NotLower f (suc n) job [] = Unit {0}
NotLower f (suc n) job (x ∷ xs) = NotLower f n job xs

pub all-not-lower : {X : Type 0} (f : X → ℕ) (n job : ℕ) (xs : List X) → n ≡ length xs → NotLower f n job xs
all-not-lower f zero job [] e = tt
all-not-lower f zero job (x ∷ xs) e = absurd (omega (arith, e))
all-not-lower f (suc n) job [] e = tt
all-not-lower f (suc n) job (x ∷ xs) e = all-not-lower f n job xs (omega (arith, e))

above-not-lower : {X : Type 0} (f : X → ℕ) (job least : ℕ) (xs : List X) → AllByRecursion (λ y. least ≤ f y) xs → job ≤ least → AllByRecursion (λ y. job ≤ f y) xs
above-not-lower f job least [] a h = tt
above-not-lower f job least (x ∷ xs) a h = (omega (arith, a.0, h), above-not-lower f job least xs a.1 h)

pub not-lower-from : {X : Type 0} (f : X → ℕ) (n job : ℕ) (x : X) (xs : List X) → Rising f xs → n < length xs → x ≡ get_or xs n x → job ≤ f x → NotLower f n job xs
not-lower-from f n job x [] r h e k = absurd (omega (arith, h))
not-lower-from f zero job x (y ∷ ys) r h e k = let q = ap f e in let i : job ≤ f y = omega (arith, k, q) in (i, above-not-lower f job (f y) ys r.0 i)
not-lower-from f (suc n) job x (y ∷ ys) r h e k = not-lower-from f n job x ys r.1 (omega (arith, h)) e k

above-at : {X : Type 0} (f : X → ℕ) (n least : ℕ) (x : X) (xs : List X) → AllByRecursion (λ y. least ≤ f y) xs → n < length xs → x ≡ get_or xs n x → least ≤ f x
above-at f n least x [] a h e = absurd (omega (arith, h))
above-at f zero least x (y ∷ ys) a h e = let q = ap f e in omega (arith, a.0, q)
above-at f (suc n) least x (y ∷ ys) a h e = above-at f n least x ys a.1 (omega (arith, h)) e

pub lower-to : {X : Type 0} (f : X → ℕ) (n job : ℕ) (x : X) (xs : List X) → Rising f xs → n < length xs → x ≡ get_or xs n x → f x < job → Lower f (n + 1) job xs
lower-to f n job x [] r h e k = absurd (omega (arith, h))
lower-to f zero job x (y ∷ ys) r h e k = let q = ap f e in (omega (arith, k, q), tt)
lower-to {X = X} f (suc n) job x (y ∷ ys) r h e k =
    let a : f y ≤ f x = above-at f n (f y) x ys r.0 (omega (arith, h)) e in
    let go : Lower f (n + 1) job ys = lower-to f n job x ys r.1 (omega (arith, h)) e k in
    let s : n + 1 ≡ suc n = omega arith in
    let P : ℕ → Type 0 = λ m. Lower f m job ys in
    let s2 : suc n + 1 ≡ suc (suc n) = omega arith in
    let Q : ℕ → Type 0 = λ m. Lower f m job (y ∷ ys) in
    subst Q (sym s2) (omega (arith, a, k), subst P s go)

pub rank-is : {X : Type 0} (f : X → ℕ) (n job : ℕ) (xs : List X) → Lower f n job xs → NotLower f n job xs → n ≤ length xs → n ≡ rank_by f job xs
rank-is f zero job [] l g h = omega arith
rank-is f zero job (x ∷ xs) l g h = elim (leb_tells (suc (f x)) job) [
  | inl e ↦ absurd (omega (arith, e.1, g.0))
  | inr e ↦ rw e.0 (omega arith)
]
rank-is f (suc n) job [] l g h = absurd (omega (arith, h))
rank-is f (suc n) job (x ∷ xs) l g h = elim (leb_tells (suc (f x)) job) [
  | inl e ↦ rw e.0 (ap suc (rank-is f n job xs l.1 g (omega (arith, h))))
  | inr e ↦ absurd (omega (arith, l.0, e.1))
]

pub rank-from : {X : Type 0} (f : X → ℕ) (low high job : ℕ) (xs : List X) → Lower f low job xs → NotLower f high job xs → low ≤ length xs → high ≡ low → low ≡ rank_by f job xs
rank-from f low high job xs l g h e = let P : ℕ → Type 0 = λ n. NotLower f n job xs in rank-is f low job xs l (subst P e g) h
