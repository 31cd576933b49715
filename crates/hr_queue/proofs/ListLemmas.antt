-- Lemmas on lists alone: what holds of all items, and how often jobs stand there.
use Rattle.std.proofs.Common.{◌≡◌, ◌≢◌, ℕ, zero, suc, ◌<◌, ◌≤◌, inl, inr, Bool, true, cond, List, [], ◌∷◌, ◌++◌, length, get_or, Some, refl, sym, ap, ◌∙◌, subst, arith, eq-eqb}
use Rattle.std.proofs.lemmas.Bool.{cases_Bool}
use Rattle.std.proofs.lemmas.Bool.Decides.{eqb_tells}
use Rattle.std.proofs.lemmas.List.Elements.{All-from_recursion, recursion_from_All}
use Rattle.std.proofs.lemmas.List.Sorted.{All-permutation}
use Rattle.std.proofs.lemmas.List.Sums.{sum_by-cons, sum_by_push}
use Rattle.std.specs.List.{AllByRecursion, Contains, count_by, insert, remove}
use Rattle.std.specs.List.Sorted.{IsPermutation}
use Rattle.std.specs.Prelude.{nat_eq, slice_get, slice_set}
use Rattle.hr_queue.specs.declared.answer.Queued.{Queued}
use Rattle.hr_queue.specs.View.{AreDistinct, times_added}

-- what holds of all items holds of all after each edit
pub all-insert : {X : Type 0} (P : X → Type 0) (xs : List X) (i : ℕ) (x : X) → AllByRecursion P xs
    → P x → AllByRecursion P (insert xs i x)
all-insert P [] zero x all here = (here, tt)
all-insert P [] (suc i) x all here = (here, tt)
all-insert P (y ∷ ys) zero x all here = (here, all)
all-insert P (y ∷ ys) (suc i) x all here = (all.0, all-insert P ys i x all.1 here)

pub all-remove : {X : Type 0} (P : X → Type 0) (xs : List X) (i : ℕ) → AllByRecursion P xs
    → AllByRecursion P (remove xs i)
all-remove P [] zero all = tt
all-remove P [] (suc i) all = tt
all-remove P (y ∷ ys) zero all = all.1
all-remove P (y ∷ ys) (suc i) all = (all.0, all-remove P ys i all.1)

pub all-push : {X : Type 0} (P : X → Type 0) (xs : List X) (x : X) → AllByRecursion P xs → P x
    → AllByRecursion P (xs ++ x ∷ [])
all-push P [] x all here = (here, tt)
all-push P (y ∷ ys) x all here = (all.0, all-push P ys x all.1 here)

pub all-append : {X : Type 0} (P : X → Type 0) (xs ys : List X) → AllByRecursion P xs
    → AllByRecursion P ys → AllByRecursion P (xs ++ ys)
all-append P [] ys all others = others
all-append P (x ∷ xs) ys all others = (all.0, all-append P xs ys all.1 others)

pub all-pushed : {X : Type 0} (P : X → Type 0) (xs : List X) (x : X) → AllByRecursion P (xs ++ x ∷ [])
    → AllByRecursion P xs × P x
all-pushed P [] x all = (tt, all.0)
all-pushed P (y ∷ ys) x all = let rest = all-pushed P ys x all.1 in ((all.0, rest.0), rest.1)

pub all-weaker : {X : Type 0} (P Q : X → Type 0) → ((x : X) → P x → Q x) → (xs : List X)
    → AllByRecursion P xs → AllByRecursion Q xs
all-weaker P Q weaker [] all = tt
all-weaker P Q weaker (x ∷ xs) all = (weaker x all.0, all-weaker P Q weaker xs all.1)

pub all-permuted : {X : Type 0} (P : X → Type 0) (xs ys : List X) → IsPermutation xs ys
    → AllByRecursion P xs → AllByRecursion P ys
all-permuted P xs ys same all =
    recursion_from_All P ys (All-permutation P xs ys same (All-from_recursion P xs all))

pub all-at : {X : Type 0} (P : X → Type 0) (xs : List X) (i : ℕ) (x : X) → AllByRecursion P xs
    → i < length xs → get_or xs i x ≡ x → P x
all-at P [] i x all within is = absurd (omega (arith, within))
all-at P (y ∷ ys) zero x all within is = subst P is all.0
all-at P (y ∷ ys) (suc i) x all within is = all-at P ys i x all.1 (omega (arith, within)) is

pub stands_at : {X : Type 0} (xs : List X) (i : ℕ) (x : X) → slice_get xs i ≡ Some x
    → (i < length xs) × (x ≡ get_or xs i x)
stands_at [] zero x e = absurd (cc)
stands_at [] (suc i) x e = absurd (cc)
stands_at (y ∷ ys) zero x e = (omega arith, cc)
stands_at (y ∷ ys) (suc i) x e = let rest = stands_at ys i x e in (omega (arith, rest.0), rest.1)

pub length-set : {X : Type 0} (xs : List X) (i : ℕ) (x : X) → length (slice_set xs i x) ≡ length xs
length-set [] zero x = refl
length-set [] (suc i) x = refl
length-set (y ∷ ys) zero x = refl
length-set (y ∷ ys) (suc i) x = ap suc (length-set ys i x)

pub some_is : {X : Type 0} (x y : X) → Some x ≡ Some y → x ≡ y
some_is x y e = cc

pub count_by-more : {X : Type 0} (p : X → Bool) (x : X) (xs : List X)
    → count_by p xs ≤ count_by p (x ∷ xs)
count_by-more p x xs = let e = sum_by-cons (λ y. cond (p y) 1 0) x xs in omega (arith, e)

abbrev pub one_if : Bool → ℕ
one_if b = cond b 1 0

-- an item that passes a test is counted
counted-at : {X : Type 0} (p : X → Bool) (xs : List X) (i : ℕ) (x : X) → i < length xs
    → get_or xs i x ≡ x → p x ≡ true → 1 ≤ count_by p xs
counted-at p [] i x within is passes = absurd (omega (arith, within))
counted-at p (y ∷ ys) zero x within is passes =
    let counts = sum_by-cons (λ z. one_if (p z)) y ys in
    let here = ap one_if (ap p is ∙ passes) in
    omega (arith, counts, here)
counted-at p (y ∷ ys) (suc i) x within is passes =
    let counts = sum_by-cons (λ z. one_if (p z)) y ys in
    let rest = counted-at p ys i x (omega (arith, within)) is passes in
    omega (arith, counts, rest)

pub counted : {X : Type 0} (p : X → Bool) (xs : List X) (x : X) → Contains xs x → p x ≡ true
    → 1 ≤ count_by p xs
counted p xs x there passes = counted-at p xs there.0 x there.1 there.2 passes

-- where some items are counted, one of them passes
pub found : {X : Type 0} (p : X → Bool) (xs : List X) → 1 ≤ count_by p xs
    → (x : X) × Contains xs x × (p x ≡ true)
found p [] some = absurd (omega (arith, some))
found p (y ∷ ys) some = elim (cases_Bool (p y)) [
  | inl passes ↦ (y, (0, omega arith, refl), passes)
  | inr fails ↦
      let counts = sum_by-cons (λ z. one_if (p z)) y ys in
      let none = ap one_if fails in
      let rest = found p ys (omega (arith, counts, none, some)) in
      (rest.0, (suc rest.1.0, omega (arith, rest.1.1), rest.1.2), rest.2)
]

-- how much a job adds to the count of this number
abbrev weight : ℕ → Queued → ℕ
weight number a = one_if (nat_eq a.job.0 number)

weight-same : (a : Queued) (number : ℕ) → a.job.0 ≡ number → weight number a ≡ 1
weight-same a number same = ap one_if (eq-eqb a.job.0 number same)

distinct-behind : (a : Queued) (jobs : List Queued) → AreDistinct (a ∷ jobs) → AreDistinct jobs
distinct-behind a jobs distinct number =
    let counts = sum_by-cons (weight number) a jobs in
    let few = distinct number in
    omega (arith, counts, few)

-- the first of distinct jobs is not among those behind it
first-apart : (a d : Queued) (jobs : List Queued) (i : ℕ) → AreDistinct (a ∷ jobs) → i < length jobs
    → get_or jobs i d ≡ d → a.job.0 ≢ d.job.0
first-apart a d jobs i distinct within is same =
    let number = d.job.0 in
    let counts = sum_by-cons (weight number) a jobs in
    let here = weight-same a number same in
    let itself : nat_eq d.job.0 number ≡ true = eq-eqb d.job.0 number refl in
    let behind = counted-at (λ (b : Queued). nat_eq b.job.0 number) jobs i d within is itself in
    let few = distinct number in
    omega (arith, counts, here, behind, few)

one-each : (jobs : List Queued) (i k : ℕ) (a d : Queued) → AreDistinct jobs → i < length jobs
    → k < length jobs → get_or jobs i a ≡ a → get_or jobs k d ≡ d → a.job.0 ≡ d.job.0 → a ≡ d
one-each [] i k a d distinct within others is other same = absurd (omega (arith, within))
one-each (b ∷ jobs) zero zero a d distinct within others is other same = sym is ∙ other
one-each (b ∷ jobs) zero (suc k) a d distinct within others is other same =
    let number : Queued → ℕ = λ j. j.job.0 in
    absurd (first-apart b d jobs k distinct (omega (arith, others)) other (ap number is ∙ same))
one-each (b ∷ jobs) (suc i) zero a d distinct within others is other same =
    let number : Queued → ℕ = λ j. j.job.0 in
    absurd (first-apart b a jobs i distinct (omega (arith, within)) is (ap number other ∙ sym same))
one-each (b ∷ jobs) (suc i) (suc k) a d distinct within others is other same =
    one-each jobs i k a d (distinct-behind b jobs distinct) (omega (arith, within))
    (omega (arith, others)) is other same

-- of distinct jobs, those with one number are one
pub one_of : (jobs : List Queued) (a d : Queued) → AreDistinct jobs → Contains jobs a
    → Contains jobs d → a.job.0 ≡ d.job.0 → a ≡ d
one_of jobs a d distinct there other same =
    one-each jobs there.0 other.0 a d distinct there.1 other.1 there.2 other.2 same

-- a job that is among distinct ones stands there once
pub once : (jobs : List Queued) (a : Queued) → AreDistinct jobs → Contains jobs a
    → times_added jobs a.job.0 ≡ 1
once jobs a distinct there =
    let itself : nat_eq a.job.0 a.job.0 ≡ true = eq-eqb a.job.0 a.job.0 refl in
    let some = counted (λ (b : Queued). nat_eq b.job.0 a.job.0) jobs a there itself in
    let few = distinct a.job.0 in
    omega (arith, some, few)

none-below : (jobs : List Queued) (number : ℕ) → AllByRecursion (λ a. a.job.0 < number) jobs
    → times_added jobs number ≡ 0
none-below [] number below = refl
none-below (a ∷ jobs) number below =
    let counts = sum_by-cons (weight number) a jobs in
    let rest = none-below jobs number below.1 in
    elim (eqb_tells a.job.0 number) [
      | inl same ↦ absurd (omega (arith, same.1, below.0))
      | inr other ↦ (let zero_here = ap one_if other.0 in omega (arith, counts, rest, zero_here))
    ]

-- a job whose number is above those of the others is new among them
pub later_new : (jobs : List Queued) (job : Queued) → AreDistinct jobs
    → AllByRecursion (λ a. a.job.0 < job.job.0) jobs → AreDistinct (jobs ++ job ∷ [])
later_new jobs job distinct below number =
    let counts = sum_by_push (weight number) jobs job in
    let few = distinct number in
    elim (eqb_tells job.job.0 number) [
      | inl same ↦ (
          let none = none-below jobs job.job.0 below in
          let times : ℕ → ℕ = times_added jobs in
          let here = ap times same.1 in
          let one = weight-same job number same.1 in
          omega (arith, counts, none, here, one))
      | inr other ↦ (let zero_here = ap one_if other.0 in omega (arith, counts, few, zero_here))
    ]
