-- Lemmas on what all seats together have, as lists.
use Rattle.std.proofs.Common.{◌≡◌, ℕ, zero, suc, ◌+◌, ◌≤◌, nat_le, Bool, true, false, cond, if◌then◌else◌, List, [], ◌∷◌, ◌++◌, map, set, refl, sym, ap, ◌∙◌, subst, inl, inr, ◌⊎◌, arith}
use Rattle.std.specs.List.{Contains, count_by, flat_map}
use Rattle.std.proofs.lemmas.List.{append-nil, map-append}
use Rattle.std.proofs.lemmas.List.Sums.{sum_by-append}
use Rattle.std.proofs.lemmas.List.Elements.{Contains-append_cases, Contains-append_left, Contains-append_right}
use mathlib.Core.Option.{some, some-injective, some-ne-none}
use lib.ListN.{get_elem?}
use Rattle.hr_board.specs.View.{finals_with}
use Rattle.hr_ruled.specs.Rule.{parts_of}
use Rattle.hr_ruled.specs.Seats.{plain_finals, final_moves_with}
use Rattle.hr_ruled.specs.declared.rule.FinalMove.{FinalMove}
use Rattle.hr_ruled.specs.declared.rule.Role.{Role}
use Rattle.hr_ruled.specs.declared.rule.SeatView.{SeatView}

pub count-append : {A : Type 0} (p : A → Bool) (xs ys : List A) → count_by p (xs ++ ys) ≡ count_by p xs + count_by p ys
count-append p xs ys = sum_by-append (λ x. cond (p x) 1 0) xs ys

-- where one seat was put in place of another, an item is of the new one, or stood there before
pub set-contains : {A : Type 0} (f : SeatView → List A) (seats : List SeatView) (id : ℕ) (w : SeatView) (x : A)
    → Contains (flat_map f (set seats id w)) x → Contains (flat_map f seats) x ⊎ Contains (f w) x
set-contains f [] id w x h = inl h
set-contains f (s ∷ ss) zero w x h = elim (Contains-append_cases (f w) (flat_map f ss) x h) [
  | inl a ↦ inr a
  | inr b ↦ inl (Contains-append_right (f s) (flat_map f ss) x b)
]
set-contains f (s ∷ ss) (suc id) w x h = elim (Contains-append_cases (f s) (flat_map f (set ss id w)) x h) [
  | inl a ↦ inl (Contains-append_left (f s) (flat_map f ss) x a)
  | inr b ↦ elim (set-contains f ss id w x b) [
    | inl c ↦ inl (Contains-append_right (f s) (flat_map f ss) x c)
    | inr d ↦ inr d
  ]
]

-- what a seat has, all seats together have
pub at-contains : {A : Type 0} (f : SeatView → List A) (seats : List SeatView) (id : ℕ) (v : SeatView) (x : A)
    → get_elem? seats id ≡ some v → Contains (f v) x → Contains (flat_map f seats) x
at-contains f [] id v x at h = absurd (some-ne-none v (sym at))
at-contains {A} f (s ∷ ss) zero v x at h =
    let F : SeatView → Type 0 = λ u. Contains (f u) x in
    Contains-append_left (f s) (flat_map f ss) x (subst F (sym (some-injective s v at)) h)
at-contains f (s ∷ ss) (suc id) v x at h = Contains-append_right (f s) (flat_map f ss) x (at-contains f ss id v x at h)

-- how many items pass, where one seat was put in place of another
pub set-count : {A : Type 0} (f : SeatView → List A) (p : A → Bool) (seats : List SeatView) (id : ℕ) (v w : SeatView)
    → get_elem? seats id ≡ some v
    → count_by p (flat_map f (set seats id w)) + count_by p (f v) ≡ count_by p (flat_map f seats) + count_by p (f w)
set-count f p [] id v w at = absurd (some-ne-none v (sym at))
set-count f p (s ∷ ss) zero v w at =
    let N : SeatView → ℕ = λ u. count_by p (f u) in
    let e : count_by p (f s) ≡ count_by p (f v) = ap N (some-injective s v at) in
    omega (arith, e, count-append p (f w) (flat_map f ss), count-append p (f s) (flat_map f ss))
set-count f p (s ∷ ss) (suc id) v w at =
    omega (
      arith,
      set-count f p ss id v w at,
      count-append p (f s) (flat_map f (set ss id w)),
      count-append p (f s) (flat_map f ss),
    )

-- a list has no item that another lacks, and as many of each kind
pub record Same {A : Type 0} (xs ys : List A) : Type 0 where
  pub contains : (x : A) → Contains ys x → Contains xs x
  pub counts : (p : A → Bool) → count_by p ys ≡ count_by p xs

pub same-is : {A : Type 0} (xs ys zs : List A) → ys ≡ xs → Same xs zs → Same ys zs
same-is {A} xs ys zs e h = let F : List A → Type 0 = λ l. Same l zs in subst F (sym e) h

-- where one seat got more at the end of its list, all seats together have that more
pub set-grows : {A : Type 0} (f : SeatView → List A) (seats : List SeatView) (id : ℕ) (v w : SeatView) (more : List A)
    → get_elem? seats id ≡ some v → f w ≡ f v ++ more → Same (flat_map f seats ++ more) (flat_map f (set seats id w))
set-grows {A} f seats id v w more at e = record {
  contains = λ x h. elim (set-contains f seats id w x h) [
    | inl a ↦ Contains-append_left (flat_map f seats) more x a
    | inr b ↦
        let F : List A → Type 0 = λ l. Contains l x in
        elim (Contains-append_cases (f v) more x (subst F e b)) [
          | inl c ↦ Contains-append_left (flat_map f seats) more x (at-contains f seats id v x at c)
          | inr d ↦ Contains-append_right (flat_map f seats) more x d
        ]
  ];
  counts = λ p.
      let N : List A → ℕ = λ l. count_by p l in
      omega (arith, set-count f p seats id v w at, ap N e, count-append p (f v) more, count-append p (flat_map f seats) more);
}

-- where one seat kept its list, all seats together have what they had
pub set-stays : {A : Type 0} (f : SeatView → List A) (seats : List SeatView) (id : ℕ) (v w : SeatView)
    → get_elem? seats id ≡ some v → f w ≡ f v → Same (flat_map f seats) (flat_map f (set seats id w))
set-stays f seats id v w at e =
    same-is _ _ _ (sym (append-nil (flat_map f seats))) (set-grows f seats id v w [] at (e ∙ sym (append-nil (f v))))

-- one item more or none
pub if-more : {A : Type 0} (b : Bool) (xs : List A) (y : A)
    → (if b then xs ++ y ∷ [] else xs) ≡ xs ++ (if b then y ∷ [] else [])
if-more true xs y = refl
if-more false xs y = sym (append-nil xs)

if-map : {A B : Type 0} (g : A → B) (b : Bool) (xs : List A) (y : A)
    → map g (if b then xs ++ y ∷ [] else xs) ≡ (if b then map g xs ++ g y ∷ [] else map g xs)
if-map g true xs y = map-append g xs (y ∷ [])
if-map g false xs y = refl

-- own final moves after a move, as a board has them
pub plain-final_moves_with : (role : Role) (finals : List FinalMove) (place to : ℕ)
    → plain_finals (final_moves_with role finals place to) ≡ finals_with (plain_finals finals) place to
plain-final_moves_with role finals place to =
    if-map (λ (f : FinalMove). (f.place, f.word)) (nat_le 4 to) finals (record { place = place; word = to; by = role })

pub plain_finals-append : (xs ys : List FinalMove) → plain_finals (xs ++ ys) ≡ plain_finals xs ++ plain_finals ys
plain_finals-append xs ys = map-append (λ (f : FinalMove). (f.place, f.word)) xs ys

-- the parts after one seat was put in place of another
pub set-parts : (seats : List SeatView) (id : ℕ) (v w : SeatView) → get_elem? seats id ≡ some v
    → parts_of (set seats id w) + v.parts ≡ parts_of seats + w.parts
set-parts [] id v w at = absurd (some-ne-none v (sym at))
set-parts (s ∷ ss) zero v w at =
    let P : SeatView → ℕ = λ u. u.parts in omega (arith, ap P (some-injective s v at))
set-parts (s ∷ ss) (suc id) v w at = omega (arith, set-parts ss id v w at)

pub push-parts : (seats : List SeatView) (w : SeatView) → parts_of (seats ++ w ∷ []) ≡ parts_of seats + w.parts
push-parts [] w = omega arith
push-parts (s ∷ ss) w = omega (arith, push-parts ss w)

at-parts : (seats : List SeatView) (id : ℕ) (v : SeatView) → get_elem? seats id ≡ some v → v.parts ≤ parts_of seats
at-parts [] id v at = absurd (some-ne-none v (sym at))
at-parts (s ∷ ss) zero v at = let P : SeatView → ℕ = λ u. u.parts in omega (arith, ap P (some-injective s v at))
at-parts (s ∷ ss) (suc id) v at = omega (arith, at-parts ss id v at)

-- seats without parts have no list that only seats with parts have
none-all : {A : Type 0} (f : SeatView → List A) (seats : List SeatView)
    → ((id : ℕ) (v : SeatView) → get_elem? seats id ≡ some v → v.parts ≡ 0 → f v ≡ []) → parts_of seats ≡ 0
    → flat_map f seats ≡ []
none-all f [] none all = refl
none-all {A} f (s ∷ ss) none all =
    let C : List A → List A = λ l. l ++ flat_map f ss in
    ap C (none zero s refl (omega (arith, all))) ∙ none-all f ss (λ id v at. none (suc id) v at) (omega (arith, all))

-- where one seat has all parts, it has all of such a list
pub one-all : {A : Type 0} (f : SeatView → List A) (seats : List SeatView) (id : ℕ) (v : SeatView)
    → get_elem? seats id ≡ some v
    → ((id : ℕ) (u : SeatView) → get_elem? seats id ≡ some u → u.parts ≡ 0 → f u ≡ []) → parts_of seats ≡ v.parts
    → flat_map f seats ≡ f v
one-all f [] id v at none all = absurd (some-ne-none v (sym at))
one-all {A} f (s ∷ ss) zero v at none all =
    let P : SeatView → ℕ = λ u. u.parts in
    let e = some-injective s v at in
    let C : List A → List A = λ l. f s ++ l in
    ap C (none-all f ss (λ i u a. none (suc i) u a) (omega (arith, all, ap P e))) ∙ append-nil (f s) ∙ ap f e
one-all {A} f (s ∷ ss) (suc id) v at none all =
    let C : List A → List A = λ l. l ++ flat_map f ss in
    let h : s.parts ≡ 0 = omega (arith, all, at-parts ss id v at) in
    ap C (none zero s refl h) ∙ one-all f ss id v at (λ i u a. none (suc i) u a) (omega (arith, all, h))
