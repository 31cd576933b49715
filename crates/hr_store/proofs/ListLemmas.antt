-- Lemmas on lists.
use Rattle.std.proofs.Common.{◌≡◌, ℕ, ◌+◌, ◌-◌, ◌<◌, List, [], ◌∷◌, ◌++◌, length, map, get_or, take, slice_get, Option, Some, None, sym, ap, ◌∙◌, arith, suc, zero}
use Rattle.hr_board.specs.View as board
use Rattle.hr_event.specs.declared.view.Received.TheVariants as received

-- two at one place are one
pub one-at : {X : Type 0} (xs : List X) (i : ℕ) (x y : X) → i < length xs → x ≡ get_or xs i x → y ≡ get_or xs i y → x ≡ y
one-at [] i x y l p q = absurd (omega (arith, l))
one-at (z ∷ zs) zero x y l p q = p ∙ sym q
one-at (z ∷ zs) (suc i) x y l p q = one-at zs i x y (omega (arith, l)) p q

abbrev pub some_or : {X : Type 0} → X → Option X → X
some_or d None = d
some_or d (Some x) = x

pub get-back : {X : Type 0} (xs : List X) (i : ℕ) (x : X) → slice_get xs i ≡ Some x → x ≡ get_or xs i x
get-back [] zero x e = absurd (cc)
get-back [] (suc i) x e = absurd (cc)
get-back {X = X} (y ∷ ys) zero x e = let F : Option X → X = λ o. some_or x o in sym (ap F e)
get-back (y ∷ ys) (suc i) x e = get-back ys i x e

append-length : {X : Type 0} (xs ys : List X) → length (xs ++ ys) ≡ length xs + length ys
append-length [] ys = omega arith
append-length (x ∷ xs) ys = let r = append-length xs ys in omega (arith, r)

-- of all items some were taken, and one more is there
pub left-over : {X : Type 0} (taken : List X) (x : X) (all left rest : List X) → all ≡ taken ++ left → left ≡ x ∷ rest → length taken < length all
left-over {X = X} taken x all left rest e f =
    let L : List X → ℕ = length in
    let a = ap L e in
    let b = append-length taken left in
    let d = ap L f in
    omega (arith, a, b, d)

pub length-snoc : {X : Type 0} (xs : List X) (x : X) → length (xs ++ x ∷ []) ≡ length xs + 1
length-snoc xs x = append-length xs (x ∷ [])

pub map-taken : {X Y : Type 0} (f : X → Y) (xs : List X) (i : ℕ) (x : X) → i < length xs → x ≡ get_or xs i x → map f (take i xs) ++ f x ∷ [] ≡ map f (take (i + 1) xs)
map-taken f [] i x l e = absurd (omega (arith, l))
map-taken {Y = Y} f (y ∷ ys) zero x l e = let F : Y → List Y = λ v. v ∷ [] in ap F (ap f e)
map-taken {X = X} {Y = Y} f (y ∷ ys) (suc i) x l e =
    let C : List Y → List Y = λ vs. f y ∷ vs in
    let T : ℕ → List Y = λ n. map f (take n (y ∷ ys)) in
    let k : suc (i + 1) ≡ suc i + 1 = omega arith in
    ap C (map-taken f ys i x (omega (arith, l)) e) ∙ ap T k
