-- Lemmas on what is known under a digest, where one more entry comes last.
use Rattle.std.proofs.Common.{◌≡◌, ℕ, Bool, true, false, cond, ◌||◌, ◌&&◌, List, [], ◌∷◌, ◌++◌, refl, sym, ◌∙◌, ap, subst}
use Rattle.std.proofs.lemmas.Bool.{eqb-true}
use Rattle.std.specs.Prelude.{Option, Some, None, map, nat_eq}
use Rattle.std.specs.Cmp.Lexicographic.{pointwise}
use Rattle.hr_digest.specs.declared.digest.Digest.TheVariants.{Sha256}
use Rattle.std.specs.List.{AllByRecursion, IsDistinct}
use Rattle.std.specs.Map.{keys_of}
use Rattle.hr_digest.specs.declared.digest.Digest.{Digest}
use Rattle.hr_digest.specs.Order.{digest_eq, digests_equal}
use Rattle.hr_graph.specs.declared.opened.Opened.{Opened}
use Rattle.hr_graph.specs.Walk.{known, is_open}

-- what is known stays so
kept_at : {X : Type 0} (b : Bool) (a x : X) (o p : Option X)
    → cond b (Some a) o ≡ Some x → (o ≡ Some x → p ≡ Some x) → cond b (Some a) p ≡ Some x
kept_at true a x o p is later = is
kept_at false a x o p is later = later is

pub known_kept : {X : Type 0} (q : Digest) (es more : List (Digest × X)) (x : X)
    → known q es ≡ Some x → known q (es ++ more) ≡ Some x
known_kept q [] more x is = cc
known_kept q (e ∷ es) more x is =
    kept_at (digest_eq q e.0) e.1 x (known q es) (known q (es ++ more)) is (known_kept q es more x)

-- where nothing is known of a digest, no entry is equal to it
pub absent_at : {X : Type 0} (b : Bool) (a : X) (o : Option X)
    → cond b (Some a) o ≡ None → (b ≡ false) × (o ≡ None)
absent_at true a o is = cc
absent_at false a o is = (refl, is)

-- a new entry is known, and nothing else is
pub known_new : {X : Type 0} (k : Digest) (es : List (Digest × X)) (v : X)
    → known k es ≡ None → known k (es ++ (k, v) ∷ []) ≡ Some v
known_new k [] v is = ap (λ b. cond b (Some v) None) (digests_equal.refl k)
known_new k (e ∷ es) v is =
    let a = absent_at (digest_eq k e.0) e.1 (known k es) is in
    ap (λ b. cond b (Some e.1) (known k (es ++ (k, v) ∷ []))) a.0 ∙ known_new k es v a.1

pub known_absent : {X : Type 0} (q k : Digest) (es : List (Digest × X)) (v : X)
    → known q es ≡ None → digest_eq q k ≡ false → known q (es ++ (k, v) ∷ []) ≡ None
known_absent q k [] v is other = ap (λ b. cond b (Some v) None) other
known_absent q k (e ∷ es) v is other =
    let a = absent_at (digest_eq q e.0) e.1 (known q es) is in
    ap (λ b. cond b (Some e.1) (known q (es ++ (k, v) ∷ []))) a.0 ∙ known_absent q k es v a.1 other

pub unequal : (a b : Digest) → digest_eq a b ≡ false → digest_eq b a ≡ false
unequal a b h = digests_equal.symm b a ∙ h

-- digests stay distinct
snoc_apart : {X : Type 0} (d k : Digest) (es : List (Digest × X)) (v : X)
    → AllByRecursion (λ y. digest_eq d y ≡ false) (keys_of es) → digest_eq d k ≡ false
    → AllByRecursion (λ y. digest_eq d y ≡ false) (keys_of (es ++ (k, v) ∷ []))
snoc_apart d k [] v all other = (other, tt)
snoc_apart d k (e ∷ es) v all other = (all.0, snoc_apart d k es v all.1 other)

pub distinct_snoc : {X : Type 0} (k : Digest) (es : List (Digest × X)) (v : X)
    → IsDistinct digest_eq (keys_of es) → known k es ≡ None
    → IsDistinct digest_eq (keys_of (es ++ (k, v) ∷ []))
unfolding IsDistinct
distinct_snoc k [] v all is = (tt, tt)
distinct_snoc k (e ∷ es) v all is =
    let a = absent_at (digest_eq k e.0) e.1 (known k es) is in
    (snoc_apart e.0 k es v all.0 (unequal k e.0 a.0), distinct_snoc k es v all.1 a.1)

pub distinct_head : (d : Digest) (ds : List Digest) → IsDistinct digest_eq (d ∷ ds)
    → AllByRecursion (λ y. digest_eq d y ≡ false) ds
unfolding IsDistinct
distinct_head d ds all = all.0

pub distinct_tail : (d : Digest) (ds : List Digest) → IsDistinct digest_eq (d ∷ ds)
    → IsDistinct digest_eq ds
unfolding IsDistinct
distinct_tail d ds all = all.1

pub distinct_one : (d : Digest) → IsDistinct digest_eq (d ∷ [])
unfolding IsDistinct
distinct_one d = (tt, tt)

pub distinct_none : IsDistinct digest_eq []
unfolding IsDistinct
distinct_none = tt

-- a digest that isn't open is distinct from those that are
or_false : (a b : Bool) → (a || b) ≡ false → (a ≡ false) × (b ≡ false)
or_false true b h = cc
or_false false b h = (refl, h)

not_open_apart : (d : Digest) (opened : List Opened) → is_open d opened ≡ false
    → AllByRecursion (λ y. digest_eq d y ≡ false) (map (λ o. o.digest) opened)
not_open_apart d [] h = tt
not_open_apart d (o ∷ os) h =
    let a = or_false (digest_eq o.digest d) (is_open d os) h in
    (unequal o.digest d a.0, not_open_apart d os a.1)

pub distinct_open : (d : Digest) (opened : List Opened) → is_open d opened ≡ false
    → IsDistinct digest_eq (map (λ o. o.digest) opened)
    → IsDistinct digest_eq (d ∷ map (λ o. o.digest) opened)
unfolding IsDistinct
distinct_open d opened h all = (not_open_apart d opened h, all)

-- what holds of each entry, with its digest, holds of what is known
both : (a b : Bool) → (a && b) ≡ true → (a ≡ true) × (b ≡ true)
both true b h = (refl, h)
both false b h = absurd (let no : ⊥ = cc in no)

list_same : (xs ys : List ℕ) → pointwise nat_eq xs ys ≡ true → xs ≡ ys
list_same [] [] h = refl
list_same [] (y ∷ ys) h = absurd (let no : ⊥ = cc in no)
list_same (x ∷ xs) [] h = absurd (let no : ⊥ = cc in no)
list_same (x ∷ xs) (y ∷ ys) h =
    let a = both (nat_eq x y) (pointwise nat_eq xs ys) h in
    ap (λ z. z ∷ xs) (eqb-true x y a.0) ∙ ap (λ zs. y ∷ zs) (list_same xs ys a.1)

pub digest_same : (a b : Digest) → digest_eq a b ≡ true → a ≡ b
digest_same (Sha256 x) (Sha256 y) h = ap Sha256 (list_same x y h)

all_at : {X : Type 0} (P : Digest × X → Type 0) (b : Bool) (q k : Digest) (a x : X) (o : Option X)
    → (b ≡ true → q ≡ k) → cond b (Some a) o ≡ Some x → P (k, a) → (o ≡ Some x → P (q, x)) → P (q, x)
all_at P true q k a x o same is here later =
    let e : a ≡ x = cc in
    subst P (ap (λ d. (d, a)) (sym (same refl)) ∙ ap (λ y. (q, y)) e) here
all_at P false q k a x o same is here later = later is

pub known_all : {X : Type 0} (P : Digest × X → Type 0) (q : Digest) (es : List (Digest × X)) (x : X)
    → AllByRecursion P es → known q es ≡ Some x → P (q, x)
known_all P q [] x all is = absurd (let no : ⊥ = cc in no)
known_all P q (e ∷ es) x all is =
    all_at P (digest_eq q e.0) q e.0 e.1 x (known q es) (digest_same q e.0) is all.0 (known_all P q es x all.1)
