-- Lemmas on entries in the order of their keys, by look-ups alone.
use Rattle.std.proofs.Common.{◌≡◌, refl, sym, ap, ◌∙◌, Bool, true, false, cond, List, [], ◌∷◌, Some}
use Rattle.std.specs.Map.{lookup}
use Rattle.std.specs.BTreeMap.{insert_entry, is_at}
use Rattle.std.specs.Cmp.{IsTotalOrder}
use Rattle.std.specs.Ordering.{is_eq, match_ordering, ordering_reverse}
use Rattle.std.specs.declared.cmp.Ordering.{Ordering}
use Rattle.std.specs.declared.cmp.Ordering.TheVariants.{Less, Equal, Greater}
use Rattle.std.proofs.lemmas.Cmp.{tied_itself}

-- two keys that tie compare alike to every third, also from the right
tied_right : {K : Type 0} {R : K → K → Ordering} → IsTotalOrder R → (x y q : K) → R x y ≡ Equal → R q x ≡ R q y
tied_right o x y q e = o.antisymm q x ∙ ap ordering_reverse (o.congr x y q e) ∙ sym (o.antisymm q y)

tied_back : {K : Type 0} {R : K → K → Ordering} → IsTotalOrder R → (x y : K) → R x y ≡ Equal → R y x ≡ Equal
tied_back o x y e = o.antisymm y x ∙ ap ordering_reverse e

is_eq_means : (r : Ordering) → is_eq r ≡ true → r ≡ Equal
is_eq_means Less h = cc
is_eq_means Equal h = refl
is_eq_means Greater h = cc

is_eq_apart : (r : Ordering) → (r ≡ Equal → ⊥) → is_eq r ≡ false
is_eq_apart Less h = refl
is_eq_apart Equal h = absurd (h refl)
is_eq_apart Greater h = refl

cond_twice : {X : Type 0} (a b : Bool) → a ≡ b → (x y z : X) → cond b x z ≡ cond a x (cond b y z)
cond_twice true true e x y z = refl
cond_twice true false e x y z = cc
cond_twice false true e x y z = cc
cond_twice false false e x y z = refl

cond_swap : {X : Type 0} (a b : Bool) (x y z : X) → (a ≡ true → b ≡ true → ⊥)
    → cond a x (cond b y z) ≡ cond b y (cond a x z)
cond_swap true true x y z apart = absurd (apart refl refl)
cond_swap true false x y z apart = refl
cond_swap false true x y z apart = refl
cond_swap false false x y z apart = refl

-- the step of the look-up below: the head of the entries compares to the new key by r
put_step : {K X : Type 0} {R : K → K → Ordering} → IsTotalOrder R → (e : K × X) (es fs : List (K × X)) (k : K) (v : X) (q : K)
    → lookup (is_at (R q)) fs ≡ cond (is_at (R q) k) (Some v) (lookup (is_at (R q)) es) → (r : Ordering) → R k e.0 ≡ r
    → lookup (is_at (R q)) (match_ordering r ((k, v) ∷ e ∷ es) ((e.0, v) ∷ es) (e ∷ fs))
    ≡ cond (is_at (R q) k) (Some v) (cond (is_at (R q) e.0) (Some e.1) (lookup (is_at (R q)) es))
put_step o e es fs k v q rest Less is = refl
put_step {R = R} o e es fs k v q rest Equal is =
    cond_twice (is_at (R q) k) (is_at (R q) e.0) (ap is_eq (tied_right o k e.0 q is)) (Some v) (Some e.1) (lookup (is_at (R q)) es)
put_step {R = R} o e es fs k v q rest Greater is =
    ap (λ t. cond (is_at (R q) e.0) (Some e.1) t) rest
    ∙ cond_swap (is_at (R q) e.0) (is_at (R q) k) (Some e.1) (Some v) (lookup (is_at (R q)) es)
    (λ a b. let t : R k e.0 ≡ Equal = sym (o.congr q k e.0 (is_eq_means (R q k) b)) ∙ is_eq_means (R q e.0) a in cc)

-- a look-up after an entry is put
pub lookup-insert_entry : {K X : Type 0} {R : K → K → Ordering} → IsTotalOrder R → (es : List (K × X)) (k : K) (v : X) (q : K)
    → lookup (is_at (R q)) (insert_entry R es k v) ≡ cond (is_at (R q) k) (Some v) (lookup (is_at (R q)) es)
lookup-insert_entry o [] k v q = refl
lookup-insert_entry {R = R} o (e ∷ es) k v q =
    put_step o e es (insert_entry R es k v) k v q (lookup-insert_entry o es k v q) (R k e.0) refl

-- the same, by cases on whether it looks for that key
pub lookup_same_key : {K X : Type 0} {R : K → K → Ordering} → IsTotalOrder R → (es : List (K × X)) (k : K) (v : X)
    → lookup (is_at (R k)) (insert_entry R es k v) ≡ Some v
lookup_same_key {R = R} o es k v =
    lookup-insert_entry o es k v k ∙ ap (λ t. cond (is_eq t) (Some v) (lookup (is_at (R k)) es)) (tied_itself o k)

pub lookup_other_key : {K X : Type 0} {R : K → K → Ordering} → IsTotalOrder R → (es : List (K × X)) (k : K) (v : X) (q : K)
    → (R q k ≡ Equal → ⊥) → lookup (is_at (R q)) (insert_entry R es k v) ≡ lookup (is_at (R q)) es
lookup_other_key {R = R} o es k v q apart =
    lookup-insert_entry o es k v q ∙ ap (λ t. cond t (Some v) (lookup (is_at (R q)) es)) (is_eq_apart (R q k) apart)
