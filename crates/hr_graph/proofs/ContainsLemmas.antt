-- Lemmas on the items of lists, and on digests of which none is there twice.
use Rattle.std.proofs.Common.{◌≡◌, ℕ, zero, suc, Bool, true, false, ◌||◌, List, [], ◌∷◌, ◌++◌, length, drop, ◌⊎◌, inl, inr, refl, ap, arith}
use Rattle.std.specs.Prelude.{Contains, Some, None, map, slice_get}
use Rattle.std.specs.List.{AllByRecursion, IsDistinct}
use Rattle.std.specs.Map.{keys_of}
use Rattle.hr_digest.specs.declared.digest.Digest.{Digest}
use Rattle.hr_digest.specs.Order.{digest_eq}
use Rattle.hr_graph.specs.declared.opened.Finished.{Finished}
use Rattle.hr_graph.specs.declared.opened.Opened.{Opened}
use Rattle.hr_graph.specs.Walk.{known, is_open}
use Rattle.hr_graph.proofs.KnownLemmas.{absent_at, distinct_head, distinct_open, distinct_tail}
use Rattle.hr_graph.proofs.MeetingLemmas.{all_append}

-- ---- items

pub get_contains : {X : Type 0} (xs : List X) (k : ℕ) (x : X) → slice_get xs k ≡ Some x → Contains xs x
get_contains [] k x is = cc
get_contains (y ∷ ys) zero x is = let e : y ≡ x = cc in (zero, omega arith, e)
get_contains (y ∷ ys) (suc k) x is = let r = get_contains ys k x is in (suc r.0, omega (arith, r.1), r.2)

pub contains_later : {X : Type 0} (y : X) (xs : List X) (x : X) → Contains xs x → Contains (y ∷ xs) x
contains_later y xs x (k, within, is) = (suc k, omega (arith, within), is)

pub each_contained : {X : Type 0} (P : X → Type 0) (xs : List X) → ((x : X) → Contains xs x → P x)
    → AllByRecursion P xs
each_contained P [] all = tt
each_contained P (x ∷ xs) all =
    (all x (zero, omega arith, refl), each_contained P xs (λ y within. all y (contains_later x xs y within)))

pub each_then : {X : Type 0} {P Q : X → Type 0} → ((x : X) → P x → Q x) → (xs : List X)
    → AllByRecursion P xs → AllByRecursion Q xs
each_then f [] all = tt
each_then f (x ∷ xs) all = (f x all.0, each_then f xs all.1)

pub all_drop : {X : Type 0} (P : X → Type 0) (n : ℕ) (xs : List X) → AllByRecursion P xs
    → AllByRecursion P (drop n xs)
all_drop P zero xs all = all
all_drop P (suc n) [] all = tt
all_drop P (suc n) (x ∷ xs) all = all_drop P n xs all.1

pub or_true : (a b : Bool) → (a || b) ≡ true → (a ≡ true) ⊎ (b ≡ true)
or_true true b is = inl refl
or_true false b is = inr is

-- ---- digests

-- none of these digests is this one
abbrev pub Apart : Digest → List Digest → Type 0
Apart d ds = AllByRecursion (λ y. digest_eq d y ≡ false) ds

pub apart_keys : {X : Type 0} (d : Digest) (es : List (Digest × X)) → known d es ≡ None
    → Apart d (keys_of es)
apart_keys d [] is = tt
apart_keys d (e ∷ es) is =
    let a = absent_at (digest_eq d e.0) e.1 (known d es) is in (a.0, apart_keys d es a.1)

pub distinct_cons : (d : Digest) (ds : List Digest) → Apart d ds → IsDistinct digest_eq ds
    → IsDistinct digest_eq (d ∷ ds)
unfolding IsDistinct
distinct_cons d ds apart once = (apart, once)

abbrev pub digests_of : List Opened → List Digest
digests_of opened = map (λ o. o.digest) opened

pub apart_both : (d : Digest) (opened : List Opened) (es : List (Digest × Finished))
    → IsDistinct digest_eq (digests_of opened) → is_open d opened ≡ false → known d es ≡ None
    → Apart d (digests_of opened ++ keys_of es)
apart_both d opened es once shut new =
    all_append (λ y. digest_eq d y ≡ false) (digests_of opened) (keys_of es)
    (distinct_head d (digests_of opened) (distinct_open d opened shut once)) (apart_keys d es new)

-- what is open and what is finished is distinct together
pub distinct_both : (opened : List Opened) (es : List (Digest × Finished))
    → IsDistinct digest_eq (digests_of opened) → AllByRecursion (λ o. known o.digest es ≡ None) opened
    → IsDistinct digest_eq (keys_of es) → IsDistinct digest_eq (digests_of opened ++ keys_of es)
distinct_both [] es once not_put keys = keys
distinct_both (o ∷ os) es once not_put keys =
    distinct_cons o.digest (digests_of os ++ keys_of es)
    (all_append (λ y. digest_eq o.digest y ≡ false) (digests_of os) (keys_of es)
    (distinct_head o.digest (digests_of os) once) (apart_keys o.digest es not_put.0))
    (distinct_both os es (distinct_tail o.digest (digests_of os) once) not_put.1 keys)

pub length-keys : {X : Type 0} (es : List (Digest × X)) → length (keys_of es) ≡ length es
length-keys [] = refl
length-keys (e ∷ es) = ap suc (length-keys es)

pub length-digests : (opened : List Opened) → length (digests_of opened) ≡ length opened
length-digests [] = refl
length-digests (o ∷ os) = ap suc (length-digests os)

pub each_key : {X : Type 0} (P : Digest → Type 0) (Q : Digest × X → Type 0)
    → ((e : Digest × X) → Q e → P e.0) → (es : List (Digest × X)) → AllByRecursion Q es
    → AllByRecursion P (keys_of es)
each_key P Q f [] all = tt
each_key P Q f (e ∷ es) all = (f e all.0, each_key P Q f es all.1)

pub each_digest : (P : Digest → Type 0) (Q : Opened → Type 0) → ((o : Opened) → Q o → P o.digest)
    → (os : List Opened) → AllByRecursion Q os → AllByRecursion P (digests_of os)
each_digest P Q f [] all = tt
each_digest P Q f (o ∷ os) all = (f o all.0, each_digest P Q f os all.1)
