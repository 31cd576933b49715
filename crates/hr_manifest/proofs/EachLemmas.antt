-- Values read one after another, up to the first fault.
use Rattle.std.proofs.Common.{◌≡◌, ℕ, zero, suc, ◌+◌, List, [], ◌∷◌, ◌++◌, map, take, Some, slice_get, Result, Ok, Err, refl, sym, ap, ◌∙◌, arith}
use Rattle.hr_manifest.specs.declared.refusal.Unreadable.{Unreadable}
use Rattle.hr_manifest.specs.Step.{◌>>=◌, each}

abbrev joined : {B : Type 0} → Result B Unreadable → Result (List B) Unreadable → Result (List B) Unreadable
joined first rest = first >>= (λ x. rest >>= (λ xs. Ok (x ∷ xs)))

record Joined {B : Type 0} (first : Result B Unreadable) (rest : Result (List B) Unreadable) (all : List B) : Type 0 where
  x : B
  xs : List B
  first-is : first ≡ Ok x
  rest-is : rest ≡ Ok xs
  all-is : all ≡ x ∷ xs

joined-ok : {B : Type 0} (first : Result B Unreadable) (rest : Result (List B) Unreadable) (all : List B) → joined first rest ≡ Ok all → Joined first rest all
joined-ok (Ok x) (Ok xs) all e = record { x = x; xs = xs; first-is = refl; rest-is = refl; all-is = cc }
joined-ok (Ok x) (Err why) all e = absurd cc
joined-ok (Err why) rest all e = absurd cc

pub record IsNext {A B : Type 0} (f : A → Result B Unreadable) (ds : List A) (at : ℕ) (d : A) (ks : List B) : Type 0 where
  pub there : slice_get ds at ≡ Some d
  pub before : each (map f (take at ds)) ≡ Ok ks

-- one value more is read
pub each-next : {A B : Type 0} (f : A → Result B Unreadable) (ds : List A) (at : ℕ) (d : A) (ks : List B) (k : B) → IsNext f ds at d ks → f d ≡ Ok k → each (map f (take (at + 1) ds)) ≡ Ok (ks ++ k ∷ [])
each-next f [] at d ks k next is = absurd (let e = next.there in cc)
each-next f (x ∷ ds) zero d ks k next is =
    let here : x ≡ d = (let e = next.there in cc) in
    let none : [] ≡ ks = (let e = next.before in cc) in
    let read : f x ≡ Ok k = ap f here ∙ is in
    rw read (ap (λ l. Ok (l ++ k ∷ [])) none)
each-next f (x ∷ ds) (suc at) d ks k next is =
    let parts = joined-ok (f x) (each (map f (take at ds))) ks next.before in
    let later = each-next f ds at d parts.xs k (record { there = next.there; before = parts.rest-is }) is in
    let more : suc at + 1 ≡ suc (at + 1) = omega arith in
    rw (more, parts.first-is, later) (ap (λ l. Ok (l ++ k ∷ [])) (sym parts.all-is))

-- a value that is not read is the first fault
pub each-fault : {A B : Type 0} (f : A → Result B Unreadable) (ds : List A) (at : ℕ) (d : A) (ks : List B) (why : Unreadable) → IsNext f ds at d ks → f d ≡ Err why → each (map f ds) ≡ Err why
each-fault f [] at d ks why next is = absurd (let e = next.there in cc)
each-fault f (x ∷ ds) zero d ks why next is =
    let here : x ≡ d = (let e = next.there in cc) in
    let refused : f x ≡ Err why = ap f here ∙ is in
    rw refused refl
each-fault f (x ∷ ds) (suc at) d ks why next is =
    let parts = joined-ok (f x) (each (map f (take at ds))) ks next.before in
    let later = each-fault f ds at d parts.xs why (record { there = next.there; before = parts.rest-is }) is in
    rw (parts.first-is, later) refl
