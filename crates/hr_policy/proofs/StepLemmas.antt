-- Values read one after another, up to the first fault.
use Rattle.std.proofs.Common.{◌≡◌, ℕ, zero, suc, ◌+◌, List, [], ◌∷◌, ◌++◌, take, Option, Some, slice_get, Result, Ok, Err, refl, sym, ap, ◌∙◌, arith, append-nil, append_assoc}
use Rattle.hr_policy.specs.declared.refusal.ConfigRefused.{ConfigRefused}
use Rattle.hr_policy.specs.declared.refusal.ConfigRefused.TheVariants as why
use Rattle.std.specs.Option.{option_to_list}
use Rattle.hr_policy.specs.Step.{◌>>=◌, gather, each, each_some, mapped, Fails}

abbrev joined : {B : Type 0} → Result (List B) ConfigRefused → Result (List B) ConfigRefused → Result (List B) ConfigRefused
joined first rest = first >>= (λ xs. rest >>= (λ ys. Ok (xs ++ ys)))

pub record Joined {B : Type 0} (first : Result (List B) ConfigRefused) (rest : Result (List B) ConfigRefused) (all : List B) : Type 0 where
  pub xs : List B
  pub ys : List B
  pub first-is : first ≡ Ok xs
  pub rest-is : rest ≡ Ok ys
  pub all-is : all ≡ xs ++ ys

pub joined-ok : {B : Type 0} (first : Result (List B) ConfigRefused) (rest : Result (List B) ConfigRefused) (all : List B) → joined first rest ≡ Ok all → Joined first rest all
joined-ok (Ok xs) (Ok ys) all e = record { xs = xs; ys = ys; first-is = refl; rest-is = refl; all-is = cc }
joined-ok (Ok xs) (Err why) all e = absurd cc
joined-ok (Err why) rest all e = absurd cc

pub record IsNext {A B : Type 0} (f : A → Result (List B) ConfigRefused) (ds : List A) (at : ℕ) (d : A) (ks : List B) : Type 0 where
  pub there : slice_get ds at ≡ Some d
  pub before : gather f (take at ds) ≡ Ok ks

pub gather-next : {A B : Type 0} (f : A → Result (List B) ConfigRefused) (ds : List A) (at : ℕ) (d : A) (ks xs : List B) → IsNext f ds at d ks → f d ≡ Ok xs → gather f (take (at + 1) ds) ≡ Ok (ks ++ xs)
gather-next f [] at d ks xs next is = absurd (let e = next.there in cc)
gather-next f (x ∷ ds) zero d ks xs next is =
    let here : x ≡ d = (let e = next.there in cc) in
    let none : [] ≡ ks = (let e = next.before in cc) in
    let read : f x ≡ Ok xs = ap f here ∙ is in
    rw read (ap Ok (append-nil xs ∙ ap (λ l. l ++ xs) none))
gather-next f (x ∷ ds) (suc at) d ks xs next is =
    let parts = joined-ok (f x) (gather f (take at ds)) ks next.before in
    let later = gather-next f ds at d parts.ys xs (record { there = next.there; before = parts.rest-is }) is in
    let more : suc at + 1 ≡ suc (at + 1) = omega arith in
    rw (more, parts.first-is, later) (ap Ok (sym (append_assoc parts.xs parts.ys xs) ∙ ap (λ l. l ++ xs) (sym parts.all-is)))

pub gather-fault : {A B : Type 0} (f : A → Result (List B) ConfigRefused) (ds : List A) (at : ℕ) (d : A) (ks : List B) (why : ConfigRefused) → IsNext f ds at d ks → f d ≡ Err why → gather f ds ≡ Err why
gather-fault f [] at d ks why next is = absurd (let e = next.there in cc)
gather-fault f (x ∷ ds) zero d ks why next is =
    let here : x ≡ d = (let e = next.there in cc) in
    let refused : f x ≡ Err why = ap f here ∙ is in
    rw refused refl
gather-fault f (x ∷ ds) (suc at) d ks why next is =
    let parts = joined-ok (f x) (gather f (take at ds)) ks next.before in
    let later = gather-fault f ds at d parts.ys why (record { there = next.there; before = parts.rest-is }) is in
    rw (parts.first-is, later) refl

-- ---- one for each

pub each-next : {A B : Type 0} (f : A → Result B ConfigRefused) (ds : List A) (at : ℕ) (d : A) (ks all : List B) (k : B) → all ≡ ks ++ k ∷ [] → Some d ≡ slice_get ds at → each f (take at ds) ≡ Ok ks → f d ≡ Ok k → each f (take (at + 1) ds) ≡ Ok all
each-next f ds at d ks all k whole there before is =
    gather-next (λ d. mapped (λ x. x ∷ []) (f d)) ds at d ks (k ∷ []) (record { there = sym there; before = before }) (ap (mapped (λ x. x ∷ [])) is) ∙ ap Ok (sym whole)

gather-fails : {A B : Type 0} (f : A → Result (List B) ConfigRefused) (ds : List A) (at : ℕ) (d : A) (ks : List B) (e : ConfigRefused) → IsNext f ds at d ks → Fails e (f d) → Fails e (gather f ds)
gather-fails f ds at d ks why.Memory next is = tt
gather-fails f ds at d ks (why.TooLong len) next is = gather-fault f ds at d ks _ next is
gather-fails f ds at d ks why.NotJson next is = gather-fault f ds at d ks _ next is
gather-fails f ds at d ks (why.Field policy key) next is = gather-fault f ds at d ks _ next is
gather-fails f ds at d ks (why.Repeated id) next is = gather-fault f ds at d ks _ next is
gather-fails f ds at d ks (why.Unknown reg) next is = gather-fault f ds at d ks _ next is
gather-fails f ds at d ks (why.SameRegistry policy) next is = gather-fault f ds at d ks _ next is
gather-fails f ds at d ks (why.Chain reg) next is = gather-fault f ds at d ks _ next is

mapped-fails : {A B : Type 0} (g : A → B) (r : Result A ConfigRefused) (e : ConfigRefused) → Fails e r → Fails e (mapped g r)
mapped-fails g r why.Memory is = tt
mapped-fails g r (why.TooLong len) is = ap (mapped g) is
mapped-fails g r why.NotJson is = ap (mapped g) is
mapped-fails g r (why.Field policy key) is = ap (mapped g) is
mapped-fails g r (why.Repeated id) is = ap (mapped g) is
mapped-fails g r (why.Unknown reg) is = ap (mapped g) is
mapped-fails g r (why.SameRegistry policy) is = ap (mapped g) is
mapped-fails g r (why.Chain reg) is = ap (mapped g) is

pub each-fails : {A B : Type 0} (f : A → Result B ConfigRefused) (ds : List A) (at : ℕ) (d : A) (ks : List B) (e : ConfigRefused) → Some d ≡ slice_get ds at → each f (take at ds) ≡ Ok ks → Fails e (f d) → Fails e (each f ds)
each-fails f ds at d ks e there before is =
    gather-fails (λ d. mapped (λ x. x ∷ []) (f d)) ds at d ks e (record { there = sym there; before = before }) (mapped-fails (λ x. x ∷ []) (f d) e is)

-- ---- at most one for each

pub some-next : {A B : Type 0} (f : A → Result (Option B) ConfigRefused) (ds : List A) (at : ℕ) (d : A) (ks all : List B) (o : Option B) → all ≡ ks ++ option_to_list o → Some d ≡ slice_get ds at → each_some f (take at ds) ≡ Ok ks → f d ≡ Ok o → each_some f (take (at + 1) ds) ≡ Ok all
some-next f ds at d ks all o whole there before is =
    gather-next (λ d. mapped option_to_list (f d)) ds at d ks (option_to_list o) (record { there = sym there; before = before }) (ap (mapped option_to_list) is) ∙ ap Ok (sym whole)

pub some-fails : {A B : Type 0} (f : A → Result (Option B) ConfigRefused) (ds : List A) (at : ℕ) (d : A) (ks : List B) (e : ConfigRefused) → Some d ≡ slice_get ds at → each_some f (take at ds) ≡ Ok ks → Fails e (f d) → Fails e (each_some f ds)
some-fails f ds at d ks e there before is =
    gather-fails (λ d. mapped option_to_list (f d)) ds at d ks e (record { there = sym there; before = before }) (mapped-fails option_to_list (f d) e is)
