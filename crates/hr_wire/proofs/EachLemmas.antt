-- Values that are read one after another.
use Rattle.std.proofs.Common.{◌≡◌, ℕ, zero, suc, ◌+◌, List, [], ◌∷◌, ◌++◌, take, Option, Some, None, slice_get, refl, sym, ap, ◌∙◌, arith}
use Rattle.std.specs.Prelude.{option_and_then}
use Rattle.serde_json.specs.Data.{Data}
use Rattle.serde_json.specs.Find.{as_str}
use Rattle.hr_base.specs.Bytes.{Text}
use Rattle.hr_wire.specs.Listing.{each_read, with_first}

-- a first item and further ones, of which there are both
record HasFirst {A : Type 0} (first : Option A) (rest : Option (List A)) (all : List A) : Type 0 where
  x : A
  xs : List A
  first-is : first ≡ Some x
  rest-is : rest ≡ Some xs
  all-is : all ≡ x ∷ xs

first_there : {A : Type 0} (first : Option A) (rest : Option (List A)) (all : List A) → with_first first rest ≡ Some all → HasFirst first rest all
first_there (Some x) (Some xs) all e = record { x = x; xs = xs; first-is = refl; rest-is = refl; all-is = cc }
first_there (Some x) None all e = absurd cc
first_there None rest all e = absurd cc

-- what a value reads as, where it is a text that reads
abbrev text_read : {A : Type 0} → (Text → Option A) → Data → Option A
text_read reads value = option_and_then reads (as_str value)

-- the next value, and what those before it read as
pub record IsNext {A : Type 0} (reads : Text → Option A) (values : List Data) (at : ℕ) (value : Data) (done : List A) : Type 0 where
  pub there : slice_get values at ≡ Some value
  pub before : each_read reads (take at values) ≡ Some done

-- one value more reads
pub each_next : {A : Type 0} (reads : Text → Option A) (values : List Data) (at : ℕ) (value : Data) (done : List A) (item : A) → IsNext reads values at value done
    → option_and_then reads (as_str value) ≡ Some item → each_read reads (take (at + 1) values) ≡ Some (done ++ item ∷ [])
each_next reads [] at value done item next is = absurd (let e = next.there in cc)
each_next reads (x ∷ values) zero value done item next is =
    let here : x ≡ value = (let e = next.there in cc) in
    let none : [] ≡ done = (let e = next.before in cc) in
    let read : text_read reads x ≡ Some item = ap (text_read reads) here ∙ is in
    rw read (ap (λ l. Some (l ++ item ∷ [])) none)
each_next reads (x ∷ values) (suc at) value done item next is =
    let parts = first_there (text_read reads x) (each_read reads (take at values)) done next.before in
    let later = each_next reads values at value parts.xs item (record { there = next.there; before = parts.rest-is }) is in
    let more : suc at + 1 ≡ suc (at + 1) = omega arith in
    rw (more, parts.first-is, later) (ap (λ l. Some (l ++ item ∷ [])) (sym parts.all-is))

none_behind : {A : Type 0} (first : Option A) (rest : Option (List A)) → rest ≡ None → with_first first rest ≡ None
none_behind (Some x) rest is = ap (λ r. with_first (Some x) r) is
none_behind None rest is = refl

-- a value doesn't read
pub each_none : {A : Type 0} (reads : Text → Option A) (values : List Data) (at : ℕ) (value : Data) → slice_get values at ≡ Some value → option_and_then reads (as_str value) ≡ None
    → each_read reads values ≡ None
each_none reads [] at value there is = absurd (let e = there in cc)
each_none reads (x ∷ values) zero value there is =
    let here : x ≡ value = (let e = there in cc) in
    ap (λ (o : Option _). with_first o (each_read reads values)) (ap (text_read reads) here ∙ is)
each_none reads (x ∷ values) (suc at) value there is =
    none_behind (text_read reads x) (each_read reads values) (each_none reads values at value there is)
