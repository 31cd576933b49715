-- The numbers below the count of the expanded forms choose exactly these forms.
use Rattle.std.proofs.Common.{◌≡◌, ℕ, ◌+◌, ◌*◌, ◌/◌, ◌%◌, ◌<◌, zero, suc, List, [], ◌∷◌, ◌++◌, map, length, get_or, refl, sym, subst, ap, ◌∙◌, arith, mul_comm, length-append}
use Rattle.std.specs.Prelude.{Any}
use Rattle.std.proofs.lemmas.List.{get_or_append_left, get_or-append-add, get_or_default, get_or-map, length-map}
use Rattle.std.proofs.lemmas.Nat.{div-add-mod', mul-add-lt, div-mul-add, mod-mul-add, div_below, mod_below}
use Rattle.hr_pattern.specs.declared.item.Item.{Item}
use Rattle.hr_pattern.specs.declared.part.Part.{Part}
use Rattle.hr_pattern.specs.Choice.{form_at}
use Rattle.hr_pattern.specs.Form.{combined, forms, forms_of, reading_of}
use Rattle.hr_pattern.proofs.FaultLemmas.{same_forms}

suc_times : (i m : ℕ) → suc i * m ≡ m + i * m
suc_times i m = omega arith

-- how many there are
pub length-combined : (fronts backs : List (List Item)) → length (combined fronts backs) ≡ length fronts * length backs
length-combined [] backs = omega arith
length-combined (front ∷ fronts) backs =
    length-append (map (λ back. front ++ back) backs) (combined fronts backs)
    ∙ ap (λ n. n + length (combined fronts backs)) (length-map backs (λ back. front ++ back))
    ∙ ap (λ n. length backs + n) (length-combined fronts backs)
    ∙ sym (suc_times (length fronts) (length backs))

-- the back at j behind the front at i
combined_at : (fronts backs : List (List Item)) (i j : ℕ) → i < length fronts → j < length backs → get_or (combined fronts backs) (i * length backs + j) [] ≡ get_or fronts i [] ++ get_or backs j []
combined_at [] backs i j lt within = absurd (omega arith)
combined_at (front ∷ fronts) backs zero j lt within =
    let first : List (List Item) = map (λ (back : List Item). front ++ back) backs in
    let many : length first ≡ length backs = length-map backs (λ back. front ++ back) in
    let here : zero * length backs + j ≡ j = omega arith in
    ap (λ n. get_or (first ++ combined fronts backs) n []) here
    ∙ get_or_append_left first (combined fronts backs) [] j (omega arith)
    ∙ get_or-map (λ (back : List Item). front ++ back) backs j [] [] within
combined_at (front ∷ fronts) backs (suc i) j lt within =
    let first : List (List Item) = map (λ (back : List Item). front ++ back) backs in
    let many : length first ≡ length backs = length-map backs (λ back. front ++ back) in
    let times : suc i * length backs ≡ length backs + i * length backs = suc_times i (length backs) in
    let place : suc i * length backs + j ≡ length first + (i * length backs + j) = omega arith in
    ap (λ n. get_or (first ++ combined fronts backs) n []) place
    ∙ get_or-append-add first (combined fronts backs) (i * length backs + j) []
    ∙ combined_at fronts backs i j (omega arith) within

-- the place of the form that a number chooses
pub record Place (parts : List Part) (number : ℕ) : Type 0 where
  pub at : ℕ
  pub within : at < length (forms parts)
  pub is : get_or (forms parts) at [] ≡ form_at number parts

place_more : (part : Part) (parts : List Part) (number : ℕ) → number < length part.choices * length (forms parts) → 0 < length part.choices → Place parts (number / length part.choices) → Place (part ∷ parts) number
place_more part parts number lt some rest =
    let n : ℕ = length part.choices in
    let m : ℕ = length (forms parts) in
    let choice : number % n < n = mod_below number n some in
    let inside : (number % n) * m + rest.at < m * n = mul-add-lt (number % n) m rest.at n choice rest.within in
    record {
      at = (number % n) * m + rest.at;
      within = rw (length-combined part.choices (forms parts), mul_comm n m) inside;
      is = combined_at part.choices (forms parts) (number % n) rest.at choice rest.within
          ∙ ap (λ (back : List Item). get_or part.choices (number % n) [] ++ back) rest.is;
    }

none_first : (n m number : ℕ) → number < n * m → 0 < n
none_first zero m number lt = absurd (omega arith)
none_first (suc n) m number lt = omega arith

pub place_of : (parts : List Part) (number : ℕ) → number < length (forms parts) → Place parts number
place_of [] number lt = record { at = 0; within = omega arith; is = refl }
place_of (part ∷ parts) number lt =
    let n : ℕ = length part.choices in
    let m : ℕ = length (forms parts) in
    let few : number < n * m = rw (length-combined part.choices (forms parts)) at lt in
    let some : 0 < n = none_first n m number few in
    place_more part parts number few some (place_of parts (number / n) (div_below number n m some (rw (mul_comm n m) at few)))

-- the number that chooses the form at a place
pub record Number (parts : List Part) (at : ℕ) : Type 0 where
  pub number : ℕ
  pub within : number < length (forms parts)
  pub is : form_at number parts ≡ get_or (forms parts) at []

number_more : (part : Part) (parts : List Part) (at : ℕ) → at < length part.choices * length (forms parts) → 0 < length (forms parts) → Number parts (at % length (forms parts)) → Number (part ∷ parts) at
number_more part parts at lt some rest =
    let n : ℕ = length part.choices in
    let m : ℕ = length (forms parts) in
    let choice : at / m < n = div_below at m n some lt in
    let back : at % m < m = mod_below at m some in
    let inside : rest.number * n + at / m < n * m = mul-add-lt rest.number n (at / m) m rest.within choice in
    record {
      number = rest.number * n + at / m;
      within = rw (length-combined part.choices (forms parts)) inside;
      is = ap (λ i. get_or part.choices i [] ++ form_at ((rest.number * n + at / m) / n) parts) (mod-mul-add rest.number n (at / m) choice)
          ∙ ap (λ i. get_or part.choices (at / m) [] ++ form_at i parts) (div-mul-add rest.number n (at / m) choice)
          ∙ ap (λ (form : List Item). get_or part.choices (at / m) [] ++ form) rest.is
          ∙ sym (combined_at part.choices (forms parts) (at / m) (at % m) choice back)
          ∙ ap (λ i. get_or (combined part.choices (forms parts)) i []) (div-add-mod' at m);
    }

pub number_of : (parts : List Part) (at : ℕ) → at < length (forms parts) → Number parts at
number_of [] at lt = record { number = 0; within = omega arith; is = let first : at ≡ 0 = omega arith in rw first refl }
number_of (part ∷ parts) at lt =
    let n : ℕ = length part.choices in
    let m : ℕ = length (forms parts) in
    let few : at < n * m = rw (length-combined part.choices (forms parts)) at lt in
    let some : 0 < m = none_first m n at (rw (mul_comm n m) at few) in
    number_more part parts at few some (number_of parts (at % m) (mod_below at m some))

-- what holds of the form of a number holds of some form, and the other way round
pub any_form : (P : List Item → Type 0) (parts : List Part) (number : ℕ) → number < length (forms parts) → P (form_at number parts) → Any P (forms parts)
any_form P parts number lt h =
    let place = place_of parts number lt in (
      place.at,
      form_at number parts,
      place.within,
      get_or_default (forms parts) place.at (form_at number parts) [] place.within ∙ place.is,
      h,
    )

pub no_form : (P : List Item → Type 0) (parts : List Part) → ((number : ℕ) → number < length (forms parts) → P (form_at number parts) → ⊥) → Any P (forms parts) → ⊥
no_form P parts none some =
    let found = number_of parts some.0 some.2 in
    let is : form_at found.number parts ≡ some.1 = found.is ∙ get_or_default (forms parts) some.0 [] some.1 some.2 ∙ some.3 in
    none found.number found.within (subst P (sym is) some.4)

-- the same of the forms of a text
pub some_form : (P : List Item → Type 0) (pattern : List ℕ) (number count : ℕ) → count ≡ length (forms_of pattern) → number < count → P (form_at number (reading_of pattern).parts) → Any P (forms_of pattern)
some_form P pattern number count is lt h =
    let same = same_forms pattern in
    let within : number < length (forms (reading_of pattern).parts) = omega (arith, is, ap length same) in
    subst (Any P) (sym same) (any_form P (reading_of pattern).parts number within h)

pub none_of_forms : (P : List Item → Type 0) (pattern : List ℕ) (count : ℕ) → count ≡ length (forms_of pattern) → ((number : ℕ) → number < count → P (form_at number (reading_of pattern).parts) → ⊥) → Any P (forms_of pattern) → ⊥
none_of_forms P pattern count is none some =
    let same = same_forms pattern in
    no_form P (reading_of pattern).parts (λ number lt. none number (omega (arith, is, ap length same))) (subst (Any P) same some)
