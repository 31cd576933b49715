-- How many expanded forms parts have.
use Rattle.std.proofs.Common.{◌≡◌, ℕ, ◌+◌, ◌*◌, ◌<◌, ◌≤◌, min, false, nat_lt, List, ◌∷◌, length, get_or, drop, sym, ap, ◌∙◌, arith, mul_assoc, le-ltb}
use Rattle.std.proofs.lemmas.List.{drop_more}
use Rattle.hr_pattern.specs.declared.part.Part.{Part}
use Rattle.hr_pattern.specs.Form.{forms, too_many}
use Rattle.hr_pattern.proofs.NumberLemmas.{length-combined}

next_part : (parts : List Part) (i : ℕ) (part : Part) → i < length parts → part ≡ get_or parts i part → drop i parts ≡ part ∷ drop (i + 1) parts
next_part parts i part lt is = drop_more parts i part lt ∙ ap (λ (p : Part). p ∷ drop (i + 1) parts) (sym is)

-- one part more
pub product_more : (parts : List Part) (i : ℕ) (part : Part) (count count' : ℕ) → i < length parts → part ≡ get_or parts i part → count' ≡ count * length part.choices → count * length (forms (drop i parts)) ≡ length (forms parts) → count' * length (forms (drop (i + 1) parts)) ≡ length (forms parts)
product_more parts i part count count' lt is times so_far =
    ap (λ n. n * length (forms (drop (i + 1) parts))) times
    ∙ mul_assoc count (length part.choices) (length (forms (drop (i + 1) parts)))
    ∙ ap (λ n. count * n) (sym (length-combined part.choices (forms (drop (i + 1) parts))))
    ∙ ap (λ (ps : List Part). count * length (forms ps)) (sym (next_part parts i part lt is))
    ∙ so_far

pub few_more : (parts : List Part) (i : ℕ) (part : Part) (count count' : ℕ) → i < length parts → part ≡ get_or parts i part → count' ≡ count * length part.choices → count' ≤ 256 → too_many count (drop i parts) ≡ too_many 1 parts → too_many count' (drop (i + 1) parts) ≡ too_many 1 parts
few_more parts i part count count' lt is times few so_far =
    let low : count * length part.choices ≤ 256 = omega (arith, times) in
    let no : nat_lt 256 (count * length part.choices) ≡ false = le-ltb 256 (count * length part.choices) low in
    ap (λ n. too_many n (drop (i + 1) parts)) times
    ∙ rw no at (ap (too_many count) (sym (next_part parts i part lt is)))
    ∙ so_far

-- a product that is small was not cut
pub whole_product : (count len got : ℕ) → got ≡ min (count * len) 18446744073709551615 → got ≤ 256 → got ≡ count * len
whole_product count len got is few = omega arith
