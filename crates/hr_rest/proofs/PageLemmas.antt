-- Pages of lists, and of lists that are turned round.
use Rattle.std.proofs.Common.{◌≡◌, ◌≤◌, ◌+◌, ◌-◌, ◌*◌, ℕ, List, ◌++◌, length, take, drop, reverse, sym, ap, ◌∙◌, inl, inr, arith}
use Rattle.std.proofs.lemmas.Bool.Decides.{leb_tells}
use Rattle.std.proofs.lemmas.List.{drop-drop, drop-take, drop_all, drop_at, length-drop, length-reverse, length-take-le, reverse-append, take-append-drop, take_all, take_at}
use Rattle.hr_rest.specs.Page.{before_page, page_of}

turned_at : {A : Type 0} (i : ℕ) (xs : List A) → reverse xs ≡ reverse (drop i xs) ++ reverse (take i xs)
turned_at i xs = ap reverse (sym (take-append-drop i xs)) ∙ reverse-append (take i xs) (drop i xs)

-- what is left of a turned list, without its first items
drop_turned : {A : Type 0} (n : ℕ) (xs : List A) → drop n (reverse xs) ≡ reverse (take (length xs - n) xs)
drop_turned {A} n xs = elim (leb_tells n (length xs)) [
  | inl within ↦
      let end : ℕ = length xs - n in
      let front : length (reverse (drop end xs)) ≡ n = length-reverse (drop end xs) ∙ (length-drop end xs ∙ omega (arith, within.1)) in
      ap (drop n) (turned_at end xs) ∙ drop_at (reverse (drop end xs)) (reverse (take end xs)) n front
  | inr past ↦
      let none : length xs - n ≡ 0 = omega (arith, past.1) in
      drop_all n (reverse xs) (let l = length-reverse xs in omega (arith, past.1, l))
      ∙ sym (ap (λ k. reverse (take k xs)) none)
]

-- the first items of a turned list
take_turned : {A : Type 0} (n : ℕ) (xs : List A) → take n (reverse xs) ≡ reverse (drop (length xs - n) xs)
take_turned {A} n xs = elim (leb_tells n (length xs)) [
  | inl within ↦
      let end : ℕ = length xs - n in
      let front : length (reverse (drop end xs)) ≡ n = length-reverse (drop end xs) ∙ (length-drop end xs ∙ omega (arith, within.1)) in
      ap (take n) (turned_at end xs) ∙ take_at (reverse (drop end xs)) (reverse (take end xs)) n front
  | inr past ↦
      let none : length xs - n ≡ 0 = omega (arith, past.1) in
      take_all n (reverse xs) (let l = length-reverse xs in omega (arith, past.1, l))
      ∙ sym (ap (λ k. reverse (drop k xs)) none)
]

pub page_turned : {A : Type 0} (xs : List A) (first size end start : ℕ) → end ≡ length xs - first → start ≡ end - size
    → reverse (take (end - start) (drop start xs)) ≡ take size (drop first (reverse xs))
page_turned xs first size end start is begins =
    let within : end ≤ length xs = omega (arith, is) in
    let len : length (take end xs) ≡ end = length-take-le end xs within in
    let cut : start + (end - start) ≡ end = omega (arith, begins) in
    let from : length (take end xs) - size ≡ start = omega (arith, len, begins) in
    ap reverse (sym (drop-take start (end - start) xs) ∙ ap (λ k. drop start (take k xs)) cut)
    ∙ sym (ap (λ k. reverse (drop k (take end xs))) from)
    ∙ sym (take_turned size (take end xs))
    ∙ sym (ap (take size) (drop_turned first xs ∙ ap (λ k. reverse (take k xs)) (sym is)))

next_page : (p size : ℕ) → p * size + size ≡ (p + 1) * size
next_page p size = omega arith

-- a page, and what stands behind it
pub page_next : {A : Type 0} (page size : ℕ) (items : List A) → 1 ≤ page
    → page_of page size items ++ drop (before_page (page + 1) size) items ≡ drop (before_page page size) items
page_next page size items some =
    let before : ℕ = before_page page size in
    let index : page - 1 + 1 ≡ page + 1 - 1 = omega arith in
    let next : before + size ≡ before_page (page + 1) size = next_page (page - 1) size ∙ ap (λ k. k * size) index in
    ap (λ k. take size (drop before items) ++ drop k items) (sym next)
    ∙ ap (λ rest. take size (drop before items) ++ rest) (sym (drop-drop size before items))
    ∙ take-append-drop size (drop before items)
