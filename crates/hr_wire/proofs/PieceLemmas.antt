-- Items that are put in turn, with commas between them.
use Rattle.std.proofs.Common.{◌≡◌, ◌<◌, ◌+◌, ℕ, List, [], ◌∷◌, ◌++◌, get_or, length, map, take, refl, sym, ap, ◌∙◌, append_assoc, add-one}
use Rattle.std.specs.List.{join_with_byte}
use Rattle.std.proofs.lemmas.List.{map-append, take_more}

join_push : (c : ℕ) (x : List ℕ) (xs : List (List ℕ)) (y : List ℕ) → join_with_byte c (x ∷ (xs ++ y ∷ [])) ≡ join_with_byte c (x ∷ xs) ++ c ∷ y
join_push c x [] y = refl
join_push c x (z ∷ zs) y =
    ap (λ (t : List ℕ). x ++ (c ∷ t)) (join_push c z zs y)
    ∙ sym (append_assoc x (c ∷ join_with_byte c (z ∷ zs)) (c ∷ y))

take_cons : {A : Type 0} (x : A) (xs : List A) (n : ℕ) → take (n + 1) (x ∷ xs) ≡ x ∷ take n xs
take_cons x xs n = rw add-one refl

-- a text to which pieces were put in turn
three_pieces : (t0 t1 t2 t3 a b c : List ℕ) → t1 ≡ t0 ++ a → t2 ≡ t1 ++ b → t3 ≡ t2 ++ c → t3 ≡ t0 ++ (a ++ b ++ c)
three_pieces t0 t1 t2 t3 a b c p q r =
    r ∙ ap (λ (t : List ℕ). t ++ c) (q ∙ ap (λ (t : List ℕ). t ++ b) p ∙ append_assoc t0 a b) ∙ append_assoc t0 (a ++ b) c

module _ {A : Type 0} (piece : A → List ℕ) where
  abbrev joined : List A → List ℕ
  joined items = join_with_byte 44 (map piece items)

  -- a comma and a further item were put
  pub further_item : (t0 t1 t2 t3 : List ℕ) (items others : List A) (first item : A) (i : ℕ) → items ≡ first ∷ others → i < length others → item ≡ get_or others i item
      → t1 ≡ t0 ++ join_with_byte 44 (map piece (take (i + 1) items)) → t2 ≡ t1 ++ 44 ∷ [] → t3 ≡ t2 ++ piece item
      → t3 ≡ t0 ++ join_with_byte 44 (map piece (take (i + 1 + 1) items))
  further_item t0 t1 t2 t3 items others first item i e below is p q r =
      let before = joined (first ∷ take i others) in
      let was : t1 ≡ t0 ++ before = p ∙ ap (λ (l : List A). t0 ++ joined l) (ap (λ (l : List A). take (i + 1) l) e ∙ take_cons first others i) in
      let more : take (i + 1) others ≡ take i others ++ item ∷ [] = take_more others i item below ∙ ap (λ (x : A). take i others ++ x ∷ []) (sym is) in
      let now : take (i + 1 + 1) items ≡ first ∷ (take i others ++ item ∷ []) = ap (λ (l : List A). take (i + 1 + 1) l) e ∙ take_cons first others (i + 1) ∙ ap (λ (l : List A). first ∷ l) more in
      let text : joined (first ∷ (take i others ++ item ∷ [])) ≡ before ++ 44 ∷ piece item =
      ap (λ (l : List (List ℕ)). join_with_byte 44 (piece first ∷ l)) (map-append piece (take i others) (item ∷ []))
      ∙ join_push 44 (piece first) (map piece (take i others)) (piece item) in
      three_pieces t0 t1 t2 t3 before (44 ∷ []) (piece item) was q r
      ∙ ap (λ (t : List ℕ). t0 ++ t) (append_assoc before (44 ∷ []) (piece item) ∙ sym text ∙ ap joined (sym now))
