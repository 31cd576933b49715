-- Texts to which pieces are put in turn, and what is joined by a byte.
use Rattle.std.proofs.Common.{◌≡◌, ◌<◌, ◌+◌, ℕ, List, [], ◌∷◌, ◌++◌, get_or, length, map, take, refl, sym, ap, ◌∙◌, subst, append_assoc, add-one}
use Rattle.std.specs.List.{All, join_with_byte}
use Rattle.std.proofs.lemmas.List.Elements.{All-append, All-cons, All-nil}
use Rattle.std.proofs.lemmas.List.{map-append, take_more}

-- a text to which pieces were put in turn
pub three_pieces : (t0 t1 t2 t3 a b c : List ℕ) → t1 ≡ t0 ++ a → t2 ≡ t1 ++ b → t3 ≡ t2 ++ c → t3 ≡ t0 ++ (a ++ b ++ c)
three_pieces t0 t1 t2 t3 a b c p q r =
    r ∙ ap (λ (t : List ℕ). t ++ c) (q ∙ ap (λ (t : List ℕ). t ++ b) p ∙ append_assoc t0 a b) ∙ append_assoc t0 (a ++ b) c

pub seven_pieces : (t0 t1 t2 t3 t4 t5 t6 t7 a b c d e f g : List ℕ) → t1 ≡ t0 ++ a → t2 ≡ t1 ++ b → t3 ≡ t2 ++ c → t4 ≡ t3 ++ d → t5 ≡ t4 ++ e → t6 ≡ t5 ++ f → t7 ≡ t6 ++ g
    → t7 ≡ t0 ++ (a ++ b ++ c ++ d ++ e ++ f ++ g)
seven_pieces t0 t1 t2 t3 t4 t5 t6 t7 a b c d e f g p q r s t u v =
    let first = three_pieces t0 t1 t2 t3 a b c p q r in
    let second = three_pieces t0 t3 t4 t5 (a ++ b ++ c) d e first s t in
    three_pieces t0 t5 t6 t7 (a ++ b ++ c ++ d ++ e) f g second u v

-- a new text to which five pieces were put
pub five_from_new : (t0 t1 t2 t3 t4 t5 a b c d e : List ℕ) → t0 ≡ [] → t1 ≡ t0 ++ a → t2 ≡ t1 ++ b → t3 ≡ t2 ++ c → t4 ≡ t3 ++ d → t5 ≡ t4 ++ e → t5 ≡ a ++ b ++ c ++ d ++ e
five_from_new t0 t1 t2 t3 t4 t5 a b c d e new p q r s u =
    let put = λ (piece text : List ℕ). text ++ piece in
    u ∙ ap (put e) (s ∙ ap (put d) (r ∙ ap (put c) (q ∙ ap (put b) (p ∙ ap (put a) new))))

-- ---- items with commas between them

join_push : (c : ℕ) (x : List ℕ) (xs : List (List ℕ)) (y : List ℕ) → join_with_byte c (x ∷ (xs ++ y ∷ [])) ≡ join_with_byte c (x ∷ xs) ++ c ∷ y
join_push c x [] y = refl
join_push c x (z ∷ zs) y =
    ap (λ (t : List ℕ). x ++ (c ∷ t)) (join_push c z zs y)
    ∙ sym (append_assoc x (c ∷ join_with_byte c (z ∷ zs)) (c ∷ y))

take_cons : {A : Type 0} (x : A) (xs : List A) (n : ℕ) → take (n + 1) (x ∷ xs) ≡ x ∷ take n xs
take_cons x xs n = rw add-one refl

module _ {A : Type 0} (piece : A → List ℕ) where
  abbrev joined : List A → List ℕ
  joined items = join_with_byte 44 (map piece items)

  -- the first item was written
  pub first_item : (t0 t1 : List ℕ) (items others : List A) (first : A) → items ≡ first ∷ others → t1 ≡ t0 ++ piece first
      → t1 ≡ t0 ++ join_with_byte 44 (map piece (take (0 + 1) items))
  first_item t0 t1 items others first e p = subst (λ (l : List A). t1 ≡ t0 ++ joined (take (0 + 1) l)) (sym e) p

  -- a comma and a further item were written
  pub further_item : (t0 t1 t2 t3 : List ℕ) (items others : List A) (first item : A) (i : ℕ) → items ≡ first ∷ others → i < length others → item ≡ get_or others i item
      → t1 ≡ t0 ++ join_with_byte 44 (map piece (take (i + 1) items)) → t2 ≡ t1 ++ 44 ∷ [] → t3 ≡ t2 ++ piece item
      → t3 ≡ t0 ++ join_with_byte 44 (map piece (take (i + 1 + 1) items))
  further_item t0 t1 t2 t3 items others first item i e below is p q r =
      let before = joined (first ∷ take i others) in
      let was : t1 ≡ t0 ++ before = p ∙ ap (λ (l : List A). t0 ++ joined l) (ap (λ (l : List A). take (i + 1) l) e ∙ take_cons first others i) in
      let more : take (i + 1) others ≡ take i others ++ item ∷ [] = take_more others i item below ∙ ap (λ (x : A). take i others ++ x ∷ []) (sym is) in
      let now : take (i + 1 + 1) items ≡ first ∷ (take i others ++ item ∷ []) = ap (λ (l : List A). take (i + 1 + 1) l) e ∙ take_cons first others (i + 1) ∙ ap (λ (l : List A). first ∷ l) more in
      let text : joined (first ∷ (take i others ++ item ∷ [])) ≡ before ++ 44 ∷ piece item =
      ap (λ (l : List (List ℕ)). join_with_byte 44 (piece first ∷ l)) (map-append piece (take i others) (item ∷ []))
      ∙ join_push 44 (piece first) (map piece (take i others)) (piece item) in
      three_pieces t0 t1 t2 t3 before (44 ∷ []) (piece item) was q r
      ∙ ap (λ (t : List ℕ). t0 ++ t) (append_assoc before (44 ∷ []) (piece item) ∙ sym text ∙ ap joined (sym now))

-- ---- a fact of each item

module _ {A : Type 0} (P : A → Type 0) where
  -- it holds of a further item
  pub further_each : (items others : List A) (first item : A) (i : ℕ) → items ≡ first ∷ others → i < length others → item ≡ get_or others i item
      → All P (take (i + 1) items) → P item → All P (take (i + 1 + 1) items)
  further_each items others first item i e below is each p =
      let more : take (i + 1) others ≡ take i others ++ item ∷ [] = take_more others i item below ∙ ap (λ (x : A). take i others ++ x ∷ []) (sym is) in
      let front : take (i + 1) items ≡ first ∷ take i others = ap (λ (l : List A). take (i + 1) l) e ∙ take_cons first others i in
      let now : take (i + 1 + 1) items ≡ take (i + 1) items ++ item ∷ [] =
      ap (λ (l : List A). take (i + 1 + 1) l) e ∙ take_cons first others (i + 1) ∙ ap (λ (l : List A). first ∷ l) more
      ∙ ap (λ (l : List A). l ++ item ∷ []) (sym front) in
      subst (All P) (sym now) (All-append P (take (i + 1) items) (item ∷ []) each (All-cons P item [] p (All-nil P)))
