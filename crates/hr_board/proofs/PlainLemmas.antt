-- Lemmas on the words of specs/Plain.antt.
use Rattle.std.proofs.Common.{◌≡◌, ◌≢◌, ℕ, ◌+◌, ◌-◌, ◌/◌, ◌<◌, ◌≤◌, Bool, true, false, cond, eqb, leb, List, [], ◌∷◌, ◌++◌, length, get_or, set, sym, ap, ◌∙◌, subst, inl, inr, ◌⊎◌, ◌&&◌, arith, length-set, eq-eqb}
use Rattle.std.proofs.lemmas.Bool.{cases_lt}
use Rattle.std.specs.List.{Contains, count_by}
use Rattle.std.proofs.lemmas.List.{get_or-set_same, get_or-set_other}
use Rattle.std.proofs.lemmas.Grind.{get_or_default_zero}
use Rattle.std.proofs.lemmas.List.Sums.{sum_by-append}
use Rattle.std.proofs.lemmas.List.Elements.{Contains-push_cases}
use Rattle.std.proofs.lemmas.Bool.Decides.{eqb_tells, leb_tells}
use Rattle.hr_board.specs.Moves.{Below}
use Rattle.hr_board.specs.Past.{Past}
use Rattle.hr_board.specs.View.{place_of, Noted, Finds, OpensAfterError, finals_with, opens_with}
use Rattle.hr_board.specs.Plain.{Plain, IsLawful, IsEnded, IsOpened, view_of}
use Rattle.hr_board.proofs.MovesLemmas.{Steps, below_step, below_refl}

-- a word after a move: the new one there, and the old one elsewhere
pub record Moves (words after : List ℕ) (place to : ℕ) : Type 0 where
  pub here : get_or after place 0 ≡ to
  pub elsewhere : (p : ℕ) → p ≢ place → get_or after p 0 ≡ get_or words p 0

pub moves-set : (words : List ℕ) (place to : ℕ) → place < length words → Moves words (set words place to) place to
moves-set words place to h = record {
  here = get_or-set_same words place to 0 h;
  elsewhere = λ p n. get_or-set_other words place p to 0 n;
}

-- one more item is counted where it passes
count-push : {X : Type 0} (p : X → Bool) (xs : List X) (x : X) → count_by p (xs ++ x ∷ []) ≡ count_by p xs + cond (p x) 1 0
count-push p xs x = omega (arith, sum_by-append (λ y. cond (p y) 1 0) xs (x ∷ []))

-- a note of the word that stands there keeps the law
pub lawful-saw : (words : List ℕ) (past : Past) (place word : ℕ) → IsLawful words past → word ≡ get_or words place 0
    → IsLawful words (record past { notes = past.notes ++ (place, word) ∷ [] })
lawful-saw words past place word h e = record {
  jobs_fit = h.jobs_fit;
  valid_word = h.valid_word;
  opened_after_error = h.opened_after_error;
  notes_below = λ p w n. elim (Contains-push_cases past.notes (place, word) (p, w) n) [
    | inl k ↦ h.notes_below p w k
    | inr k ↦
        let P : ℕ × ℕ → ℕ = λ v. v.0 in let W : ℕ × ℕ → ℕ = λ v. v.1 in
        let same : w ≡ get_or words p 0 = sym (ap W k) ∙ e ∙ ap (λ (q : ℕ). get_or words q 0) (ap P k) in
        let B : ℕ → Type 0 = λ v. Below w v in
        subst B same (below_refl w)
  ];
  final_moves = h.final_moves;
  finals_once = h.finals_once;
  opens_once = h.opens_once;
}

-- the word at any place after a move
moved-cases : (words after : List ℕ) (place to p : ℕ) → Moves words after place to
    → ((p ≡ place) × (get_or after p 0 ≡ to)) ⊎ ((p ≢ place) × (get_or after p 0 ≡ get_or words p 0))
moved-cases words after place to p h = elim (eqb_tells p place) [
  | inl e ↦ inl (e.1, ap (λ (q : ℕ). get_or after q 0) e.1 ∙ h.here)
  | inr e ↦ inr (e.1, h.elsewhere p e.1)
]

-- how often a place stands among items after one more
pub count-here : {X : Type 0} (f : X → ℕ) (xs : List X) (x : X) (p : ℕ) → f x ≡ p
    → count_by (λ y. eqb (f y) p) (xs ++ x ∷ []) ≡ count_by (λ y. eqb (f y) p) xs + 1
count-here f xs x p e =
    let t : eqb (f x) p ≡ true = eq-eqb (f x) p e in
    count-push (λ y. eqb (f y) p) xs x ∙ ap (λ (b : Bool). count_by (λ y. eqb (f y) p) xs + cond b 1 0) t

pub count-elsewhere : {X : Type 0} (f : X → ℕ) (xs : List X) (x : X) (p : ℕ) → f x ≢ p
    → count_by (λ y. eqb (f y) p) (xs ++ x ∷ []) ≡ count_by (λ y. eqb (f y) p) xs
count-elsewhere f xs x p n = elim (eqb_tells (f x) p) [
  | inl e ↦ absurd (n e.1)
  | inr e ↦ count-push (λ y. eqb (f y) p) xs x ∙ ap (λ (b : Bool). count_by (λ y. eqb (f y) p) xs + cond b 1 0) e.0
      ∙ omega arith
]

-- a revision's place is one of the words
pub place-in : (len job rev : ℕ) → 1 ≤ job → job ≤ len / 4 → rev ≤ 3 → place_of job rev < len
place-in len job rev a b c = omega (arith, a, b, c)

-- what stands at a place is what the board finds there
pub found-word : (words : List ℕ) (past : Past) (board : Plain) (place word : ℕ) → IsLawful words past
    → record { words = words; past = past } ≡ board → word ≡ get_or words place 0 → Finds (view_of board) place word
found-word words past board place word h e k =
    let F : Plain → Type 0 = λ b. Finds (view_of b) place word in
    let B : ℕ → ℕ → Type 0 = λ m v. Below m v in
    subst F e (record { told = sym k; above = λ m n. subst (B m) (sym k) (h.notes_below place m n) })

-- the word that is read at a revision's place
pub word-at : (words : List ℕ) (past : Past) (board : Plain) (job rev at word : ℕ) → record { words = words; past = past } ≡ board
    → (1 ≤ job) × (job ≤ length board.words / 4) → rev ≤ 3 → at ≡ place_of job rev → word ≡ get_or words at word
    → word ≡ get_or words at 0
word-at words past board job rev at word e h k l r =
    let W : Plain → ℕ = λ b. length b.words / 4 in
    let in' : at < length words = omega (arith, l, place-in (length words) job rev h.0 (omega (arith, h.1, ap W e)) k) in
    r ∙ get_or_default_zero words at word in'

-- two revisions at one place have the same number
same_rev : (job rev other r : ℕ) → rev ≤ 3 → r ≤ 3 → place_of job rev ≡ place_of other r → rev ≡ r
same_rev job rev other r a b e = omega (arith, e)

-- after a move: later revisions are still open only after an error
moved-after_error : (words after : List ℕ) (job rev m n : ℕ) → Moves words after (place_of job rev) n → Steps m n → rev ≤ 3
    → get_or words (place_of job rev) 0 ≡ m → (m ≡ 0 → 1 ≤ rev → get_or words (place_of job (rev - 1)) 0 ≡ 5)
    → ((other r : ℕ) → r < 3 → get_or words (place_of other (r + 1)) 0 ≢ 0 → get_or words (place_of other r) 0 ≡ 5)
    → (other r : ℕ) → r < 3 → get_or after (place_of other (r + 1)) 0 ≢ 0 → get_or after (place_of other r) 0 ≡ 5
moved-after_error words after job rev m n h s in' is opens before other r low set =
    elim (moved-cases words after (place_of job rev) n (place_of other (r + 1)) h) [
      | inl e ↦ later e.0
      | inr e ↦ elim (moved-cases words after (place_of job rev) n (place_of other r) h) [
        | inl f ↦ absurd (omega (
          arith,
          s.unfinished,
          before other r low (λ z. set (e.1 ∙ z)),
          ap (λ (p : ℕ). get_or words p 0) f.0,
          is,
        ))
        | inr f ↦ f.1 ∙ before other r low (λ z. set (e.1 ∙ z))
      ]
    ]
  where
    later : place_of other (r + 1) ≡ place_of job rev → get_or after (place_of other r) 0 ≡ 5
    later e =
        let one_less : place_of other r ≡ place_of job (rev - 1) = omega (arith, e, same_rev job rev other (r + 1) in' (omega (arith, low)) (sym e)) in
        let apart : place_of other r ≢ place_of job rev = λ f. omega (arith, e, f) in
        let there : get_or words (place_of other r) 0 ≡ 5 = elim (eqb_tells m 0) [
          | inl z ↦ ap (λ (p : ℕ). get_or words p 0) one_less
              ∙ opens z.1 (omega (arith, same_rev job rev other (r + 1) in' (omega (arith, low)) (sym e)))
          | inr z ↦ before other r low (λ w. z.1 (sym is ∙ ap (λ (p : ℕ). get_or words p 0) (sym e) ∙ w))
        ] in
        h.elsewhere (place_of other r) apart ∙ there

-- after a move: each final word stands once among the own final moves
moved-finals_once : (words after : List ℕ) (finals : List (ℕ × ℕ)) (place m n : ℕ) → Moves words after place n → Steps m n
    → get_or words place 0 ≡ m
    → ((p : ℕ) → IsEnded (get_or words p 0) (count_by (λ note. eqb note.0 p) finals))
    → (p : ℕ) → IsEnded (get_or after p 0) (count_by (λ note. eqb note.0 p) (finals_with finals place n))
moved-finals_once words after finals place m n h s is once p = elim (leb_tells 4 n) [
  | inl e ↦ rw e.0 (elim (moved-cases words after place n p h) [
    | inl f ↦ let c = count-here (λ (v : ℕ × ℕ). v.0) finals (place, n) p (sym f.0) in
        let o = once p in
        let w : get_or words p 0 ≡ m = ap (λ (q : ℕ). get_or words q 0) f.0 ∙ is in
        rw (f.1, c) ((λ k. absurd (omega (arith, k, e.1))), (λ k. omega (arith, o.0, w, s.unfinished)))
    | inr f ↦ let c = count-elsewhere (λ (v : ℕ × ℕ). v.0) finals (place, n) p (λ k. f.0 (sym k)) in
        rw (f.1, c) (once p)
  ])
  | inr e ↦ rw e.0 (elim (moved-cases words after place n p h) [
    | inl f ↦ let o = once p in
        let w : get_or words p 0 ≡ m = ap (λ (q : ℕ). get_or words q 0) f.0 ∙ is in
        rw f.1 ((λ k. omega (arith, o.0, w, s.unfinished)), (λ k. absurd (omega (arith, k, e.1))))
    | inr f ↦ rw f.1 (once p)
  ])
]

-- after a move: each own final move is to a final word, and is the word
moved-final_moves : (words after : List ℕ) (finals : List (ℕ × ℕ)) (place m n : ℕ) → Moves words after place n → Steps m n
    → get_or words place 0 ≡ m
    → ((p w : ℕ) → Contains finals (p, w) → (4 ≤ w) × (get_or words p 0 ≡ w))
    → (p w : ℕ) → Contains (finals_with finals place n) (p, w) → (4 ≤ w) × (get_or after p 0 ≡ w)
moved-final_moves words after finals place m n h s is moves p w = elim (leb_tells 4 n) [
  | inl e ↦ rw e.0 (λ k. elim (Contains-push_cases finals (place, n) (p, w) k) [
    | inl f ↦ stays f
    | inr f ↦
        let P : ℕ × ℕ → ℕ = λ v. v.0 in let W : ℕ × ℕ → ℕ = λ v. v.1 in
        (omega (arith, e.1, ap W f), ap (λ (q : ℕ). get_or after q 0) (sym (ap P f)) ∙ h.here ∙ ap W f)
  ])
  | inr e ↦ rw e.0 (λ k. stays k)
]
  where
    stays : Contains finals (p, w) → (4 ≤ w) × (get_or after p 0 ≡ w)
    stays f = elim (moved-cases words after place n p h) [
      | inl k ↦ absurd (omega (arith, moves p w f, is, s.unfinished, ap (λ (q : ℕ). get_or words q 0) k.0))
      | inr k ↦ ((moves p w f).0, k.1 ∙ (moves p w f).1)
    ]

-- a move that opens, by its words
opening-yes : (m n : ℕ) → Steps m n → n ≤ 2 → (leb n 2 && eqb m 0) ≡ true
opening-yes m n s e = elim (leb_tells n 2) [
  | inl k ↦ rw k.0 (eq-eqb m 0 (s.opening e))
  | inr k ↦ absurd (omega (arith, k.1, e))
]

opening-no : (m n : ℕ) → 3 ≤ n → (leb n 2 && eqb m 0) ≡ false
opening-no m n e = elim (leb_tells n 2) [
  | inl k ↦ absurd (omega (arith, k.1, e))
  | inr k ↦ rw k.0
]

-- after a move: each open word stands once among the opens
moved-opens_once : (words after : List ℕ) (opens : List ℕ) (place m n : ℕ) → Moves words after place n → Steps m n
    → get_or words place 0 ≡ m
    → ((p : ℕ) → IsOpened (get_or words p 0) (count_by (λ opened. eqb opened p) opens))
    → (p : ℕ) → IsOpened (get_or after p 0) (count_by (λ opened. eqb opened p) (opens_with opens place m n))
moved-opens_once words after opens place m n h s is once p = elim (cases_lt 2 n) [
  | inl e ↦ rw (opening-no m n (omega (arith, e))) (elim (moved-cases words after place n p h) [
    | inl f ↦ let o = once p in
        let w : get_or words p 0 ≡ m = ap (λ (q : ℕ). get_or words q 0) f.0 ∙ is in
        rw f.1 (
          o.0,
          (λ k. absurd (omega (arith, k, s.up))),
          (λ k l. o.2 (λ z. opened (sym w ∙ z) k l e) (λ z. omega (arith, w, z, s.unfinished))),
        )
    | inr f ↦ rw f.1 (once p)
  ])
  | inr e ↦ rw (opening-yes m n s e) (elim (moved-cases words after place n p h) [
    | inl f ↦ let c = count-here (λ (v : ℕ). v) opens place p (sym f.0) in
        let o = once p in
        let w : get_or words p 0 ≡ m = ap (λ (q : ℕ). get_or words q 0) f.0 ∙ is in
        let none = o.1 (w ∙ s.opening e) in
        rw (f.1, c) (omega (arith, none), (λ k. absurd (omega (arith, k, s.up))), (λ k l. omega (arith, none)))
    | inr f ↦ let c = count-elsewhere (λ (v : ℕ). v) opens place p (λ k. f.0 (sym k)) in
        rw (f.1, c) (once p)
  ])
]
  where
    opened : m ≡ 0 → n ≢ 0 → n ≢ 4 → 2 < n → ⊥
    opened z a b c = elim (cases_lt 3 n) [
      | inl k ↦ omega (arith, z, s.ending (omega (arith, k, b)))
      | inr k ↦ omega (arith, z, s.starting (omega (arith, k, c)))
    ]

-- a move keeps the law
pub lawful-moved : (words after : List ℕ) (past : Past) (job rev m n : ℕ) → IsLawful words past
    → Moves words after (place_of job rev) n → length after ≡ length words → Steps m n → rev ≤ 3
    → get_or words (place_of job rev) 0 ≡ m → (m ≡ 0 → 1 ≤ rev → Noted past.notes (place_of job (rev - 1)) 5)
    → IsLawful after (record {
      notes = past.notes ++ (place_of job rev, n) ∷ [];
      finals = finals_with past.finals (place_of job rev) n;
      opens = opens_with past.opens (place_of job rev) m n;
    })
lawful-moved words after past job rev m n h mv len s in' is opens = record {
  jobs_fit = rw len h.jobs_fit;
  valid_word = λ p. elim (moved-cases words after (place_of job rev) n p mv) [
    | inl e ↦ omega (arith, e.1, s.valid)
    | inr e ↦ omega (arith, e.1, h.valid_word p)
  ];
  opened_after_error = moved-after_error words after job rev m n mv s in' is
      (λ z low. (h.notes_below (place_of job (rev - 1)) 5 (opens z low)).2 (omega arith)) h.opened_after_error;
  notes_below = λ p w k. elim (Contains-push_cases past.notes (place_of job rev, n) (p, w) k) [
    | inl f ↦ elim (moved-cases words after (place_of job rev) n p mv) [
      | inl e ↦
          let at : get_or words p 0 ≡ m = ap (λ (q : ℕ). get_or words q 0) e.0 ∙ is in
          let B : ℕ → Type 0 = λ v. Below w v in
          subst B (sym e.1) (below_step w m n (subst B at (h.notes_below p w f)) s)
      | inr e ↦ let B : ℕ → Type 0 = λ v. Below w v in subst B (sym e.1) (h.notes_below p w f)
    ]
    | inr f ↦
        let P : ℕ × ℕ → ℕ = λ v. v.0 in let W : ℕ × ℕ → ℕ = λ v. v.1 in
        let B : ℕ → Type 0 = λ v. Below w v in
        subst B (sym (ap W f) ∙ sym mv.here ∙ ap (λ (q : ℕ). get_or after q 0) (ap P f)) (below_refl w)
  ];
  final_moves = moved-final_moves words after past.finals (place_of job rev) m n mv s is h.final_moves;
  finals_once = moved-finals_once words after past.finals (place_of job rev) m n mv s is h.finals_once;
  opens_once = moved-opens_once words after past.opens (place_of job rev) m n mv s is h.opens_once;
}

-- what `advance` leaves where it moves the word
pub lawful-advance : (words : List ℕ) (past after : Past) (board : Plain) (job rev at found m n : ℕ) → IsLawful words past
    → record { words = words; past = past } ≡ board → (1 ≤ job) × (job ≤ length board.words / 4) → rev ≤ 3 → at ≡ place_of job rev
    → found ≡ get_or words at found → found ≡ m → Steps m n → OpensAfterError (view_of board) job rev m
    → after ≡ record {
      notes = past.notes ++ (at, n) ∷ [];
      finals = finals_with past.finals at n;
      opens = opens_with past.opens at m n;
    }
    → IsLawful (set words at n) after
lawful-advance words past after board job rev at found m n h e k in' l r is s opens w =
    let W : Plain → ℕ = λ b. length b.words / 4 in
    let O : Plain → Type 0 = λ b. OpensAfterError (view_of b) job rev m in
    let range : place_of job rev < length words = place-in (length words) job rev k.0 (omega (arith, k.1, ap W e)) in' in
    let A : ℕ → Past = λ p. record { notes = past.notes ++ (p, n) ∷ []; finals = finals_with past.finals p n; opens = opens_with past.opens p m n } in
    let there : get_or words (place_of job rev) 0 ≡ m
    = ap (λ (p : ℕ). get_or words p 0) (sym l) ∙ sym (word-at words past board job rev at found e k in' l r) ∙ is in
    rw (w ∙ ap A l, ap (λ (p : ℕ). set words p n) l)
    (lawful-moved words (set words (place_of job rev) n) past job rev m n h (moves-set words (place_of job rev) n range)
    (length-set _ _ _) s in' there (subst O (sym e) opens))
