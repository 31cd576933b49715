-- Lemmas on the words of specs/Raising.antt: pairs of a revision and a status, taken one by one.
use Rattle.std.proofs.Common.{◌≡◌, ℕ, ◌+◌, ◌*◌, ◌<◌, ◌≤◌, suc, true, false, ◌&&◌, ◌||◌, ltb, eqb, ◌⊎◌, inl, inr, List, [], ◌∷◌, ◌++◌, length, take, get_or, refl, sym, ap, ◌∙◌, arith}
use Rattle.std.proofs.lemmas.List.{append-nil, length-take-le, take_more}
use Rattle.std.proofs.lemmas.Bool.Decides.{nat_tests}
use Rattle.hr_base.specs.declared.status.Mark.{Mark}
use Rattle.hr_base.specs.declared.status.Mark.TheVariants.{Unopened, At}
use Rattle.hr_base.specs.declared.status.Status.{Status}
use Rattle.hr_base.specs.declared.status.Status.TheVariants.{Pending, Scheduled, Running, Stopped, Error, Success}
use Rattle.hr_base.specs.Status.{code_of}
use Rattle.hr_base.specs.Merge.{first_greatest, greater_of, is_above}
use Rattle.hr_rest.specs.Raising.{opened, raised, raised_by}

-- a pair by one number: the revision first, and then the code
abbrev rank : ℕ × Status → ℕ
rank p = 4 * p.0 + code_of p.1

code-small : (s : Status) → code_of s ≤ 3
code-small Pending = omega arith
code-small Scheduled = omega arith
code-small Running = omega arith
code-small Stopped = omega arith
code-small Error = omega arith
code-small Success = omega arith

above_at_true : (m n c d : ℕ) → c ≤ 3 → d ≤ 3 → (ltb n m || (eqb n m && ltb d c)) ≡ true → 4 * n + d < 4 * m + c
above_at_true m n c d h k e = grind (arith, nat_tests)

above_at_false : (m n c d : ℕ) → c ≤ 3 → d ≤ 3 → (ltb n m || (eqb n m && ltb d c)) ≡ false → 4 * m + c ≤ 4 * n + d
above_at_false m n c d h k e = grind (arith, nat_tests)

-- a pair is above another exactly where its rank is
above_ranks : (p q : ℕ × Status) → is_above p q ≡ true → rank q < rank p
above_ranks p q e = above_at_true p.0 q.0 _ _ (code-small p.1) (code-small q.1) e

not_above_ranks : (p q : ℕ × Status) → is_above p q ≡ false → rank p ≤ rank q
not_above_ranks p q e = above_at_false p.0 q.0 _ _ (code-small p.1) (code-small q.1) e

above_cases : (p q : ℕ × Status) → (is_above p q ≡ true) ⊎ (is_above p q ≡ false)
above_cases p q = elim (is_above p q) as (λ b. (b ≡ true) ⊎ (b ≡ false)) [ true ↦ inl refl | false ↦ inr refl ]

above-from_ranks : (p q : ℕ × Status) → rank q < rank p → is_above p q ≡ true
above-from_ranks p q h = elim (above_cases p q) [ inl e ↦ e | inr e ↦ absurd (omega (arith, not_above_ranks p q e)) ]

not_above-from_ranks : (p q : ℕ × Status) → rank p ≤ rank q → is_above p q ≡ false
not_above-from_ranks p q h = elim (above_cases p q) [ inl e ↦ absurd (omega (arith, above_ranks p q e)) | inr e ↦ e ]

greater-second : (p q : ℕ × Status) → is_above q p ≡ true → greater_of p q ≡ q
greater-second p q e = rw e

greater-first : (p q : ℕ × Status) → is_above q p ≡ false → greater_of p q ≡ p
greater-first p q e = rw e

greater-assoc : (p q r : ℕ × Status) → greater_of p (greater_of q r) ≡ greater_of (greater_of p q) r
greater-assoc p q r = elim (above_cases r q) [
  | inl a ↦ elim (above_cases q p) [
    | inl b ↦ rw (
      greater-second q r a,
      greater-second p q b,
      greater-second q r a,
      greater-second p r (above-from_ranks r p (omega (arith, above_ranks r q a, above_ranks q p b))),
    )
    | inr b ↦ rw (greater-second q r a, greater-first p q b)
  ]
  | inr a ↦ elim (above_cases q p) [
    | inl b ↦ rw (greater-first q r a, greater-second p q b, greater-first q r a)
    | inr b ↦ rw (
      greater-first q r a,
      greater-first p q b,
      greater-first p r (not_above-from_ranks r p (omega (arith, not_above_ranks r q a, not_above_ranks q p b))),
    )
  ]
]

first_greatest-push : (p : ℕ × Status) (qs : List (ℕ × Status)) (h : ℕ × Status)
    → first_greatest p (qs ++ h ∷ []) ≡ greater_of (first_greatest p qs) h
unfolding first_greatest
first_greatest-push p [] h = refl
first_greatest-push p (q ∷ qs) h =
    ap (greater_of p) (first_greatest-push q qs h) ∙ greater-assoc p (first_greatest q qs) h

-- what one mark says
abbrev said_by : ℕ → Mark → List (ℕ × Status)
said_by rev Unopened = []
said_by rev (At status) = (rev, status) ∷ []

said_one : (rev : ℕ) (mark : Mark) → opened rev (mark ∷ []) ≡ said_by rev mark
said_one rev Unopened = refl
said_one rev (At status) = refl

opened-push : (rev : ℕ) (marks : List Mark) (mark : Mark) → opened rev (marks ++ mark ∷ []) ≡ opened rev marks ++ said_by (rev + length marks) mark
opened-push rev [] mark = let same : rev ≡ rev + 0 = omega arith in said_one rev mark ∙ ap (λ k. said_by k mark) same
opened-push rev (Unopened ∷ marks) mark =
    let same : suc rev + length marks ≡ rev + suc (length marks) = omega arith in
    opened-push (suc rev) marks mark ∙ ap (λ k. opened (suc rev) marks ++ said_by k mark) same
opened-push rev (At status ∷ marks) mark =
    let same : suc rev + length marks ≡ rev + suc (length marks) = omega arith in
    ap (λ ps. (rev, status) ∷ ps) (opened-push (suc rev) marks mark ∙ ap (λ k. opened (suc rev) marks ++ said_by k mark) same)

raised-by : (row : ℕ × Status) (pairs : List (ℕ × Status)) (rev : ℕ) (mark : Mark)
    → raised_by (first_greatest row pairs) rev mark ≡ first_greatest row (pairs ++ said_by rev mark)
raised-by row pairs rev Unopened = ap (first_greatest row) (sym (append-nil pairs))
raised-by row pairs rev (At status) = sym (first_greatest-push row pairs (rev, status))

-- one mark more, by a loop over them
pub raised_more : (row known : ℕ × Status) (marks : List Mark) (i rev : ℕ) (d : Mark) → i < length marks → rev ≡ i
    → known ≡ raised row (take i marks) → raised_by known rev (get_or marks i d) ≡ raised row (take (i + 1) marks)
raised_more row known marks i rev d within same is =
    let len : 0 + length (take i marks) ≡ rev = (let l = length-take-le i marks (omega (arith, within)) in omega (arith, l, same)) in
    ap (λ k. raised_by k rev (get_or marks i d)) is
    ∙ raised-by row (opened 0 (take i marks)) rev (get_or marks i d)
    ∙ ap (first_greatest row)
    (sym (ap (opened 0) (take_more marks i d within) ∙ opened-push 0 (take i marks) (get_or marks i d)
    ∙ ap (λ k. opened 0 (take i marks) ++ said_by k (get_or marks i d)) len))

pub raised_none : (row : ℕ × Status) → row ≡ raised row []
unfolding first_greatest
raised_none row = refl
