-- The join of hooks that are all below one of them is that one.
use Rattle.std.proofs.Common.{◌≡◌, ◌≢◌, ◌⊎◌, inl, inr, refl, sym, ap, subst, ◌∙◌, zero, suc, ℕ, ◌<◌, ◌≤◌, Bool, true, false, cond, ◌&&◌, ◌||◌, List, [], ◌∷◌, map, arith}
use Rattle.std.proofs.lemmas.Bool.{cases_lt}
use Rattle.std.proofs.lemmas.Bool.Decides.{nat_tests}
use Rattle.std.specs.Prelude.{nat_eq, nat_lt}
use Rattle.std.specs.List.{AllByRecursion, Contains}
use Rattle.hr_base.specs.Merge.{first_greatest, greater_of, is_above, told_by}
use Rattle.hr_base.specs.Status.{code_of}
use Rattle.hr_base.specs.declared.status.Hook.{Hook}
use Rattle.hr_base.specs.declared.status.Status.{Status}
use Rattle.hr_base.specs.declared.status.Status.TheVariants as status
use Rattle.hr_run.specs.Holds.{CoveredBy}
use Rattle.hr_run.specs.State.{status_word}
use Rattle.hr_run.proofs.ListLemmas.{there_cases, there_later}

-- a pair is below the top one, or is it
pub record Under (top q : ℕ × Status) : Type 0 where
  pub under : (is_above top q ≡ true) ⊎ (q ≡ top)

abbrev Best : ℕ × Status → ℕ × Status → List (ℕ × Status) → ℕ × Status → Type 0
Best top p qs r = (r ≡ top) ⊎ ((is_above top r ≡ true) × (p ≢ top) × (Contains qs top → ⊥))

above_not : (m c n d : ℕ) → (nat_lt n m || (nat_eq n m && nat_lt d c)) ≡ true → (nat_lt m n || (nat_eq m n && nat_lt c d)) ≡ false
above_not m c n d h = grind (arith, nat_tests)

above_self : (m c : ℕ) → (nat_lt m m || (nat_eq m m && nat_lt c c)) ≡ false
above_self m c = grind (arith, nat_tests)

not_both : (p : ℕ × Status) → is_above p p ≡ true → ⊥
not_both p e = let k = sym e ∙ above_self p.0 (code_of p.1) in cc

pick : (p r : ℕ × Status) (b : Bool) → is_above r p ≡ b → greater_of p r ≡ cond b r p
pick p r b e = rw e refl

not_top : (top p : ℕ × Status) → is_above top p ≡ true → p ≢ top
not_top top p a e = let A : ℕ × Status → Type 0 = λ v. is_above top v ≡ true in not_both top (subst A e a)

above_one : (top p r : ℕ × Status) (b : Bool) → is_above top p ≡ true → is_above top r ≡ true → is_above top (cond b r p) ≡ true
above_one top p r true a b = b
above_one top p r false a b = a

best_other : (top p q r : ℕ × Status) (qs : List (ℕ × Status)) → is_above top p ≡ true
    → (is_above top r ≡ true) × (q ≢ top) × (Contains qs top → ⊥) → (b : Bool) → is_above r p ≡ b → Best top p (q ∷ qs) (greater_of p r)
best_other top p q r qs above other b e =
    let none : Contains (q ∷ qs) top → ⊥ = λ c. elim (there_cases q top qs c) [ inl k ↦ other.1 k | inr k ↦ other.2 k ] in
    let A : ℕ × Status → Type 0 = λ v. is_above top v ≡ true in
    inr (subst A (sym (pick p r b e)) (above_one top p r b above other.0), not_top top p above, none)

best_more : (top p q r : ℕ × Status) (qs : List (ℕ × Status)) → Under top p → Best top q qs r → Best top p (q ∷ qs) (greater_of p r)
best_more top p q r qs h b = elim b [
  | inl is ↦ elim h.under [
    | inl above ↦ (let A : ℕ × Status → Type 0 = λ v. is_above v p ≡ true in inl (pick p r true (subst A (sym is) above) ∙ is))
    | inr same ↦ (let A : ℕ × Status → ℕ × Status → Type 0 = λ v w. is_above v w ≡ false in
        let B : ℕ × Status → Type 0 = λ v. A v p in let C : ℕ × Status → Type 0 = λ v. A top v in
        inl (pick p r false (subst B (sym is) (subst C (sym same) (above_self top.0 (code_of top.1)))) ∙ same))
  ]
  | inr other ↦ elim h.under [
    | inl above ↦ best_other top p q r qs above other (is_above r p) refl
    | inr same ↦ (let A : ℕ × Status → Type 0 = λ v. is_above r v ≡ false in
        inl (pick p r false (subst A (sym same) (above_not top.0 (code_of top.1) r.0 (code_of r.1) other.0)) ∙ same))
  ]
]

best : (top p : ℕ × Status) (qs : List (ℕ × Status)) → Under top p → AllByRecursion (Under top) qs → Best top p qs (first_greatest p qs)
unfolding first_greatest
best top p [] h a = elim h.under [
  | inl above ↦ inr (above, not_top top p above, λ c. omega (arith, c.1))
  | inr same ↦ inl same
]
best top p (q ∷ qs) h a = best_more top p q (first_greatest q qs) qs h (best top q qs a.0 a.1)

pub best_is : (top p : ℕ × Status) (qs : List (ℕ × Status)) → Under top p → AllByRecursion (Under top) qs → Contains qs top
    → first_greatest p qs ≡ top
best_is top p qs h a c = elim (best top p qs h a) [
  | inl is ↦ is
  | inr other ↦ absurd (other.2 c)
]

-- ---- what is below a final pair

pub final_code : (st : Status) → 4 ≤ status_word st → code_of st ≡ 3
final_code status.Pending f = absurd (omega (arith, f))
final_code status.Scheduled f = absurd (omega (arith, f))
final_code status.Running f = absurd (omega (arith, f))
final_code status.Stopped f = refl
final_code status.Error f = refl
final_code status.Success f = refl

pub word_status : (a b : Status) → 4 ≤ status_word a → status_word a ≡ status_word b → a ≡ b
word_status status.Stopped status.Stopped f e = refl
word_status status.Error status.Error f e = refl
word_status status.Success status.Success f e = refl
word_status a b f e = absurd (omega (arith, f, e))

pub covers_zero : (st : Status) → CoveredBy st 0 → ⊥
covers_zero status.Pending c = omega (arith, c)
covers_zero status.Scheduled c = omega (arith, c)
covers_zero status.Running c = omega (arith, c)
covers_zero status.Stopped c = omega (arith, c)
covers_zero status.Error c = omega (arith, c)
covers_zero status.Success c = omega (arith, c)

-- a status of a lower code than a final one, or that one
pub covers_final : (st top : Status) → 4 ≤ status_word top → CoveredBy st (status_word top) → (code_of st < 3) ⊎ (st ≡ top)
covers_final status.Pending top f c = inl (omega arith)
covers_final status.Scheduled top f c = inl (omega arith)
covers_final status.Running top f c = inl (omega arith)
covers_final status.Stopped top f c = inr (sym (word_status top status.Stopped f c))
covers_final status.Error top f c = inr (sym (word_status top status.Error f c))
covers_final status.Success top f c = inr (sym (word_status top status.Success f c))

pub above_lower : (m c n d : ℕ) → n < m → (nat_lt n m || (nat_eq n m && nat_lt d c)) ≡ true
above_lower m c n d h = grind (arith, nat_tests)

pub above_code : (m c n d : ℕ) → n ≡ m → d < c → (nat_lt n m || (nat_eq n m && nat_lt d c)) ≡ true
above_code m c n d h k = grind (arith, nat_tests)

abbrev pub pair : ℕ → Status → ℕ × Status
pair a p = (a, p)

pub pair_is : (a b : ℕ) (p q : Status) → a ≡ b → p ≡ q → pair a p ≡ pair b q
pair_is a b p q e f = let F : ℕ → ℕ × Status = λ v. (v, p) in let G : Status → ℕ × Status = λ v. (b, v) in ap F e ∙ ap G f

pub pending_under : (row : ℕ × Status) → 4 ≤ status_word row.1 → Under row (0, status.Pending)
pending_under row f = record {
  under = elim (cases_lt 0 row.0) [
    | inl l ↦ inl (above_lower row.0 (code_of row.1) 0 0 l)
    | inr l ↦ inl (above_code row.0 (code_of row.1) 0 0 (omega (arith, l)) (omega (arith, final_code row.1 f)))
  ];
}

pub told_there : (hs : List Hook) (h : Hook) → Contains hs h → Contains (map told_by hs) (told_by h)
told_there [] h c = absurd (omega (arith, c.1))
told_there (x ∷ xs) h (zero, l, e) = (0, omega arith, ap told_by e)
told_there (x ∷ xs) h (suc k, l, e) = there_later (told_by x) (told_by h) (map told_by xs) (told_there xs h (k, omega (arith, l), e))
