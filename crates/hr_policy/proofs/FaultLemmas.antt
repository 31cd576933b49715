-- Numbers that stand in lists and in sets.
use Rattle.std.proofs.Common.{◌≡◌, ◌≢◌, ◌<◌, ◌≤◌, ◌+◌, nat_lt, tests, ◌==◌, ◌||◌, ℕ, Bool, true, false, cond, List, [], ◌∷◌, length, get_or, take, drop, inl, inr, ◌⊎◌, refl, sym, ap, ◌∙◌, arith, rules, add-one, drop-cons}
use Rattle.std.specs.Ordering.{nat_cmp}
use Rattle.std.specs.BTreeMap.{is_at}
use Rattle.std.specs.Cmp.{nat_cmp_is}
use Rattle.std.specs.declared.cmp.Ordering.TheVariants.{Less, Equal, Greater}
use Rattle.std.proofs.lemmas.Bool.Decides.{eqb_tells}
use Rattle.std.proofs.Math.Dec.{eqb}
use Rattle.std.proofs.lemmas.List.Folds.{list_any_more}
use Rattle.hr_policy.specs.Fault.{first_such, repeated, stands}

pub first_such-same : (t u : ℕ → Bool) → ((n : ℕ) → t n ≡ u n) → (ns : List ℕ) → first_such t ns ≡ first_such u ns
first_such-same t u same [] = refl
first_such-same t u same (n ∷ ns) = rw (same n, first_such-same t u same ns) refl

pub first_such-later : (test : ℕ → Bool) (ns : List ℕ) (i : ℕ) → i < length ns → test (get_or ns i 0) ≡ false → first_such test (drop i ns) ≡ first_such test (drop (i + 1) ns)
first_such-later test ns i h e = rw (add-one, drop-cons ns i 0) (rw e refl)

at-less : (k q : ℕ) → Less ≡ nat_cmp k q → is_at (nat_cmp k) q ≡ false
at-less k q e = rw (← e) refl

at-greater : (k q : ℕ) → Greater ≡ nat_cmp k q → is_at (nat_cmp k) q ≡ false
at-greater k q e = rw (← e) refl

at-same : (k q : ℕ) → Equal ≡ nat_cmp k q → is_at (nat_cmp k) q ≡ true
at-same k q e = rw (← e) refl

unlike : (k q : ℕ) → (k < q) ⊎ (q < k) → is_at (nat_cmp k) q ≡ false
unlike k q (inl h) = at-less k q (nat_cmp_is k q Less h)
unlike k q (inr h) = at-greater k q (nat_cmp_is k q Greater h)

apart-by : (k q : ℕ) (b : Bool) → nat_lt k q ≡ b → k ≢ q → (k < q) ⊎ (q < k)
apart-by k q true e h = inl (search (rules, tests))
apart-by k q false e h = inr (let ge : q ≤ k = search (rules, tests) in omega (arith, ge, h))

apart : (k q : ℕ) → k ≢ q → (k < q) ⊎ (q < k)
apart k q h = apart-by k q (nat_lt k q) refl h

at-by : (k q : ℕ) → ((eqb k q ≡ true) × (k ≡ q)) ⊎ ((eqb k q ≡ false) × (k ≢ q)) → is_at (nat_cmp k) q ≡ eqb k q
at-by k q (inl t) = at-same k q (nat_cmp_is k q Equal t.1) ∙ sym t.0
at-by k q (inr t) = unlike k q (apart k q t.1) ∙ sym t.0

at-eq : (k q : ℕ) → is_at (nat_cmp k) q ≡ eqb k q
at-eq k q = at-by k q (eqb_tells k q)

by-bool : (b x : Bool) → cond b true x ≡ (b || x)
by-bool true x = refl
by-bool false x = refl

pub cond-or : (k q : ℕ) (x : Bool) → cond (is_at (nat_cmp k) q) true x ≡ ((k == q) || x)
cond-or k q x = rw (at-eq k q) (by-bool (k == q) x)

pub stands-more : (numbers : List ℕ) (i q : ℕ) → i < length numbers → stands (take (i + 1) numbers) q ≡ (stands (take i numbers) q || (get_or numbers i 0 == q))
stands-more numbers i q h = list_any_more (λ m. m == q) numbers i 0 h

pub repeated-later : (seen ns : List ℕ) (i : ℕ) → i < length ns → stands seen (get_or ns i 0) ≡ false → repeated seen (drop i ns) ≡ repeated (get_or ns i 0 ∷ seen) (drop (i + 1) ns)
repeated-later seen ns i h e = rw (add-one, drop-cons ns i 0) (rw e refl)

turned : (a b : Bool) → (a || b) ≡ (b || a)
turned true true = refl
turned true false = refl
turned false true = refl
turned false false = refl

-- a set that has the numbers so far has one more
pub set-more : (k q : ℕ) (was is : Bool) (numbers : List ℕ) (i : ℕ) → i < length numbers → k ≡ get_or numbers i 0 → is ≡ cond (is_at (nat_cmp k) q) true was → was ≡ stands (take i numbers) q → is ≡ stands (take (i + 1) numbers) q
set-more k q was is numbers i h same updated before =
    updated ∙ cond-or k q was ∙ turned (eqb k q) was ∙ ap (λ b. b || eqb k q) before ∙ ap (λ n. stands (take i numbers) q || eqb n q) same ∙ sym (stands-more numbers i q h)

-- the same for a list that grows at its front
pub seen-more : (k q : ℕ) (was is : Bool) (seen : List ℕ) → is ≡ cond (is_at (nat_cmp k) q) true was → was ≡ stands seen q → is ≡ stands (k ∷ seen) q
seen-more k q was is seen updated before = updated ∙ cond-or k q was ∙ ap (λ b. eqb k q || b) before
