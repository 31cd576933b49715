-- Lemmas on the words of specs/Merge.antt.
use Rattle.std.proofs.Common.{◌≡◌, ℕ, ◌+◌, ◌*◌, ◌<◌, ◌≤◌, true, false, ◌&&◌, ◌||◌, ltb, eqb, ◌⊎◌, inl, inr, List, [], ◌∷◌, ◌++◌, map, length, take, get_or, refl, sym, ap, ◌∙◌, subst, arith}
use Rattle.std.specs.List.{All, AllByRecursion, Contains}
use Rattle.std.proofs.lemmas.List.{map-append, take_more}
use Rattle.std.proofs.lemmas.Bool.Decides.{nat_tests}
use Rattle.std.proofs.lemmas.List.Elements.{All-cons, All-nil, All-weaker, All-contains, Contains-append_left, Contains-append_right, Contains-push}
use Rattle.hr_base.specs.declared.status.Status.{Status}
use Rattle.hr_base.specs.declared.status.Status.TheVariants.{Pending, Scheduled, Running, Stopped, Error, Success}
use Rattle.hr_base.specs.declared.status.Hook.{Hook}
use Rattle.hr_base.specs.Status.{code_of, IsFinal}
use Rattle.hr_base.specs.Merge.{told_by, is_above, greater_of, first_greatest, joined, IsFirstGreatest, SameMembers, OneFinalEach}

-- a pair by one number: the revision first, and then the code
abbrev pub rank : ℕ × Status → ℕ
rank p = 4 * p.0 + code_of p.1

pub code-small : (s : Status) → code_of s ≤ 3
code-small Pending = omega arith
code-small Scheduled = omega arith
code-small Running = omega arith
code-small Stopped = omega arith
code-small Error = omega arith
code-small Success = omega arith

above_at_true : (m n c d : ℕ) → c ≤ 3 → d ≤ 3 → (ltb n m || (eqb n m && ltb d c)) ≡ true
    → 4 * n + d < 4 * m + c
above_at_true m n c d h k e = grind (arith, nat_tests)

above_at_false : (m n c d : ℕ) → c ≤ 3 → d ≤ 3 → (ltb n m || (eqb n m && ltb d c)) ≡ false
    → 4 * m + c ≤ 4 * n + d
above_at_false m n c d h k e = grind (arith, nat_tests)

-- a pair is above another exactly where its rank is
pub above_ranks : (p q : ℕ × Status) → is_above p q ≡ true → rank q < rank p
above_ranks p q e = above_at_true p.0 q.0 _ _ (code-small p.1) (code-small q.1) e

pub not_above_ranks : (p q : ℕ × Status) → is_above p q ≡ false → rank p ≤ rank q
not_above_ranks p q e = above_at_false p.0 q.0 _ _ (code-small p.1) (code-small q.1) e

above_cases : (p q : ℕ × Status) → (is_above p q ≡ true) ⊎ (is_above p q ≡ false)
above_cases p q = elim (is_above p q) as (λ b. (b ≡ true) ⊎ (b ≡ false)) [ true ↦ inl refl | false ↦ inr refl ]

pub above-from_ranks : (p q : ℕ × Status) → rank q < rank p → is_above p q ≡ true
above-from_ranks p q h =
    elim (above_cases p q) [ inl e ↦ e | inr e ↦ absurd (omega (arith, not_above_ranks p q e)) ]

pub not_above-from_ranks : (p q : ℕ × Status) → rank p ≤ rank q → is_above p q ≡ false
not_above-from_ranks p q h =
    elim (above_cases p q) [ inl e ↦ absurd (omega (arith, above_ranks p q e)) | inr e ↦ e ]

-- the greater of two, by cases
pub greater-second : (p q : ℕ × Status) → is_above q p ≡ true → greater_of p q ≡ q
greater-second p q e = rw e

pub greater-first : (p q : ℕ × Status) → is_above q p ≡ false → greater_of p q ≡ p
greater-first p q e = rw e

-- a list's first greatest pair, taken in turn
pub greater-assoc : (p q r : ℕ × Status) → greater_of p (greater_of q r) ≡ greater_of (greater_of p q) r
greater-assoc p q r = elim (above_cases r q) [
  | inl a ↦ elim (above_cases q p) [
    | inl b ↦ rw (
      greater-second q r a,
      greater-second p q b,
      greater-second q r a,
      greater-second p r (above-from_ranks r p (omega (arith, above_ranks r q a, above_ranks q p b))),
    )
    | inr b ↦ rw (greater-second q r a, greater-first p q b)
  ]
  | inr a ↦ elim (above_cases q p) [
    | inl b ↦ rw (greater-first q r a, greater-second p q b, greater-first q r a)
    | inr b ↦ rw (
      greater-first q r a,
      greater-first p q b,
      greater-first p r (not_above-from_ranks r p (omega (arith, not_above_ranks r q a, not_above_ranks q p b))),
    )
  ]
]

pub first_greatest-push : (p : ℕ × Status) (qs : List (ℕ × Status)) (h : ℕ × Status)
    → first_greatest p (qs ++ h ∷ []) ≡ greater_of (first_greatest p qs) h
unfolding first_greatest
first_greatest-push p [] h = refl
first_greatest-push p (q ∷ qs) h =
    ap (greater_of p) (first_greatest-push q qs h) ∙ greater-assoc p (first_greatest q qs) h

pub joined-push : (hooks : List Hook) (hook : Hook)
    → joined (hooks ++ hook ∷ []) ≡ greater_of (joined hooks) (told_by hook)
joined-push hooks hook = rw (map-append told_by hooks (hook ∷ [])) (first_greatest-push _ _ _)

-- one hook more, by a loop over them
pub joined_more : (hooks : List Hook) (i : ℕ) (d : Hook) (known : ℕ × Status) → i < length hooks
    → known ≡ joined (take i hooks) → greater_of known (told_by (get_or hooks i d)) ≡ joined (take (i + 1) hooks)
joined_more hooks i d known h e = rw (take_more hooks i d h, joined-push (take i hooks) (get_or hooks i d), e) refl

all_weaker : {X : Type 0} (P Q : X → Type 0) → ((x : X) → P x → Q x) → (xs : List X)
    → AllByRecursion P xs → AllByRecursion Q xs
all_weaker P Q f [] h = tt
all_weaker P Q f (x ∷ xs) h = (f x h.0, all_weaker P Q f xs h.1)

all_joined : {X : Type 0} (P : X → Type 0) (xs : List X) (y : X) (ys : List X)
    → AllByRecursion P xs → P y → AllByRecursion P ys → AllByRecursion P (xs ++ y ∷ ys)
all_joined P [] y ys h k l = (k, l)
all_joined P (x ∷ xs) y ys h k l = (h.0, all_joined P xs y ys h.1 k l)

-- the first greatest of the rest, below a pair above which it is not
none_above : (p : ℕ × Status) (qs : List (ℕ × Status)) (r : ℕ × Status) → IsFirstGreatest qs r
    → is_above r p ≡ false → AllByRecursion (λ q. is_above q p ≡ false) qs
none_above p qs r h e =
    let P : ℕ × Status → Type 0 = λ q. is_above q p ≡ false in
    let first = all_weaker (λ q. is_above r q ≡ true) P
    (λ q a. not_above-from_ranks q p (omega (arith, above_ranks r q a, not_above_ranks r p e))) h.before h.first in
    let rest = all_weaker (λ q. is_above q r ≡ false) P
    (λ q a. not_above-from_ranks q p (omega (arith, not_above_ranks q r a, not_above_ranks r p e))) h.after h.greatest in
    rw h.there (all_joined P h.before r h.after first e rest)

pub first_greatest-is : (p : ℕ × Status) (qs : List (ℕ × Status)) → IsFirstGreatest (p ∷ qs) (first_greatest p qs)
unfolding first_greatest
first_greatest-is p [] = record { before = []; after = []; there = refl; first = tt; greatest = tt }
first_greatest-is p (q ∷ qs) =
    let rest : IsFirstGreatest (q ∷ qs) (first_greatest q qs) = first_greatest-is q qs in
    elim (above_cases (first_greatest q qs) p) [
      | inl e ↦ rw (greater-second p (first_greatest q qs) e) (record {
        before = p ∷ rest.before;
        after = rest.after;
        there = ap (λ xs. p ∷ xs) rest.there;
        first = (e, rest.first);
        greatest = rest.greatest;
      })
      | inr e ↦ rw (greater-first p (first_greatest q qs) e) (record {
        before = [];
        after = q ∷ qs;
        there = refl;
        first = tt;
        greatest = none_above p (q ∷ qs) (first_greatest q qs) rest e;
      })
    ]

-- the join is what is known first, or what some hook tells
pub came_from : (p : ℕ × Status) (hooks : List Hook)
    → (first_greatest p (map told_by hooks) ≡ p)
    ⊎ ((hook : Hook) × Contains hooks hook × (first_greatest p (map told_by hooks) ≡ told_by hook))
unfolding first_greatest
came_from p [] = inl refl
came_from p (h ∷ hs) =
    elim (above_cases (first_greatest (told_by h) (map told_by hs)) p) [
      | inr e ↦ inl (greater-first p _ e)
      | inl e ↦ let eq : greater_of p (first_greatest (told_by h) (map told_by hs)) ≡ first_greatest (told_by h) (map told_by hs)
          = greater-second p _ e in
          elim (came_from (told_by h) hs) [
            | inl f ↦ inr (h, Contains-append_left (h ∷ []) hs h (Contains-push [] h), eq ∙ f)
            | inr f ↦ inr (f.0, Contains-append_right (h ∷ []) hs f.0 f.1, eq ∙ f.2)
          ]
    ]

greater-ranks : (p q : ℕ × Status) → (rank p ≤ rank (greater_of p q)) × (rank q ≤ rank (greater_of p q))
greater-ranks p q = elim (above_cases q p) [
  | inl e ↦ rw (greater-second p q e) (omega (arith, above_ranks q p e), omega arith)
  | inr e ↦ rw (greater-first p q e) (omega arith, omega (arith, not_above_ranks q p e))
]

-- the join is at least what is known first, and what each hook tells
pub at_least_first : (p : ℕ × Status) (qs : List (ℕ × Status)) → rank p ≤ rank (first_greatest p qs)
unfolding first_greatest
at_least_first p [] = omega arith
at_least_first p (q ∷ qs) = (greater-ranks p (first_greatest q qs)).0

pub at_least_each : (p : ℕ × Status) (hooks : List Hook)
    → All (λ hook. rank (told_by hook) ≤ rank (first_greatest p (map told_by hooks))) hooks
unfolding first_greatest
at_least_each p [] = All-nil _
at_least_each p (h ∷ hs) =
    let r : ℕ × Status = first_greatest (told_by h) (map told_by hs) in
    let P : Hook → Type 0 = λ hook. rank (told_by hook) ≤ rank (greater_of p r) in
    All-cons P h hs
    (omega (arith, at_least_first (told_by h) (map told_by hs), (greater-ranks p r).1))
    (All-weaker (λ hook. rank (told_by hook) ≤ rank r) P
    (λ hook k. omega (arith, k, (greater-ranks p r).1)) hs (at_least_each (told_by h) hs))

pub joined-again : (hooks : List Hook) (hook : Hook) → Contains hooks hook
    → greater_of (joined hooks) (told_by hook) ≡ joined hooks
joined-again hooks hook h = greater-first (joined hooks) (told_by hook) (not_above-from_ranks (told_by hook) (joined hooks)
    (All-contains (λ hook. rank (told_by hook) ≤ rank (joined hooks)) hooks hook (at_least_each (0, Pending) hooks) h))

-- one list's join is no higher than that of a list with all its members
joined_ranks : (hooks others : List Hook) → ((hook : Hook) → Contains hooks hook → Contains others hook)
    → rank (joined hooks) ≤ rank (joined others)
joined_ranks hooks others within = elim (came_from (0, Pending) hooks) [
  | inl e ↦ rw e (at_least_first (0, Pending) (map told_by others))
  | inr f ↦ rw f.2 (All-contains (λ hook. rank (told_by hook) ≤ rank (joined others)) others f.0
      (at_least_each (0, Pending) others) (within f.0 f.1))
]

-- a code below 3 is that of one status
same_status : (s t : Status) → code_of s ≡ code_of t → (code_of s ≡ 3 → s ≡ t) → s ≡ t
same_status Pending Pending e f = refl
same_status Pending t e f = absurd (omega (arith, e))
same_status Scheduled Scheduled e f = refl
same_status Scheduled t e f = absurd (omega (arith, e))
same_status Running Running e f = refl
same_status Running t e f = absurd (omega (arith, e))
same_status Stopped t e f = f refl
same_status Error t e f = f refl
same_status Success t e f = f refl

same_rank : (p q : ℕ × Status) → rank p ≡ rank q → (p.0 ≡ q.0) × (code_of p.1 ≡ code_of q.1)
same_rank p q e = (omega (arith, code-small p.1, code-small q.1), omega (arith, code-small p.1, code-small q.1))

-- where both joins are final, the hooks that told them have one status
final_alike : (hooks others : List Hook) → SameMembers hooks others → OneFinalEach hooks
    → (joined hooks).0 ≡ (joined others).0 → code_of (joined hooks).1 ≡ 3 → code_of (joined others).1 ≡ 3
    → (joined hooks).1 ≡ (joined others).1
final_alike hooks others same one e f g = elim (came_from (0, Pending) hooks) [
  | inl i ↦ absurd (omega (arith, ap (λ (p : ℕ × Status). code_of p.1) i, f))
  | inr h ↦ elim (came_from (0, Pending) others) [
    | inl i ↦ absurd (omega (arith, ap (λ (p : ℕ × Status). code_of p.1) i, g))
    | inr k ↦
        let P : ℕ × Status → ℕ = λ p. p.0 in
        let S : ℕ × Status → Status = λ p. p.1 in
        let revs : h.0.rev ≡ k.0.rev = sym (ap P h.2) ∙ e ∙ ap P k.2 in
        let F : ℕ × Status → Type 0 = λ p. IsFinal p.1 in
        ap S h.2 ∙ one h.0 k.0 h.1 ((same k.0).1 k.1) revs (subst F h.2 f) (subst F k.2 g) ∙ sym (ap S k.2)
  ]
]

pair_alike : (p q : ℕ × Status) → p.0 ≡ q.0 → p.1 ≡ q.1 → p ≡ q
pair_alike (a, b) (c, d) e f = cc

pub joined_alike : (hooks others : List Hook) → SameMembers hooks others → OneFinalEach hooks → joined hooks ≡ joined others
joined_alike hooks others same one =
    let alike : rank (joined hooks) ≡ rank (joined others)
    = omega (arith, joined_ranks hooks others (λ hook. (same hook).0), joined_ranks others hooks (λ hook. (same hook).1)) in
    let parts = same_rank (joined hooks) (joined others) alike in
    pair_alike (joined hooks) (joined others) parts.0
    (same_status (joined hooks).1 (joined others).1 parts.1
    (λ f. final_alike hooks others same one parts.0 f (sym parts.1 ∙ f)))
