-- Lemmas on plans: what is left of them after an operation, and what their changes do to a content.
use Rattle.std.proofs.Common.{◌≡◌, ◌≤◌, ◌+◌, ◌-◌, ◌^◌, ◌++◌, ℕ, Bool, true, false, min, ◌<◌, refl, sym, ap, subst, ◌∙◌, List, [], ◌∷◌, take, length, get_or, suc, zero, IsTrue, arith}
use Rattle.std.specs.Prelude.{◌||◌, ◌&&◌, not, nat_eq, nat_le, if◌then◌else◌, Option}
use Rattle.std.specs.List.{list_any}
use Rattle.std.proofs.lemmas.Bool.Decides.{nat_tests}
use Rattle.std.proofs.lemmas.List.{take_more}
use Rattle.hr_adapter.specs.Content.{Content, with_tag}
use Rattle.hr_adapter.specs.Plan.{Plan, fails_at, fails_next, moved_at, moved_next, next_operation, went_on, will_fail, will_move}
use Rattle.hr_adapter.specs.Reg.{Retagged, Writing, end_fails}
use Rattle.hr_adapter.specs.declared.plan.Change.{Change}
use Rattle.hr_adapter.specs.declared.plan.Planned.{Planned}
use Rattle.hr_adapter.proofs.HonestLaws.{Retagged-itself, Retagged-then, Retagged-with_tag}
use Rattle.hr_memreg.specs.Shown.{number_after}

-- ---- tests of lists

or_false : (b c : Bool) → (b || c) ≡ false → (b ≡ false) × (c ≡ false)
or_false true c h = cc
or_false false c h = (refl, h)

false_back : (p q : Bool) → (q ≡ true → p ≡ true) → p ≡ false → q ≡ false
false_back p true more h = let t : p ≡ true = more refl in cc
false_back p false more h = refl

or_both : (b c : Bool) → b ≡ false → c ≡ false → (b || c) ≡ false
or_both true c h k = h
or_both false c h k = k

-- where none passes a test, none passes a stronger one
pub any_weaker : {X : Type 0} (p q : X → Bool) → ((x : X) → q x ≡ true → p x ≡ true) → (xs : List X)
    → list_any p xs ≡ false → list_any q xs ≡ false
any_weaker p q more [] h = refl
any_weaker p q more (x ∷ xs) h =
    let parts = or_false (p x) (list_any p xs) h in
    or_both (q x) (list_any q xs) (false_back (p x) (q x) (more x) parts.0) (any_weaker p q more xs parts.1)

pub eq_le : (a n : ℕ) → nat_eq a n ≡ true → nat_le n a ≡ true
eq_le a n h = grind (arith, nat_tests)

pub le_le : (a b n : ℕ) → a ≤ b → nat_le b n ≡ true → nat_le a n ≡ true
le_le a b n less h = grind (arith, nat_tests)

pub number_later : (n : ℕ) → number_after n ≤ number_after (number_after n)
number_later n = omega arith

pub next_later : (p : Plan) → next_operation p ≤ next_operation (went_on p)
next_later p = number_later p.operations

not_true : (b : Bool) → IsTrue (not b) → b ≡ false
not_true true h = cc
not_true false h = refl

not_false : (b : Bool) → b ≡ false → IsTrue (not b)
not_false true h = cc
not_false false h = refl

-- ---- changes to come

pub quiet_on : (p : Plan) → IsTrue (not (will_move p)) → IsTrue (not (will_move (went_on p)))
quiet_on p h =
    not_false (will_move (went_on p))
    (any_weaker (λ (m : Change). nat_le (next_operation p) m.op) (λ (m : Change). nat_le (next_operation (went_on p)) m.op)
    (λ m is. le_le (next_operation p) (next_operation (went_on p)) m.op (next_later p) is) p.moves (not_true (will_move p) h))

-- ---- faults to come

pub fails_to_come : (p : Plan) → will_fail p ≡ false → fails_next p ≡ false
fails_to_come p h =
    any_weaker (λ (f : Planned). nat_le (next_operation p) f.op) (λ (f : Planned). nat_eq f.op (next_operation p))
    (λ f is. eq_le f.op (next_operation p) is) p.failing h

pub fails_on : (p : Plan) → will_fail p ≡ false → will_fail (went_on p) ≡ false
fails_on p h =
    any_weaker (λ (f : Planned). nat_le (next_operation p) f.op) (λ (f : Planned). nat_le (next_operation (went_on p)) f.op)
    (λ f is. le_le (next_operation p) (next_operation (went_on p)) f.op (next_later p) is) p.failing h

-- ---- what changes do

pub moved_more : (n : ℕ) (xs : List Change) (m : Change) (c : Content)
    → moved_at n (xs ++ m ∷ []) c ≡ moved_at n (m ∷ []) (moved_at n xs c)
moved_more n [] m c = refl
moved_more n (x ∷ xs) m c = moved_more n xs m (if nat_eq x.op n then with_tag c x.repo x.tag x.digest else c)

pub one_retagged : (b : Bool) (base c : Content) (m : Change) → Retagged base c
    → Retagged base (if b then with_tag c m.repo m.tag m.digest else c)
one_retagged true base c m h =
    Retagged-then base c (with_tag c m.repo m.tag m.digest) h (Retagged-with_tag c m.repo m.tag m.digest)
one_retagged false base c m h = h

retagged_from : (n : ℕ) (ms : List Change) (base c : Content) → Retagged base c → Retagged base (moved_at n ms c)
retagged_from n [] base c h = h
retagged_from n (m ∷ ms) base c h =
    retagged_from n ms base (if nat_eq m.op n then with_tag c m.repo m.tag m.digest else c)
    (one_retagged (nat_eq m.op n) base c m h)

-- changes move tags, and leave all else
pub Retagged-moved_at : (n : ℕ) (ms : List Change) (c : Content) → Retagged c (moved_at n ms c)
Retagged-moved_at n ms c = retagged_from n ms c c (Retagged-itself c)

-- where no change is for that operation, the content stays
pub moved_none : (n : ℕ) (ms : List Change) (c : Content) → list_any (λ (m : Change). nat_eq m.op n) ms ≡ false
    → moved_at n ms c ≡ c
moved_none n [] c h = refl
moved_none n (m ∷ ms) c h =
    let parts = or_false (nat_eq m.op n) (list_any (λ (m : Change). nat_eq m.op n) ms) h in
    ap (λ (b : Bool). moved_at n ms (if b then with_tag c m.repo m.tag m.digest else c)) parts.0
    ∙ moved_none n ms c parts.1

take_none : {X : Type 0} (p : X → Bool) (k : ℕ) (xs : List X) → list_any p xs ≡ false → list_any p (take k xs) ≡ false
take_none p zero xs h = refl
take_none p (suc k) [] h = refl
take_none p (suc k) (x ∷ xs) h =
    let parts = or_false (p x) (list_any p xs) h in
    or_both (p x) (list_any p (take k xs)) parts.0 (take_none p k xs parts.1)

-- of a registry without changes to come none is made, nor a front of them
pub front_none : (p : Plan) (k : ℕ) (c : Content) → IsTrue (not (will_move p))
    → moved_at (next_operation p) (take k p.moves) c ≡ c
front_none p k c h =
    moved_none (next_operation p) (take k p.moves) c
    (take_none (λ (m : Change). nat_eq m.op (next_operation p)) k p.moves
    (any_weaker (λ (m : Change). nat_le (next_operation p) m.op) (λ (m : Change). nat_eq m.op (next_operation p))
    (λ m is. eq_le m.op (next_operation p) is) p.moves (not_true (will_move p) h)))

pub moved_next-quiet : (p : Plan) (c : Content) → IsTrue (not (will_move p)) → moved_next p c ≡ c
moved_next-quiet p c h =
    moved_none (next_operation p) p.moves c
    (any_weaker (λ (m : Change). nat_le (next_operation p) m.op) (λ (m : Change). nat_eq m.op (next_operation p))
    (λ m is. eq_le m.op (next_operation p) is) p.moves (not_true (will_move p) h))

-- ---- whether it can fail

-- no planned fault is left, and the end of the writing doesn't fail
abbrev pub is_sure : Plan → Option Writing → Bool
is_sure p w = not (will_fail p) && not (end_fails p w)

both_not : (a b : Bool) → IsTrue (not a && not b) → (a ≡ false) × (b ≡ false)
both_not true b h = cc
both_not false true h = cc
both_not false false h = (refl, refl)

not_both : (a b : Bool) → a ≡ false → b ≡ false → IsTrue (not a && not b)
not_both true b h k = cc
not_both false true h k = cc
not_both false false h k = refl

pub sure_parts : (p : Plan) (w : Option Writing) → IsTrue (is_sure p w) → (will_fail p ≡ false) × (end_fails p w ≡ false)
sure_parts p w h = both_not (will_fail p) (end_fails p w) h

pub sure_of_parts : (p : Plan) (w : Option Writing) → will_fail p ≡ false → end_fails p w ≡ false → IsTrue (is_sure p w)
sure_of_parts p w h k = not_both (will_fail p) (end_fails p w) h k

pub sure_on : (p : Plan) (w : Option Writing) → IsTrue (is_sure p w) → IsTrue (is_sure (went_on p) w)
sure_on p w h =
    let parts = sure_parts p w h in
    sure_of_parts (went_on p) w (fails_on p parts.0) parts.1

-- ---- one change after another

eq_true : (a n : ℕ) → a ≡ n → nat_eq a n ≡ true
eq_true a n e = grind (arith, nat_tests)

eq_false : (a n : ℕ) → (a ≡ n → ⊥) → nat_eq a n ≡ false
eq_false a n e = grind (arith, nat_tests)

moved_next_one : (n i : ℕ) (ms : List Change) (m : Change) (c before after : Content) → i < length ms → m ≡ get_or ms i m
    → before ≡ moved_at n (take i ms) c → after ≡ moved_at n (m ∷ []) before → after ≡ moved_at n (take (i + 1) ms) c
moved_next_one n i ms m c before after within is made step =
    step ∙ ap (moved_at n (m ∷ [])) made ∙ sym (moved_more n (take i ms) m c)
    ∙ ap (λ (xs : List Change). moved_at n xs c)
    (ap (λ (x : Change). take i ms ++ x ∷ []) is ∙ sym (take_more ms i m within))

-- a change for this operation is made
pub moved_due : (n i : ℕ) (ms : List Change) (m : Change) (c before after : Content) → i < length ms → m ≡ get_or ms i m
    → before ≡ moved_at n (take i ms) c → m.op ≡ n → after ≡ with_tag before m.repo m.tag m.digest
    → after ≡ moved_at n (take (i + 1) ms) c
moved_due n i ms m c before after within is made due step =
    moved_next_one n i ms m c before after within is made
    (step ∙ ap (λ (b : Bool). if b then with_tag before m.repo m.tag m.digest else before) (sym (eq_true m.op n due)))

-- a change for another operation is not
pub moved_not_due : (n i : ℕ) (ms : List Change) (m : Change) (c before after : Content) → i < length ms → m ≡ get_or ms i m
    → before ≡ moved_at n (take i ms) c → (m.op ≡ n → ⊥) → after ≡ before
    → after ≡ moved_at n (take (i + 1) ms) c
moved_not_due n i ms m c before after within is made due step =
    moved_next_one n i ms m c before after within is made
    (step ∙ ap (λ (b : Bool). if b then with_tag before m.repo m.tag m.digest else before) (sym (eq_false m.op n due)))
