-- Lemmas on sweeps.
use Rattle.std.proofs.Common.{◌≡◌, ℕ, ◌+◌, ◌<◌, ◌≤◌, Bool, true, false, cond, ◌&&◌, List, [], ◌∷◌, ◌++◌, length, set, slice_get, Option, Some, None, sym, ap, ◌∙◌, subst, inl, inr, arith, rules, suc, zero, refl}
use Rattle.std.proofs.lemmas.Bool.Decides.{eqb_tells}
use Rattle.std.proofs.lemmas.List.{append-nil}
use Rattle.std.proofs.lemmas.List.Sums.{sum_by-cons}
use Rattle.std.specs.Prelude.{nat_eq, nat_le, IsSome, if◌then◌else◌, ◌⊎◌}
use Rattle.std.specs.List.{AllByRecursion}
use Rattle.std.specs.Map.{values_of}
use Rattle.indexmap.specs.IndexMap.{IndexMap, get, set_value_at}
use Rattle.hr_store.specs.Execution.{ExecState, has_ended}
use Rattle.hr_store.specs.Kept.{AreKeyed, execs_in}
use Rattle.hr_store.specs.Marking.{AreCleared, AreMarked, MarksAt, MarksEntries, unmarked}
use Rattle.hr_store.specs.Store.{AreCountable}
use Rattle.hr_store.specs.Sweeping.{AsksAndCounts, ended_of, is_dropped, is_ended_of, kept_by}
use Rattle.hr_store.specs.declared.held.Held.{Held}
use Rattle.hr_store.proofs.KeptLemmas.{execs-get, execs-push, execs-set, held_in, keyed-set}
use Rattle.hr_store.proofs.RowLemmas.{count-length}

abbrev item_in : {X : Type 0} → X → Option X → X
item_in d None = d
item_in d (Some x) = x

length-execs : (es : List (ℕ × Held)) → length (execs_in es) ≡ length es
length-execs [] = refl
length-execs (x ∷ es) = ap suc (length-execs es)

-- the counts of the policies of these executions are those of the newer ones
abbrev pub CountOf : {S : Type 0} → IndexMap ℕ ℕ S → List ExecState → ExecState → Type 0
CountOf counts newer e = get nat_eq counts e.policy.0 ≡ Some (ended_of e.policy.0 newer)

length-both : {X : Type 0} (xs ys : List X) → length (xs ++ ys) ≡ length xs + length ys
length-both [] ys = omega arith
length-both (x ∷ xs) ys = let r = length-both xs ys in omega (arith, r)

length-snoc : {X : Type 0} (xs : List X) (x : X) → length (xs ++ x ∷ []) ≡ length xs + 1
length-snoc xs x = length-both xs (x ∷ [])

append-both : {X : Type 0} (xs ys zs : List X) → (xs ++ ys) ++ zs ≡ xs ++ (ys ++ zs)
append-both [] ys zs = refl
append-both {X = X} (x ∷ xs) ys zs = let C : List X → List X = λ ws. x ∷ ws in ap C (append-both xs ys zs)

all-front : {X : Type 0} (P : X → Type 0) (xs : List X) (x : X) → AllByRecursion P (xs ++ x ∷ []) → AllByRecursion P xs × P x
all-front P [] x a = (tt, a.0)
all-front P (y ∷ ys) x a = let r = all-front P ys x a.1 in ((a.0, r.0), r.1)

bool-is : (b : Bool) → (b ≡ true) ⊎ (b ≡ false)
bool-is true = inl refl
bool-is false = inr refl

abbrev number_of : Option ℕ → ℕ
number_of None = 0
number_of (Some n) = n

some-is : (m n : ℕ) → Some m ≡ Some n → m ≡ n
some-is m n e = let F : Option ℕ → ℕ = λ o. number_of o in ap F e

ended-cons : (p : ℕ) (e : ExecState) (es : List ExecState) → ended_of p (e ∷ es) ≡ cond (is_ended_of p e) 1 0 + ended_of p es
ended-cons p e es = sum_by-cons (λ y. cond (is_ended_of p y) 1 0) e es

-- a count after an execution was counted
count-after : (ended same : Bool) (m n k : ℕ) (was now : Option ℕ) → was ≡ Some m → now ≡ (if ended && same then Some (n + 1) else was) → (same ≡ true → n ≡ m) → k ≡ cond (same && ended) 1 0 + m → now ≡ Some k
count-after true true m n k was now w e s q = let h = s refl in let t : n + 1 ≡ k = omega (arith, h, q) in e ∙ ap Some t
count-after true false m n k was now w e s q = let t : m ≡ k = omega (arith, q) in e ∙ (w ∙ ap Some t)
count-after false true m n k was now w e s q = let t : m ≡ k = omega (arith, q) in e ∙ (w ∙ ap Some t)
count-after false false m n k was now w e s q = let t : m ≡ k = omega (arith, q) in e ∙ (w ∙ ap Some t)

eq-true : (a b : ℕ) → nat_eq a b ≡ true → a ≡ b
eq-true a b e = elim (eqb_tells a b) [ inl q ↦ q.1 | inr q ↦ absurd (let f : true ≡ false = sym e ∙ q.0 in cc) ]

count-step : {S : Type 0} (e u : ExecState) (newer : List ExecState) (keep : ℕ) (old new : IndexMap ℕ ℕ S) (result : Bool) → AsksAndCounts e keep old result new → CountOf old newer e → CountOf old newer u → CountOf new (e ∷ newer) u
count-step e u newer keep old new result c ce cu =
    let n = some-is c.newer (ended_of e.policy.0 newer) (sym c.were ∙ ce) in
    let E : ℕ → ℕ = λ p. ended_of p newer in
    count-after (has_ended e) (nat_eq e.policy.0 u.policy.0) (ended_of u.policy.0 newer) c.newer (ended_of u.policy.0 (e ∷ newer)) (get nat_eq old u.policy.0) (get nat_eq new u.policy.0)
    cu (c.counted u.policy.0) (λ s. n ∙ ap E (eq-true e.policy.0 u.policy.0 s)) (ended-cons u.policy.0 e newer)

counts-step : {S : Type 0} (e : ExecState) (front newer : List ExecState) (keep : ℕ) (old new : IndexMap ℕ ℕ S) (result : Bool) → AsksAndCounts e keep old result new → CountOf old newer e → AllByRecursion (CountOf old newer) front → AllByRecursion (CountOf new (e ∷ newer)) front
counts-step e [] newer keep old new result c ce a = tt
counts-step e (u ∷ us) newer keep old new result c ce a = (count-step e u newer keep old new result c ce a.0, counts-step e us newer keep old new result c ce a.1)

some-after : (b : Bool) (n : ℕ) (was now : Option ℕ) → now ≡ (if b then Some (n + 1) else was) → IsSome was → IsSome now
some-after true n was now e s = rw e (search rules)
some-after false n was now e s = rw e s

others-step : {S : Type 0} (e : ExecState) (keep : ℕ) (old new : IndexMap ℕ ℕ S) (result : Bool) → AsksAndCounts e keep old result new → (p : ℕ) → IsSome (get nat_eq old p) → IsSome (get nat_eq new p)
others-step e keep old new result c p s = some-after (has_ended e && nat_eq e.policy.0 p) c.newer (get nat_eq old p) (get nat_eq new p) (c.counted p) s

answer-is : {S : Type 0} (e : ExecState) (newer : List ExecState) (keep : ℕ) (old new : IndexMap ℕ ℕ S) (result : Bool) → AsksAndCounts e keep old result new → CountOf old newer e → result ≡ is_dropped keep e newer
answer-is e newer keep old new result c ce =
    let n = some-is c.newer (ended_of e.policy.0 newer) (sym c.were ∙ ce) in
    let G : ℕ → Bool = λ m. has_ended e && nat_le keep m in
    c.answer_is ∙ ap G n

-- ---- counts before a sweep

-- the policy of each execution has a count
pub countable-at : {S : Type 0} (counts : IndexMap ℕ ℕ S) (es : List (ℕ × Held)) (i : ℕ) (h : Held) → AreCountable counts (execs_in es) → slice_get (values_of es) i ≡ Some h → IsSome (get nat_eq counts h.execution.policy.0)
countable-at counts [] zero h a e = absurd (cc)
countable-at counts [] (suc i) h a e = absurd (cc)
countable-at counts (x ∷ es) zero h a e = let F : Option Held → Held = λ o. held_in x.1 o in let q = ap F e in let P : Held → Type 0 = λ v. IsSome (get nat_eq counts v.execution.policy.0) in subst P q a.0
countable-at counts (x ∷ es) (suc i) h a e = countable-at counts es i h a.1 e

-- each count is 0 where that of each place is
pub cleared-by : {S : Type 0} (counts : IndexMap ℕ ℕ S) (es : List (ℕ × Held)) → ((i : ℕ) (h : Held) → i < length es → slice_get (values_of es) i ≡ Some h → get nat_eq counts h.execution.policy.0 ≡ Some 0) → AreCleared counts (execs_in es)
cleared-by counts [] f = tt
cleared-by counts (x ∷ es) f = (f 0 x.1 (omega arith) refl, cleared-by counts es (λ i h l e. f (suc i) h (omega (arith, l)) e))

-- ---- how a sweep marks what it drops

-- a list that is not empty, as what stands before its last, and its last
record Snoc {X : Type 0} (xs : List X) : Type 0 where
  pub before : List X
  pub last : X
  pub is : xs ≡ before ++ last ∷ []

snoc-of : {X : Type 0} (xs : List X) → 0 < length xs → Snoc xs
snoc-of [] l = absurd (omega (arith, l))
snoc-of (x ∷ []) l = record { before = []; last = x; is = refl }
snoc-of {X = X} (x ∷ y ∷ ys) l =
    let r = snoc-of (y ∷ ys) (omega arith) in
    let C : List X → List X = λ zs. x ∷ zs in
    record { before = x ∷ r.before; last = r.last; is = ap C r.is }

get-mid : (before newer : List (ℕ × Held)) (x : ℕ × Held) (h : Held) → slice_get (values_of (before ++ x ∷ newer)) (length before) ≡ Some h → x.1 ≡ h
get-mid [] newer x h e = let F : Option Held → Held = λ o. held_in x.1 o in ap F e
get-mid (y ∷ ys) newer x h e = get-mid ys newer x h e

set-mid : (before newer : List (ℕ × Held)) (x : ℕ × Held) (h : Held) → set_value_at (before ++ x ∷ newer) (length before) h ≡ before ++ (x.0, h) ∷ newer
set-mid [] newer x h = refl
set-mid (y ∷ ys) newer x h = let C : List (ℕ × Held) → List (ℕ × Held) = λ zs. y ∷ zs in ap C (set-mid ys newer x h)

set-same : {X : Type 0} (xs : List X) (i : ℕ) (x : X) → slice_get xs i ≡ Some x → set xs i x ≡ xs
set-same [] zero x e = refl
set-same [] (suc i) x e = refl
set-same {X = X} (y ∷ ys) zero x e = let F : Option X → List X = λ o. item_in y o ∷ ys in sym (ap F e)
set-same {X = X} (y ∷ ys) (suc i) x e = let C : List X → List X = λ zs. y ∷ zs in ap C (set-same ys i x e)

-- where a sweep stands: so many entries are left, and the newer ones are marked and counted
pub record Marking {S : Type 0} (keep : ℕ) (all entries : List (ℕ × Held)) (first counts : IndexMap ℕ ℕ S) (left : ℕ) : Type 0 where
  pub front : List (ℕ × Held)
  pub newer : List (ℕ × Held)
  pub split : entries ≡ front ++ newer
  pub left_is : length front ≡ left
  pub same : execs_in entries ≡ execs_in all
  pub keyed : AreKeyed all → AreKeyed entries
  pub marked : AreMarked keep newer
  pub counted : AllByRecursion (CountOf counts (execs_in newer)) (execs_in front)
  pub others : (p : ℕ) → IsSome (get nat_eq first p) → IsSome (get nat_eq counts p)

-- the entry at the place that comes next
record Next {S : Type 0} (keep : ℕ) (entries : List (ℕ × Held)) (counts : IndexMap ℕ ℕ S) (at : ℕ) (h : Held) : Type 0 where
  pub before : List (ℕ × Held)
  pub newer : List (ℕ × Held)
  pub last : ℕ × Held
  pub split : entries ≡ before ++ last ∷ newer
  pub at_is : length before ≡ at
  pub held_is : last.1 ≡ h
  pub marked : AreMarked keep newer
  pub count : CountOf counts (execs_in newer) h.execution
  pub counted : AllByRecursion (CountOf counts (execs_in newer)) (execs_in before)

next-of : {S : Type 0} (keep at left : ℕ) (all entries : List (ℕ × Held)) (first counts : IndexMap ℕ ℕ S) (h : Held) → Marking keep all entries first counts left → left ≡ at + 1
    → slice_get (values_of entries) at ≡ Some h → Next keep entries counts at h
next-of keep at left all entries first counts h m l g =
    let s = snoc-of m.front (let k = m.left_is in omega (arith, k, l)) in
    let n = ap length s.is in
    let k = length-snoc s.before s.last in
    let A : List (ℕ × Held) → List (ℕ × Held) = λ xs. xs ++ m.newer in
    let split : entries ≡ s.before ++ s.last ∷ m.newer = m.split ∙ (ap A s.is ∙ append-both s.before (s.last ∷ []) m.newer) in
    let at_is : length s.before ≡ at = (let q = m.left_is in omega (arith, q, n, k, l)) in
    let P : List (ℕ × Held) → Type 0 = λ es. slice_get (values_of es) at ≡ Some h in
    let Q : ℕ → Type 0 = λ i. slice_get (values_of (s.before ++ s.last ∷ m.newer)) i ≡ Some h in
    let held_is = get-mid s.before m.newer s.last h (subst Q (sym at_is) (subst P split g)) in
    let C : List ExecState → Type 0 = λ es. AllByRecursion (CountOf counts (execs_in m.newer)) es in
    let E : List (ℕ × Held) → List ExecState = λ es. execs_in es in
    let f = all-front (CountOf counts (execs_in m.newer)) (execs_in s.before) s.last.1.execution (subst C (ap E s.is ∙ execs-push s.before s.last) m.counted) in
    let D : Held → Type 0 = λ v. CountOf counts (execs_in m.newer) v.execution in
    record {
      before = s.before;
      newer = m.newer;
      last = s.last;
      split = split;
      at_is = at_is;
      held_is = held_is;
      marked = m.marked;
      count = subst D held_is f.1;
      counted = f.0;
    }

-- the next one was marked
pub mark-next : {S : Type 0} (keep at left : ℕ) (all entries after : List (ℕ × Held)) (first old new : IndexMap ℕ ℕ S) → Marking keep all entries first old left → left ≡ at + 1
    → MarksAt keep at entries old after new → Marking keep all after first new at
mark-next keep at left all entries after first old new m l k =
    let n = next-of keep at left all entries first old k.held m l k.there in
    let w : Held = record k.held { dropped = k.dropped } in
    let F : List (ℕ × Held) → List (ℕ × Held) = λ es. set_value_at es at w in
    let G : ℕ → List (ℕ × Held) = λ i. set_value_at (n.before ++ n.last ∷ n.newer) i w in
    let E : List (ℕ × Held) → List ExecState = λ es. execs_in es in
    let K : List (ℕ × Held) → Type 0 = λ es. AreKeyed es in
    record {
      front = n.before;
      newer = (n.last.0, w) ∷ n.newer;
      split = k.new_is ∙ (ap F n.split ∙ (sym (ap G n.at_is) ∙ set-mid n.before n.newer n.last w));
      left_is = n.at_is;
      same = ap E k.new_is ∙ (execs-set entries at w ∙ (set-same (execs_in entries) at k.held.execution (execs-get entries at k.held k.there) ∙ m.same));
      keyed = λ a. subst K (sym k.new_is) (keyed-set entries at k.held w (m.keyed a) k.there refl);
      marked = (answer-is k.held.execution (execs_in n.newer) keep old new k.dropped k.asks n.count, n.marked);
      counted = counts-step k.held.execution (execs_in n.before) (execs_in n.newer) keep old new k.dropped k.asks n.count n.counted;
      others = λ p q. others-step k.held.execution keep old new k.dropped k.asks p (m.others p q);
    }

-- the policy of the next one has a count
pub next-there : {S : Type 0} (keep at left : ℕ) (all entries : List (ℕ × Held)) (first counts : IndexMap ℕ ℕ S) (h : Held) → Marking keep all entries first counts left → left ≡ at + 1
    → slice_get (values_of entries) at ≡ Some h → IsSome (get nat_eq counts h.execution.policy.0)
next-there keep at left all entries first counts h m l g = let n = next-of keep at left all entries first counts h m l g in rw n.count (search rules)

-- and counts no more than there are
pub next-few : {S : Type 0} (keep at left : ℕ) (all entries : List (ℕ × Held)) (first counts : IndexMap ℕ ℕ S) (h : Held) (c : ℕ) → Marking keep all entries first counts left → left ≡ at + 1
    → slice_get (values_of entries) at ≡ Some h → get nat_eq counts h.execution.policy.0 ≡ Some c → c < length all
next-few keep at left all entries first counts h c m l g e =
    let n = next-of keep at left all entries first counts h m l g in
    let s = some-is c (ended_of h.execution.policy.0 (execs_in n.newer)) (sym e ∙ n.count) in
    let k = count-length (is_ended_of h.execution.policy.0) (execs_in n.newer) in
    let q = length-execs n.newer in
    let L : List (ℕ × Held) → ℕ = length in
    let a = ap L n.split in
    let b = length-both n.before (n.last ∷ n.newer) in
    let E : List ExecState → ℕ = length in
    let d = ap E m.same in
    let x = length-execs entries in
    let y = length-execs all in
    omega (arith, s, k, q, a, b, d, x, y)

front-cleared : {S : Type 0} (counts : IndexMap ℕ ℕ S) (es : List ExecState) → AreCleared counts es → AllByRecursion (CountOf counts []) es
front-cleared counts [] a = tt
front-cleared counts (e ∷ es) a = (a.0, front-cleared counts es a.1)

-- nothing is marked yet
pub mark-first : {S : Type 0} (keep left : ℕ) (all : List (ℕ × Held)) (counts : IndexMap ℕ ℕ S) → left ≡ length all → AreCleared counts (execs_in all) → Marking keep all all counts counts left
mark-first keep left all counts l a = record {
  front = all;
  newer = [];
  split = sym (append-nil all);
  left_is = sym l;
  same = refl;
  keyed = λ k. k;
  marked = tt;
  counted = front-cleared counts (execs_in all) a;
  others = λ p q. q;
}

no-front : {X : Type 0} (xs : List X) → length xs ≤ 0 → xs ≡ []
no-front [] l = refl
no-front (x ∷ xs) l = absurd (omega (arith, l))

-- all are marked
pub mark-last : {S : Type 0} (keep left : ℕ) (all entries : List (ℕ × Held)) (first counts : IndexMap ℕ ℕ S) → Marking keep all entries first counts left → left ≤ 0 → MarksEntries keep all entries
mark-last keep left all entries first counts m l =
    let A : List (ℕ × Held) → List (ℕ × Held) = λ xs. xs ++ m.newer in
    let none = no-front m.front (let k = m.left_is in omega (arith, k, l)) in
    let P : List (ℕ × Held) → Type 0 = λ es. AreMarked keep es in
    record { marked = subst P (sym (m.split ∙ ap A none)) m.marked; same = m.same; keyed = m.keyed }

-- what is left of marked entries
pub unmarked-kept : (keep : ℕ) (es : List (ℕ × Held)) → AreMarked keep es → execs_in (unmarked es) ≡ kept_by keep (execs_in es)
unmarked-kept keep [] m = refl
unmarked-kept keep (x ∷ es) m =
    let r = unmarked-kept keep es m.1 in
    let C : List ExecState → List ExecState = λ xs. x.1.execution ∷ xs in
    elim (bool-is x.1.dropped) [
      | inl t ↦ (let d = sym m.0 ∙ t in rw (t, d) r)
      | inr t ↦ (let d = sym m.0 ∙ t in rw (t, d) (ap C r))
    ]

pub unmarked-keyed : (es : List (ℕ × Held)) → AreKeyed es → AreKeyed (unmarked es)
unmarked-keyed [] k = tt
unmarked-keyed (x ∷ es) k = elim (bool-is x.1.dropped) [
  | inl t ↦ rw t (unmarked-keyed es k.1)
  | inr t ↦ rw t (k.0, unmarked-keyed es k.1)
]
