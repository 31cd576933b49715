-- Lemmas on the laws of the store.
use Rattle.std.proofs.Common.{◌≡◌, ◌≢◌, ℕ, ◌+◌, ◌-◌, ◌<◌, ◌≤◌, Bool, true, false, cond, ◌&&◌, ◌||◌, List, [], ◌∷◌, ◌++◌, length, map, Option, Some, None, sym, ap, ◌∙◌, subst, inl, inr, arith, suc, zero, refl, eq-eqb}
use Rattle.std.proofs.lemmas.Bool.Decides.{leb_tells, eqb_tells}
use Rattle.std.proofs.lemmas.List.Sums.{sum_by-cons}
use Rattle.std.specs.Prelude.{nat_eq, nat_le, if◌then◌else◌, ◌⊎◌, ◌↔◌, IsTrue, slice_index}
use Rattle.std.specs.Option.{option_map}
use Rattle.std.specs.List.{AllByRecursion, Contains, list_all}
use Rattle.hr_base.specs.declared.status.Hook.{Hook}
use Rattle.hr_base.specs.declared.status.Status.{Status}
use Rattle.hr_base.specs.declared.status.Status.TheVariants as status
use Rattle.hr_base.specs.declared.status.Mark.TheVariants.{At}
use Rattle.hr_base.specs.Status.{word_of}
use Rattle.hr_board.specs.Current.{NoneOpened}
use Rattle.hr_board.specs.Over.{EndsJob}
use Rattle.hr_board.specs.View as board
use Rattle.hr_board.specs.View.{Word, place_of}
use Rattle.hr_store.specs.Row.{RowState, is_among, is_over, ends_job, row_with, same_hook}
use Rattle.hr_store.specs.Execution.{ExecState, has_ended, last_job}
use Rattle.hr_store.specs.Store.{AreNumbered, AreOrdered, FailsBare, StoreState, exec_numbered, execs_hearing, first_row, row_among, row_hearing, row_of_job}
use Rattle.hr_store.specs.Sweeping.{ended_of, is_dropped, is_ended_of, kept_by}
use Rattle.hr_store.specs.Laws.{IsUnopenedOrStopped, OpensInTurn, RowIsOver, RowStays, Stays, TakenIsPut, hooks_of_job}
use Rattle.hr_store.proofs.RowLemmas.{same-from}
use Rattle.hr_store.proofs.OrderLemmas.{exec-low}
use Rattle.hr_store.proofs.PlaceLemmas.{of-low, row-high}
use Rattle.hr_store.proofs.SoundLemmas.{ordered-kept}

in-heard : (h : Hook) (job : ℕ) (rs : List RowState) → row_among job (map (row_hearing h) rs) ≡ option_map (row_hearing h) (row_among job rs)
in-heard h job [] = refl
in-heard h job (r ∷ rs) = elim (eqb_tells r.job job) [
  | inl q ↦ elim (eqb_tells r.job h.job.0) [ inl w ↦ rw (w.0, q.0, w.0) refl | inr w ↦ rw (w.0, q.0, w.0) refl ]
  | inr q ↦ elim (eqb_tells r.job h.job.0) [ inl w ↦ rw (w.0, q.0) (in-heard h job rs) | inr w ↦ rw (w.0, q.0) (in-heard h job rs) ]
]

first-map : (f : RowState → RowState) (a b : Option RowState) → first_row (option_map f a) (option_map f b) ≡ option_map f (first_row a b)
first-map f None b = refl
first-map f (Some r) b = refl

pub of-heard : (h : Hook) (job : ℕ) (es : List ExecState) → row_of_job job (execs_hearing h es) ≡ option_map (row_hearing h) (row_of_job job es)
of-heard h job [] = refl
of-heard h job (e ∷ es) =
    let A : Option RowState → Option RowState = λ a. first_row a (row_of_job job (execs_hearing h es)) in
    let B : Option RowState → Option RowState = λ b. first_row (option_map (row_hearing h) (row_among job e.rows)) b in
    ap A (in-heard h job e.rows) ∙ (ap B (of-heard h job es) ∙ first-map (row_hearing h) (row_among job e.rows) (row_of_job job es))

either : (P : List ExecState → Type 0) (b : Bool) (xs ys : List ExecState) → P xs → P ys → P (if b then xs else ys)
either P true xs ys p q = p
either P false xs ys p q = q

and-false : (b : Bool) → (b && false) ≡ false
and-false true = refl
and-false false = refl

both : (a b : Bool) → (a && b) ≡ true → (a ≡ true) × (b ≡ true)
both true b e = (refl, e)
both false b e = absurd (let x : false ≡ true = e in cc)

bool-is : (b : Bool) → (b ≡ true) ⊎ (b ≡ false)
bool-is true = inl refl
bool-is false = inr refl

is_dropped-no : (keep : ℕ) (e : ExecState) (newer : List ExecState) → (has_ended e ≡ false) ⊎ (ended_of e.policy.0 newer < keep) → is_dropped keep e newer ≡ false
is_dropped-no keep e newer (inl h) = let B : Bool → Bool = λ b. b && nat_le keep (ended_of e.policy.0 newer) in ap B h
is_dropped-no keep e newer (inr l) = let B : Bool → Bool = λ b. has_ended e && b in elim (leb_tells keep (ended_of e.policy.0 newer)) [
  | inl q ↦ absurd (omega (arith, q.1, l))
  | inr q ↦ ap B q.0 ∙ and-false (has_ended e)
]

is_dropped-yes : (keep : ℕ) (e : ExecState) (newer : List ExecState) → has_ended e ≡ true → keep ≤ ended_of e.policy.0 newer → is_dropped keep e newer ≡ true
is_dropped-yes keep e newer h l = let B : Bool → Bool = λ b. b && nat_le keep (ended_of e.policy.0 newer) in elim (leb_tells keep (ended_of e.policy.0 newer)) [
  | inl q ↦ ap B h ∙ q.0
  | inr q ↦ absurd (omega (arith, q.1, l))
]

first-in : (e : ExecState) (es : List ExecState) → Contains (e ∷ es) e
first-in e es = (0, omega arith, refl)

more-in : (e u : ExecState) (es : List ExecState) → Contains es e → Contains (u ∷ es) e
more-in e u es c = let l = c.1 in (suc c.0, omega (arith, l), c.2)

pub stays : (keep : ℕ) (before newer : List ExecState) (e : ExecState) → Stays keep before e newer
stays keep [] newer e h = rw (is_dropped-no keep e newer h) (first-in e (kept_by keep newer))
stays keep (b ∷ bs) newer e h =
    let r = stays keep bs newer e h in
    either (λ xs. Contains xs e) (is_dropped keep b (bs ++ e ∷ newer)) (kept_by keep (bs ++ e ∷ newer)) (b ∷ kept_by keep (bs ++ e ∷ newer)) r (more-in e b (kept_by keep (bs ++ e ∷ newer)) r)

above-in : (a b : ℕ) (before newer : List ExecState) (e : ExecState) → AreOrdered a b (before ++ e ∷ newer) → a < e.exec
above-in a b [] newer e o = o.0
above-in a b (u ∷ us) newer e o = let r = above-in u.exec (last_job u) us newer e o.3 in omega (arith, r, o.0)

pub gone : (a b keep : ℕ) (before newer : List ExecState) (e : ExecState) → AreOrdered a b (before ++ e ∷ newer) → has_ended e ≡ true → keep ≤ ended_of e.policy.0 newer → exec_numbered e.exec (kept_by keep (before ++ e ∷ newer)) ≡ None
gone a b keep [] newer e o h l = rw (is_dropped-yes keep e newer h l) (exec-low e.exec (last_job e) e.exec (kept_by keep newer) (ordered-kept e.exec (last_job e) keep newer o.3) (omega arith))
gone a b keep (u ∷ us) newer e o h l =
    let r = gone u.exec (last_job u) keep us newer e o.3 h l in
    let k = above-in u.exec (last_job u) us newer e o.3 in
    either (λ xs. exec_numbered e.exec xs ≡ None) (is_dropped keep u (us ++ e ∷ newer)) (kept_by keep (us ++ e ∷ newer)) (u ∷ kept_by keep (us ++ e ∷ newer)) r
    (elim (eqb_tells u.exec e.exec) [ inl q ↦ absurd (omega (arith, q.1, k)) | inr q ↦ rw q.0 r ])

ended-cons : (p : ℕ) (e : ExecState) (es : List ExecState) → ended_of p (e ∷ es) ≡ cond (is_ended_of p e) 1 0 + ended_of p es
ended-cons p e es = sum_by-cons (λ y. cond (is_ended_of p y) 1 0) e es

ended-less : (keep p : ℕ) (es : List ExecState) → ended_of p (kept_by keep es) ≤ ended_of p es
ended-less keep p [] = omega arith
ended-less keep p (e ∷ es) =
    let r = ended-less keep p es in
    let k = ended-cons p e es in
    let m = ended-cons p e (kept_by keep es) in
    either (λ xs. ended_of p xs ≤ ended_of p (e ∷ es)) (is_dropped keep e es) (kept_by keep es) (e ∷ kept_by keep es) (omega (arith, r, k)) (omega (arith, r, k, m))

eq-true : (a b : ℕ) → nat_eq a b ≡ true → a ≡ b
eq-true a b e = elim (eqb_tells a b) [ inl q ↦ q.1 | inr q ↦ absurd (let f : true ≡ false = sym e ∙ q.0 in cc) ]

pub few-kept : (keep policy : ℕ) (es : List ExecState) → ended_of policy (kept_by keep es) ≤ keep
few-kept keep p [] = omega arith
few-kept keep p (e ∷ es) =
    let r = few-kept keep p es in
    let m = ended-cons p e (kept_by keep es) in
    let l = ended-less keep p es in
    let N : Bool → ℕ = λ b. cond b 1 0 in
    elim (bool-is (is_dropped keep e es)) [
      | inl g ↦ rw g r
      | inr g ↦ rw g (elim (bool-is (is_ended_of p e)) [
        | inr n ↦ (let k = ap N n in omega (arith, k, m, r))
        | inl y ↦ (let k = ap N y in
            let b = both (nat_eq e.policy.0 p) (has_ended e) y in
            let E : ℕ → ℕ = λ q. ended_of q es in
            let s = ap E (eq-true e.policy.0 p b.0) in
            elim (leb_tells keep (ended_of e.policy.0 es)) [
              | inl q ↦ absurd (let f : true ≡ false = sym (is_dropped-yes keep e es b.1 q.1) ∙ g in cc)
              | inr q ↦ omega (arith, q.1, k, m, l, s)
            ])
      ])
    ]

option-is : (o : Option RowState) → (o ≡ None) ⊎ ((r : RowState) × (o ≡ Some r))
option-is None = inl refl
option-is (Some r) = inr (r, refl)

some-row : RowState → Option RowState → RowState
some-row d None = d
some-row d (Some r) = r

same-row : (r s : RowState) → Some r ≡ Some s → r ≡ s
unfolding some-row
same-row r s e = let F : Option RowState → RowState = λ o. some-row r o in ap F e

row-all : (p : RowState → Bool) (job : ℕ) (r : RowState) (rs : List RowState) → list_all p rs ≡ true → row_among job rs ≡ Some r → p r ≡ true
row-all p job r [] a e = absurd (let x : None ≡ Some r = e in cc)
row-all p job r (s ∷ rs) a e =
    let b = both (p s) (list_all p rs) a in
    elim (eqb_tells s.job job) [
      | inl q ↦ (let f = rw q.0 at e in let F : RowState → Bool = λ v. p v in sym (ap F (same-row s r f)) ∙ b.0)
      | inr q ↦ (let f = rw q.0 at e in row-all p job r rs b.1 f)
    ]

row-within : (n job : ℕ) (r : RowState) (rs : List RowState) → AreNumbered n rs → row_among job rs ≡ Some r → job ≤ n + length rs
row-within n job r rs a e = elim (leb_tells (suc (n + length rs)) job) [
  | inl q ↦ absurd (let x : None ≡ Some r = sym (row-high n job rs a (omega (arith, q.1))) ∙ e in cc)
  | inr q ↦ omega (arith, q.1)
]

ended-over : (e : ExecState) (job : ℕ) (r : RowState) → FailsBare e → has_ended e ≡ true → row_among job e.rows ≡ Some r → is_over r ≡ true
ended-over e job r f h k = elim (bool-is e.plan_failed) [
  | inl t ↦ absurd (let R : List RowState → Option RowState = λ rs. row_among job rs in let x : None ≡ Some r = sym (ap R (f t)) ∙ k in cc)
  | inr t ↦ (let B : Bool → Bool = λ b. b || list_all is_over e.rows in row-all is_over job r e.rows (sym (ap B t) ∙ h) k)
]

pub row-stays : (a b keep job : ℕ) (es : List ExecState) → AreOrdered a b es → AllByRecursion FailsBare es → RowStays keep job es
row-stays a b keep job [] o f = inl refl
row-stays a b keep job (e ∷ es) o f =
    let r = row-stays e.exec (last_job e) keep job es o.3 f.1 in
    elim (option-is (row_among job e.rows)) [
      | inl n ↦ elim (bool-is (is_dropped keep e es)) [
        | inl g ↦ rw (g, n) r
        | inr g ↦ rw (g, n) r
      ]
      | inr s ↦ elim (bool-is (is_dropped keep e es)) [
        | inl g ↦ (let h = (both (has_ended e) (nat_le keep (ended_of e.policy.0 es)) g).0 in
            let low = of-low e.exec (last_job e) job (kept_by keep es) (ordered-kept e.exec (last_job e) keep es o.3) (row-within e.before job s.0 e.rows o.2 s.1) in
            rw (g, s.1) (inr (low, λ v k. ended-over e job v f.0 h (s.1 ∙ k))))
        | inr g ↦ rw (g, s.1) (inl refl)
      ]
    ]

-- ---- when a row's job is over

unended : (attempts rev : ℕ) (st : Status) → (st ≡ status.Success → ⊥) → (st ≡ status.Stopped → ⊥) → (st ≡ status.Error → ⊥) → EndsJob attempts (rev, st) → ⊥
unended attempts rev st f g h (inl e) = f e
unended attempts rev st f g h (inr (inl e)) = g e
unended attempts rev st f g h (inr (inr e)) = h e.0

ends-error : (attempts rev : ℕ) → EndsJob attempts (rev, status.Error) → ends_job attempts rev status.Error ≡ true
ends-error attempts rev (inl e) = absurd (let x : status.Error ≡ status.Success = e in cc)
ends-error attempts rev (inr (inl e)) = absurd (let x : status.Error ≡ status.Stopped = e in cc)
ends-error attempts rev (inr (inr e)) = eq-eqb (rev + 1) attempts e.1

pub ends-says : (attempts rev : ℕ) (st : Status) → IsTrue (ends_job attempts rev st) ↔ EndsJob attempts (rev, st)
ends-says attempts rev status.Success = (λ t. inl refl, λ e. refl)
ends-says attempts rev status.Stopped = (λ t. inr (inl refl), λ e. refl)
ends-says attempts rev status.Error = (λ t. inr (inr (refl, eq-true (rev + 1) attempts t)), ends-error attempts rev)
ends-says attempts rev status.Pending = (
  λ t. absurd (let x : false ≡ true = t in cc),
  λ e. absurd (unended attempts rev status.Pending (λ q. let x : status.Pending ≡ status.Success = q in cc) (λ q. let x : status.Pending ≡ status.Stopped = q in cc) (λ q. let x : status.Pending ≡ status.Error = q in cc) e),
)
ends-says attempts rev status.Scheduled = (
  λ t. absurd (let x : false ≡ true = t in cc),
  λ e. absurd (unended attempts rev status.Scheduled (λ q. let x : status.Scheduled ≡ status.Success = q in cc) (λ q. let x : status.Scheduled ≡ status.Stopped = q in cc) (λ q. let x : status.Scheduled ≡ status.Error = q in cc) e),
)
ends-says attempts rev status.Running = (
  λ t. absurd (let x : false ≡ true = t in cc),
  λ e. absurd (unended attempts rev status.Running (λ q. let x : status.Running ≡ status.Success = q in cc) (λ q. let x : status.Running ≡ status.Stopped = q in cc) (λ q. let x : status.Running ≡ status.Error = q in cc) e),
)

-- no revision is open after one that is not at Error
none-after : (words : List Word) (job first : ℕ) → OpensInTurn words job → slice_index words (place_of job first) ≢ 5
    → (more : ℕ) → first + more < 3 → slice_index words (place_of job (first + more + 1)) ≡ 0
none-after words job first turns here zero few = elim (eqb_tells (slice_index words (place_of job (first + zero + 1))) 0) [
  | inl none ↦ none.1
  | inr opened ↦
      let again = turns (first + zero) few opened.1 in
      let W : ℕ → ℕ = λ rev. slice_index words (place_of job rev) in
      let k : first ≡ first + zero = omega arith in
      absurd (here (ap W k ∙ again))
]
none-after words job first turns here (suc more) few = elim (eqb_tells (slice_index words (place_of job (first + suc more + 1))) 0) [
  | inl none ↦ none.1
  | inr opened ↦
      let failed = turns (first + suc more) few opened.1 in
      let before = none-after words job first turns here more (omega (arith, few)) in
      let W : ℕ → ℕ = λ rev. slice_index words (place_of job rev) in
      let k : first + suc more ≡ first + more + 1 = omega arith in
      let same = ap W k in
      absurd (omega (arith, failed, before, same))
]

-- none is open after the one that ends a job
ended-last : (words : List Word) (job attempts rev : ℕ) (st : Status) → OpensInTurn words job → attempts ≤ 4 → slice_index words (place_of job rev) ≡ word_of (At st)
    → EndsJob attempts (rev, st) → NoneOpened words job (rev + 1) attempts
ended-last words job attempts rev st turns few word ends = λ r l m.
    let k : rev + (r - (rev + 1)) + 1 ≡ r = omega (arith, l) in
    let W : ℕ → ℕ = λ v. slice_index words (place_of job v) in
    let T : Status → ℕ = λ v. word_of (At v) in
    elim ends [
      | inl e ↦ (let t = ap T e in sym (ap W k) ∙ none-after words job rev turns (λ f. omega (arith, f, t, word)) (r - (rev + 1)) (omega (arith, l, m, few)))
      | inr o ↦ elim o [
        | inl e ↦ (let t = ap T e in sym (ap W k) ∙ none-after words job rev turns (λ f. omega (arith, f, t, word)) (r - (rev + 1)) (omega (arith, l, m, few)))
        | inr e ↦ absurd (omega (arith, e.1, l, m))
      ]
    ]

-- a word past the attempts that ends a job is Stopped
past-stopped : (attempts rev : ℕ) (st : Status) → attempts ≤ rev → EndsJob attempts (rev, st) → IsUnopenedOrStopped (word_of (At st)) → word_of (At st) ≡ 4
past-stopped attempts rev st l (inl e) w = let T : Status → ℕ = λ v. word_of (At v) in let t = ap T e in elim w [ inl z ↦ absurd (omega (arith, z, t)) | inr z ↦ z ]
past-stopped attempts rev st l (inr (inl e)) w = let T : Status → ℕ = λ v. word_of (At v) in let t = ap T e in omega (arith, t)
past-stopped attempts rev st l (inr (inr e)) w = absurd (omega (arith, e.1, l))

pub row-over : (words : List Word) (job attempts rev : ℕ) (st : Status) → RowIsOver words job attempts rev st
row-over words job attempts rev st turns past some few small word ends = elim (leb_tells (suc rev) attempts) [
  | inl q ↦ record {
    row = (rev, st);
    current = inl (record { within = omega (arith, q.1); word = word; last = ended-last words job attempts rev st turns few word ends });
    ends = ends;
  }
  | inr q ↦ (
      let U : ℕ → Type 0 = IsUnopenedOrStopped in
      let stopped = past-stopped attempts rev st (omega (arith, q.1)) ends (subst U word (past rev (omega (arith, q.1)) small)) in
      let W : ℕ → ℕ = λ v. slice_index words (place_of job v) in
      let k : rev - 1 + 1 ≡ rev = omega (arith, q.1, some) in
      let same = ap W k in
      let failed = turns (rev - 1) (omega (arith, small, q.1, some)) (λ z. omega (arith, z, same, word, stopped)) in
      elim (leb_tells attempts (rev - 1)) [
        | inl p ↦ absurd (elim (past (rev - 1) p.1 (omega (arith, small))) [ inl z ↦ omega (arith, z, failed) | inr z ↦ omega (arith, z, failed) ])
        | inr p ↦ (
            let n : rev - 1 ≡ attempts - 1 = omega (arith, p.1, q.1, some) in
            record {
              row = (attempts - 1, status.Error);
              current = inl (record {
                within = omega (arith, some);
                word = sym (ap W n) ∙ failed;
                last = λ r l m. absurd (omega (arith, l, m, some));
              });
              ends = inr (inr (refl, omega (arith, some)));
            })
      ])
]

row-in-job : (job : ℕ) (r : RowState) (rs : List RowState) → row_among job rs ≡ Some r → r.job ≡ job
row-in-job job r [] e = absurd (let x : None ≡ Some r = e in cc)
row-in-job job r (s ∷ rs) e = elim (eqb_tells s.job job) [
  | inl q ↦ (let f = rw q.0 at e in let J : RowState → ℕ = λ v. v.job in sym (ap J (same-row s r f)) ∙ q.1)
  | inr q ↦ (let f = rw q.0 at e in row-in-job job r rs f)
]

row-of-job : (job : ℕ) (r : RowState) (es : List ExecState) → row_of_job job es ≡ Some r → r.job ≡ job
row-of-job job r [] e = absurd (let x : None ≡ Some r = e in cc)
row-of-job job r (u ∷ us) e = elim (option-is (row_among job u.rows)) [
  | inl n ↦ (let f = rw n at e in row-of-job job r us f)
  | inr s ↦ (let f = rw s.1 at e in let J : RowState → ℕ = λ v. v.job in sym (ap J (same-row s.0 r f)) ∙ row-in-job job s.0 u.rows s.1)
]

heard-own : (h : Hook) (v : RowState) → v.job ≡ h.job.0 → row_hearing h v ≡ row_with v h
heard-own h v e = elim (eqb_tells v.job h.job.0) [ inl q ↦ rw q.0 refl | inr q ↦ absurd (q.1 e) ]

heard-other : (h : Hook) (v : RowState) → v.job ≢ h.job.0 → row_hearing h v ≡ v
heard-other h v f = elim (eqb_tells v.job h.job.0) [ inl q ↦ absurd (f q.1) | inr q ↦ rw q.0 refl ]

pub heard-put : (s : StoreState) (b : board.View) (h : Hook) (raised : Bool) (r : StoreState) (c : board.View) → TakenIsPut s b h raised r c
heard-put s b h raised r c k =
    let K : StoreState → List ExecState = λ v. v.kept in
    let M : Option RowState → Option RowState = λ o. option_map (row_hearing h) o in
    let H : Option RowState → Option (List Hook) = λ o. option_map (λ v. v.received) o in
    let R : ℕ → List ExecState → Option (List Hook) = λ job es. hooks_of_job job es in
    let after : (job : ℕ) → row_of_job job r.kept ≡ option_map (row_hearing h) (row_of_job job s.kept) = λ job. (let W : List ExecState → Option RowState = λ es. row_of_job job es in ap W (ap K k.after_is) ∙ of-heard h job s.kept) in
    let O : RowState → Option (List Hook) = λ v. Some v.received in
    record {
      old = k.row.received;
      before = ap H k.there;
      here = ap H (after h.job.0 ∙ ap M k.there) ∙ ap O (heard-own h k.row (row-of-job h.job.0 k.row s.kept k.there));
      elsewhere = λ job f. ap H (after job) ∙ (elim (option-is (row_of_job job s.kept)) [
        | inl n ↦ rw n refl
        | inr v ↦ rw v.1 (ap O (heard-other h v.0 (λ e. f (sym (row-of-job job v.0 s.kept v.1) ∙ e))))
      ]);
    }

-- ---- hooks among others

status-by : ℕ → Status
status-by n = if nat_eq n 1 then status.Pending else (if nat_eq n 2 then status.Scheduled else (if nat_eq n 3 then status.Running else (if nat_eq n 4 then status.Stopped else (if nat_eq n 5 then status.Error else status.Success))))

by-word : (st : Status) → status-by (word_of (At st)) ≡ st
unfolding status-by
by-word status.Pending = refl
by-word status.Scheduled = refl
by-word status.Running = refl
by-word status.Stopped = refl
by-word status.Error = refl
by-word status.Success = refl

one-hook : (x h : Hook) → same_hook x h ≡ true → x ≡ h
one-hook x h e =
    let b = both (nat_eq x.job.0 h.job.0) _ e in
    let d = both (nat_eq x.rev h.rev) _ b.1 in
    let S : ℕ → Status = status-by in
    let w = eq-true (word_of (At x.status)) (word_of (At h.status)) d.1 in
    let s : x.status ≡ h.status = sym (by-word x.status) ∙ (ap S w ∙ by-word h.status) in
    let A : ℕ → Hook = λ v. record { job = record { 0 = v }; rev = x.rev; status = x.status } in
    let B : ℕ → Hook = λ v. record { job = h.job; rev = v; status = x.status } in
    let C : Status → Hook = λ v. record { job = h.job; rev = h.rev; status = v } in
    ap A (eq-true x.job.0 h.job.0 b.0) ∙ (ap B (eq-true x.rev h.rev d.0) ∙ ap C s)

same-itself : (h : Hook) → same_hook h h ≡ true
same-itself h = same-from h h refl refl refl

hook-first : (x h : Hook) (hs : List Hook) → x ≡ h → Contains (x ∷ hs) h
hook-first x h hs e = (0, omega arith, e)

hook-later : (x h : Hook) (hs : List Hook) → Contains hs h → Contains (x ∷ hs) h
hook-later x h hs c = let l = c.1 in (suc c.0, omega (arith, l), c.2)

among-in : (hs : List Hook) (h : Hook) → is_among hs h ≡ true → Contains hs h
among-in [] h e = absurd (let x : false ≡ true = e in cc)
among-in (x ∷ hs) h e = elim (bool-is (same_hook x h)) [
  | inl q ↦ hook-first x h hs (one-hook x h q)
  | inr q ↦ (let B : Bool → Bool = λ b. b || is_among hs h in hook-later x h hs (among-in hs h (sym (ap B q) ∙ e)))
]

or-left : (a b : Bool) → a ≡ true → (a || b) ≡ true
or-left a b e = let B : Bool → Bool = λ v. v || b in ap B e

or-right : (a b : Bool) → b ≡ true → (a || b) ≡ true
or-right true b e = refl
or-right false b e = e

in-among : (hs : List Hook) (h : Hook) → Contains hs h → is_among hs h ≡ true
in-among [] h (i, l, e) = absurd (omega (arith, l))
in-among (x ∷ hs) h (zero, l, e) = or-left (same_hook x h) (is_among hs h) (let S : Hook → Bool = λ v. same_hook v h in ap S e ∙ same-itself h)
in-among (x ∷ hs) h (suc i, l, e) = or-right (same_hook x h) (is_among hs h) (in-among hs h (i, omega (arith, l), e))

pub among-says : (hs : List Hook) (h : Hook) → IsTrue (is_among hs h) ↔ Contains hs h
among-says hs h = (among-in hs h, in-among hs h)
