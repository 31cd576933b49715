-- What a store keeps to, it keeps to after each call.
use Rattle.std.proofs.Common.{◌≡◌, ℕ, ◌+◌, ◌-◌, ◌^◌, ◌<◌, ◌≤◌, Bool, true, false, List, [], ◌∷◌, ◌++◌, length, map, Some, None, sym, ap, ◌∙◌, inl, inr, arith, suc, refl}
use Rattle.std.proofs.lemmas.Bool.Decides.{eqb_tells}
use Rattle.std.specs.Prelude.{nat_eq, if◌then◌else◌, IsSome}
use Rattle.indexmap.specs.IndexMap.{IndexMap, get}
use Rattle.hr_store.specs.Execution.{ExecState, last_job}
use Rattle.hr_store.specs.Row.{RowState}
use Rattle.hr_store.specs.Store.{AreMade, AreNumbered, AreOrdered, FailsBare, IsSound, exec_hearing, exec_numbered, execs_failing, execs_hearing, row_hearing}
use Rattle.hr_store.specs.Sweeping.{is_dropped, kept_by}
use Rattle.hr_board.specs.View as board
use Rattle.hr_event.specs.declared.view.Received.TheVariants as received
use Rattle.std.specs.List.{AllByRecursion}
use Rattle.hr_base.specs.declared.status.Hook.{Hook}
use Rattle.hr_store.proofs.OrderLemmas.{exec-low, made-push, ordered-push, weaker}

-- executions stay in order
job-kept : (h : Hook) (r : RowState) → (row_hearing h r).job ≡ r.job
job-kept h r = elim (eqb_tells r.job h.job.0) [ inl q ↦ rw q.0 refl | inr q ↦ rw q.0 refl ]

numbered-heard : (n : ℕ) (h : Hook) (rs : List RowState) → AreNumbered n rs → AreNumbered n (map (row_hearing h) rs)
numbered-heard n h [] a = tt
numbered-heard n h (r ∷ rs) a = (job-kept h r ∙ a.0, numbered-heard (suc n) h rs a.1)

length-heard : (h : Hook) (rs : List RowState) → length (map (row_hearing h) rs) ≡ length rs
length-heard h [] = refl
length-heard h (r ∷ rs) = let n = length-heard h rs in omega (arith, n)

pub ordered-heard : (a b : ℕ) (h : Hook) (es : List ExecState) → AreOrdered a b es → AreOrdered a b (execs_hearing h es)
ordered-heard a b h [] o = tt
ordered-heard a b h (e ∷ es) o =
    let n = length-heard h e.rows in
    let w = weaker e.exec (last_job e) e.exec (last_job (exec_hearing h e)) (execs_hearing h es) (ordered-heard e.exec (last_job e) h es o.3) (omega arith) (omega (arith, n)) in
    (o.0, o.1, numbered-heard e.before h e.rows o.2, w)

pub made-heard : (made jobs : ℕ) (h : Hook) (es : List ExecState) → AreMade made jobs es → AreMade made jobs (execs_hearing h es)
made-heard made jobs h [] m = tt
made-heard made jobs h (e ∷ es) m = let n = length-heard h e.rows in ((m.0.0, omega (arith, m.0.1, n)), made-heard made jobs h es m.1)

kept-or : (P : List ExecState → Type 0) (b : Bool) (xs ys : List ExecState) → P xs → P ys → P (if b then xs else ys)
kept-or P true xs ys p q = p
kept-or P false xs ys p q = q

pub ordered-kept : (a b keep : ℕ) (es : List ExecState) → AreOrdered a b es → AreOrdered a b (kept_by keep es)
ordered-kept a b keep [] o = tt
ordered-kept a b keep (e ∷ es) o =
    let r = ordered-kept e.exec (last_job e) keep es o.3 in
    kept-or (λ xs. AreOrdered a b xs) (is_dropped keep e es) (kept_by keep es) (e ∷ kept_by keep es)
    (weaker e.exec (last_job e) a b (kept_by keep es) r (omega (arith, o.0)) (omega (arith, o.1))) (o.0, o.1, o.2, r)

pub all-kept : (P : ExecState → Type 0) (keep : ℕ) (es : List ExecState) → AllByRecursion P es → AllByRecursion P (kept_by keep es)
all-kept P keep [] a = tt
all-kept P keep (e ∷ es) a = let r = all-kept P keep es a.1 in kept-or (λ xs. AllByRecursion P xs) (is_dropped keep e es) (kept_by keep es) (e ∷ kept_by keep es) r (a.0, r)

pub length-kept : (keep : ℕ) (es : List ExecState) → length (kept_by keep es) ≤ length es
length-kept keep [] = omega arith
length-kept keep (e ∷ es) = let r = length-kept keep es in kept-or (λ xs. length xs ≤ suc (length es)) (is_dropped keep e es) (kept_by keep es) (e ∷ kept_by keep es) (omega (arith, r)) (omega (arith, r))

pub some-more : {S : Type 0} (old new : IndexMap ℕ ℕ S) (es : List ExecState) → ((p : ℕ) → IsSome (get nat_eq old p) → IsSome (get nat_eq new p)) → AllByRecursion (λ e. IsSome (get nat_eq old e.policy.0)) es → AllByRecursion (λ e. IsSome (get nat_eq new e.policy.0)) es
some-more old new [] f a = tt
some-more old new (e ∷ es) f a = (f e.policy.0 a.0, some-more old new es f a.1)

pub counted-heard : {S : Type 0} (counts : IndexMap ℕ ℕ S) (h : Hook) (es : List ExecState) → AllByRecursion (λ e. IsSome (get nat_eq counts e.policy.0)) es → AllByRecursion (λ e. IsSome (get nat_eq counts e.policy.0)) (execs_hearing h es)
counted-heard counts h [] a = tt
counted-heard counts h (e ∷ es) a = (a.0, counted-heard counts h es a.1)

pub counted-push : {S : Type 0} (counts : IndexMap ℕ ℕ S) (es : List ExecState) (e : ExecState) → AllByRecursion (λ e. IsSome (get nat_eq counts e.policy.0)) es → IsSome (get nat_eq counts e.policy.0) → AllByRecursion (λ e. IsSome (get nat_eq counts e.policy.0)) (es ++ e ∷ [])
counted-push counts [] e a h = (h, tt)
counted-push counts (u ∷ us) e a h = (a.0, counted-push counts us e a.1 h)

-- a failed plan
pub fail-above : (a b exec : ℕ) (es : List ExecState) → AreOrdered a b es → exec ≤ a → execs_failing exec es ≡ es
fail-above a b exec [] o l = refl
fail-above a b exec (e ∷ es) o l = elim (eqb_tells e.exec exec) [
  | inl q ↦ absurd (omega (arith, q.1, o.0, l))
  | inr q ↦ (let C : List ExecState → List ExecState = λ xs. e ∷ xs in rw q.0 (ap C (fail-above e.exec (last_job e) exec es o.3 (omega (arith, o.0, l)))))
]

failed-ordered : (a b exec : ℕ) (es : List ExecState) → AreOrdered a b es → AreOrdered a b (execs_failing exec es)
failed-ordered a b exec [] o = tt
failed-ordered a b exec (e ∷ es) o = (o.0, o.1, o.2, failed-ordered e.exec (last_job e) exec es o.3)

failed-made : (made jobs exec : ℕ) (es : List ExecState) → AreMade made jobs es → AreMade made jobs (execs_failing exec es)
failed-made made jobs exec [] m = tt
failed-made made jobs exec (e ∷ es) m = (m.0, failed-made made jobs exec es m.1)

failed-counted : {S : Type 0} (counts : IndexMap ℕ ℕ S) (exec : ℕ) (es : List ExecState) → AllByRecursion (λ e. IsSome (get nat_eq counts e.policy.0)) es → AllByRecursion (λ e. IsSome (get nat_eq counts e.policy.0)) (execs_failing exec es)
failed-counted counts exec [] a = tt
failed-counted counts exec (e ∷ es) a = (a.0, failed-counted counts exec es a.1)

bare-heard : (h : Hook) (es : List ExecState) → AllByRecursion FailsBare es → AllByRecursion FailsBare (execs_hearing h es)
bare-heard h [] a = tt
bare-heard h (e ∷ es) a = (λ f. let M : List RowState → List RowState = λ rs. map (row_hearing h) rs in ap M (a.0 f), bare-heard h es a.1)

bare-push : (es : List ExecState) (e : ExecState) → AllByRecursion FailsBare es → e.plan_failed ≡ false → AllByRecursion FailsBare (es ++ e ∷ [])
bare-push [] e a f = (λ t. absurd (let x : true ≡ false = sym t ∙ f in cc), tt)
bare-push (u ∷ us) e a f = (a.0, bare-push us e a.1 f)

bare-failed : (a b exec : ℕ) (es : List ExecState) → AreOrdered a b es → AllByRecursion FailsBare es → ((e : ExecState) → exec_numbered exec es ≡ Some e → e.rows ≡ []) → AllByRecursion FailsBare (execs_failing exec es)
bare-failed a b exec [] o s f = tt
bare-failed a b exec (e ∷ es) o s f = elim (eqb_tells e.exec exec) [
  | inl q ↦ (let low = exec-low e.exec (last_job e) exec es o.3 (omega (arith, q.1)) in
      (λ t. f e (rw q.0 refl), bare-failed e.exec (last_job e) exec es o.3 s.1 (λ v k. absurd (let x : None ≡ Some v = sym low ∙ k in cc))))
  | inr q ↦ (rw q.0 s.0, bare-failed e.exec (last_job e) exec es o.3 s.1 (λ v k. f v (rw q.0 k)))
]

-- what a store keeps to, after each call
pub sound-counted : {S : Type 0} (limit jobs made : ℕ) (es : List ExecState) (counts after : IndexMap ℕ ℕ S) → IsSound limit jobs made es counts → ((p : ℕ) → IsSome (get nat_eq counts p) → IsSome (get nat_eq after p)) → IsSound limit jobs made es after
sound-counted limit jobs made es counts after s f = record { no_rows = s.no_rows; few = s.few; numbers = s.numbers; within = s.within; ordered = s.ordered; were_made = s.were_made; countable = some-more counts after es f s.countable }

pub sound-failed : {S : Type 0} (limit jobs made exec : ℕ) (es : List ExecState) (counts : IndexMap ℕ ℕ S) → IsSound limit jobs made es counts → ((e : ExecState) → exec_numbered exec es ≡ Some e → e.rows ≡ []) → IsSound limit jobs made (execs_failing exec es) counts
sound-failed limit jobs made exec es counts s f = record { no_rows = bare-failed 0 0 exec es s.ordered s.no_rows f; few = s.few; numbers = s.numbers; within = s.within; ordered = failed-ordered 0 0 exec es s.ordered; were_made = failed-made made jobs exec es s.were_made; countable = failed-counted counts exec es s.countable }

pub sound-heard : {S : Type 0} (limit jobs made : ℕ) (h : Hook) (es : List ExecState) (counts : IndexMap ℕ ℕ S) → IsSound limit jobs made es counts → IsSound limit jobs made (execs_hearing h es) counts
sound-heard limit jobs made h es counts s = record { no_rows = bare-heard h es s.no_rows; few = s.few; numbers = s.numbers; within = s.within; ordered = ordered-heard 0 0 h es s.ordered; were_made = made-heard made jobs h es s.were_made; countable = counted-heard counts h es s.countable }

pub sound-swept : {S : Type 0} (limit jobs made keep : ℕ) (es : List ExecState) (counts after : IndexMap ℕ ℕ S) → IsSound limit jobs made es counts → ((p : ℕ) → IsSome (get nat_eq counts p) → IsSome (get nat_eq after p)) → IsSound limit jobs made (kept_by keep es) after
sound-swept limit jobs made keep es counts after s f = record {
  no_rows = all-kept FailsBare keep es s.no_rows;
  few = s.few;
  numbers = s.numbers;
  within = s.within;
  ordered = ordered-kept 0 0 keep es s.ordered;
  were_made = all-kept (λ e. (e.exec ≤ made) × (last_job e ≤ jobs)) keep es s.were_made;
  countable = some-more counts after (kept_by keep es) f (all-kept (λ e. IsSome (get nat_eq counts e.policy.0)) keep es s.countable);
}

pub sound-made : {S : Type 0} (limit jobs made n : ℕ) (es : List ExecState) (e : ExecState) (counts after : IndexMap ℕ ℕ S) → IsSound limit jobs made es counts → ((p : ℕ) → IsSome (get nat_eq counts p) → IsSome (get nat_eq after p))
    → IsSome (get nat_eq after e.policy.0) → e.exec ≡ made + 1 → e.before ≡ jobs → n ≡ length e.rows → AreNumbered e.before e.rows → jobs + n ≤ limit → made + 1 < 2 ^ 32 → e.plan_failed ≡ false → IsSound limit (jobs + n) (made + 1) (es ++ e ∷ []) after
sound-made limit jobs made n es e counts after s f g x b l r w m p = record {
  no_rows = bare-push es e s.no_rows p;
  few = s.few;
  numbers = m;
  within = w;
  ordered = ordered-push 0 0 made jobs es e s.ordered s.were_made (omega arith) (omega arith) (omega (arith, x)) (omega (arith, b)) r;
  were_made = made-push made jobs (made + 1) (jobs + n) es e s.were_made (omega arith) (omega arith) (omega (arith, x)) (omega (arith, b, l));
  countable = counted-push after es e (some-more counts after es f s.countable) g;
}
