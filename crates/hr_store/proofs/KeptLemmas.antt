-- Lemmas on executions that are kept in a map by their numbers.
use Rattle.std.proofs.Common.{◌≡◌, ℕ, true, List, [], ◌∷◌, ◌++◌, set, slice_get, Option, Some, None, sym, ap, ◌∙◌, inl, inr, arith, suc, zero, refl}
use Rattle.std.proofs.lemmas.Bool.Decides.{eqb_tells}
use Rattle.std.specs.Prelude.{nat_eq}
use Rattle.std.specs.Map.{lookup, set_value, values_of}
use Rattle.std.specs.Option.{option_map}
use Rattle.indexmap.specs.Layout.{set_value_at}
use Rattle.hr_store.specs.Execution.{ExecState, last_job}
use Rattle.hr_store.specs.Kept.{AreKeyed, execs_in}
use Rattle.hr_store.specs.Store.{AreOrdered, exec_numbered, execs_failing}
use Rattle.hr_store.specs.declared.held.Held.{Held}
use Rattle.hr_store.proofs.RowLemmas.{all-push}
use Rattle.hr_store.proofs.SoundLemmas.{fail-above}

abbrev pub exec_in : Held → ExecState
exec_in held = held.execution

abbrev pub held_in : Held → Option Held → Held
held_in d None = d
held_in d (Some h) = h

abbrev pub number_in : Held → Option Held → ℕ
number_in d o = (held_in d o).execution.exec

-- the execution at a place
pub execs-get : (es : List (ℕ × Held)) (i : ℕ) (h : Held) → slice_get (values_of es) i ≡ Some h → slice_get (execs_in es) i ≡ Some h.execution
execs-get [] zero h e = absurd (cc)
execs-get [] (suc i) h e = absurd (cc)
execs-get (x ∷ es) zero h e = let F : Option Held → Option ExecState = λ o. option_map exec_in o in ap F e
execs-get (x ∷ es) (suc i) h e = execs-get es i h e

-- the execution of a number
pub keyed-lookup : (n : ℕ) (es : List (ℕ × Held)) → AreKeyed es → option_map exec_in (lookup (nat_eq n) es) ≡ exec_numbered n (execs_in es)
keyed-lookup n [] k = refl
keyed-lookup n (x ∷ es) k = elim (eqb_tells n x.0) [
  | inl q ↦ elim (eqb_tells x.1.execution.exec n) [ inl r ↦ rw (q.0, r.0) refl | inr r ↦ absurd (r.1 (sym (q.1 ∙ k.0))) ]
  | inr q ↦ elim (eqb_tells x.1.execution.exec n) [ inl r ↦ absurd (q.1 (sym (k.0 ∙ r.1))) | inr r ↦ rw (q.0, r.0) (keyed-lookup n es k.1) ]
]

none-there : (o : Option Held) → option_map exec_in o ≡ None → o ≡ None
none-there None e = refl
none-there (Some h) e = absurd (let x : Some h.execution ≡ None = e in cc)

pub absent : (n : ℕ) (es : List (ℕ × Held)) → AreKeyed es → exec_numbered n (execs_in es) ≡ None → lookup (nat_eq n) es ≡ None
absent n es k e = none-there (lookup (nat_eq n) es) (keyed-lookup n es k ∙ e)

-- one more at the end
pub execs-push : (es : List (ℕ × Held)) (x : ℕ × Held) → execs_in (es ++ x ∷ []) ≡ execs_in es ++ x.1.execution ∷ []
execs-push [] x = refl
execs-push (y ∷ es) x = let C : List ExecState → List ExecState = λ xs. y.1.execution ∷ xs in ap C (execs-push es x)

pub keyed-push : (es : List (ℕ × Held)) (x : ℕ × Held) → AreKeyed es → x.0 ≡ x.1.execution.exec → AreKeyed (es ++ x ∷ [])
keyed-push es x k e = all-push (λ y. y.0 ≡ y.1.execution.exec) es x k e

-- one changed
pub execs-set : (es : List (ℕ × Held)) (i : ℕ) (h : Held) → execs_in (set_value_at es i h) ≡ set (execs_in es) i h.execution
execs-set [] zero h = refl
execs-set [] (suc i) h = refl
execs-set (x ∷ es) zero h = refl
execs-set (x ∷ es) (suc i) h = let C : List ExecState → List ExecState = λ xs. x.1.execution ∷ xs in ap C (execs-set es i h)

pub keyed-set : (es : List (ℕ × Held)) (i : ℕ) (h new : Held) → AreKeyed es → slice_get (values_of es) i ≡ Some h → new.execution.exec ≡ h.execution.exec → AreKeyed (set_value_at es i new)
keyed-set [] i h new k g e = tt
keyed-set (x ∷ es) zero h new k g e = (let F : Option Held → ℕ = λ o. number_in x.1 o in k.0 ∙ (ap F g ∙ sym e), k.1)
keyed-set (x ∷ es) (suc i) h new k g e = (k.0, keyed-set es i h new k.1 g e)

-- the plan of one failed
pub keyed-fail : (n : ℕ) (h new : Held) (es : List (ℕ × Held)) → AreKeyed es → lookup (nat_eq n) es ≡ Some h → new.execution.exec ≡ h.execution.exec → AreKeyed (set_value (nat_eq n) es new)
keyed-fail n h new [] k l e = tt
keyed-fail n h new (x ∷ es) k l e = elim (eqb_tells n x.0) [
  | inl q ↦ (let l2 = rw q.0 at l in let F : Option Held → ℕ = λ o. number_in x.1 o in rw q.0 (k.0 ∙ (ap F l2 ∙ sym e), k.1))
  | inr q ↦ (let l2 = rw q.0 at l in rw q.0 (k.0, keyed-fail n h new es k.1 l2 e))
]

pub execs-fail : (a b n : ℕ) (h new : Held) (es : List (ℕ × Held)) → AreKeyed es → AreOrdered a b (execs_in es) → lookup (nat_eq n) es ≡ Some h → new.execution ≡ record h.execution { plan_failed = true }
    → execs_in (set_value (nat_eq n) es new) ≡ execs_failing n (execs_in es)
execs-fail a b n h new [] k o l e = absurd (let x : None ≡ Some h = l in cc)
execs-fail a b n h new (x ∷ es) k o l e = elim (eqb_tells n x.0) [
  | inl q ↦ (let l2 = rw q.0 at l in
      let F : Option Held → ExecState = λ p. record (held_in x.1 p).execution { plan_failed = true } in
      let same : new.execution ≡ record x.1.execution { plan_failed = true } = e ∙ sym (ap F l2) in
      elim (eqb_tells x.1.execution.exec n) [
        | inl r ↦ (let C : ExecState → List ExecState = λ v. v ∷ execs_in es in
            let D : List ExecState → List ExecState = λ vs. record x.1.execution { plan_failed = true } ∷ vs in
            rw (q.0, r.0) (ap C same ∙ sym (ap D (fail-above x.1.execution.exec (last_job x.1.execution) n (execs_in es) o.3 (omega (arith, r.1))))))
        | inr r ↦ absurd (r.1 (sym (q.1 ∙ k.0)))
      ])
  | inr q ↦ (let l2 = rw q.0 at l in
      elim (eqb_tells x.1.execution.exec n) [
        | inl r ↦ absurd (q.1 (sym (k.0 ∙ r.1)))
        | inr r ↦ (let C : List ExecState → List ExecState = λ vs. x.1.execution ∷ vs in
            rw (q.0, r.0) (ap C (execs-fail x.1.execution.exec (last_job x.1.execution) n h new es k.1 o.3 l2 e)))
      ])
]

-- no execution has the number
pub none-fails : (n : ℕ) (es : List (ℕ × Held)) → AreKeyed es → lookup (nat_eq n) es ≡ None → execs_failing n (execs_in es) ≡ execs_in es
none-fails n [] k l = refl
none-fails n (x ∷ es) k l = elim (eqb_tells n x.0) [
  | inl q ↦ absurd (let l2 = rw q.0 at l in let y : Some x.1 ≡ None = l2 in cc)
  | inr q ↦ (let l2 = rw q.0 at l in
      elim (eqb_tells x.1.execution.exec n) [
        | inl r ↦ absurd (q.1 (sym (k.0 ∙ r.1)))
        | inr r ↦ (let C : List ExecState → List ExecState = λ vs. x.1.execution ∷ vs in rw r.0 (ap C (none-fails n es k.1 l2)))
      ])
]
