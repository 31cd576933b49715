-- No revision ends twice, and each end is one that the journal shows.
use Rattle.std.proofs.Common.{◌≡◌, ◌≢◌, inl, inr, refl, sym, ap, subst, ◌∙◌, ℕ, ◌+◌, ◌≤◌, Bool, true, false, List, [], ◌∷◌, ◌++◌, length, arith}
use Rattle.std.proofs.lemmas.Bool.{eqb-true}
use Rattle.std.specs.Option.{is_some}
use Rattle.std.specs.Prelude.{Option, Some, None, IfSome, IsSome, Result, Ok, Err, if◌then◌else◌, map, nat_eq}
use Rattle.std.specs.List.{AllByRecursion, cons_option}
use Rattle.hr_base.specs.declared.number.JobNo.{JobNo}
use Rattle.hr_base.specs.declared.status.Mark.{Mark}
use Rattle.hr_base.specs.declared.status.Status.{Status}
use Rattle.hr_event.specs.declared.cause.Cause.{Cause}
use Rattle.hr_event.specs.declared.entry.Entry.{Entry}
use Rattle.hr_event.specs.declared.entry.What.{What}
use Rattle.hr_event.specs.declared.entry.What.TheVariants as what
use Rattle.hr_journal.specs.Says.{is_of}
use Rattle.hr_line.specs.Admission.{Admits, Begins, held_first}
use Rattle.hr_line.specs.Finals.{EndOnce, ended_as, endings}
use Rattle.hr_line.specs.Line.{LineEnd, entry_of}
use Rattle.hr_line.specs.Orderly.{IsHeldAs, IsNew, IsOrderly, admitted_at}
use Rattle.hr_line.specs.State.{HeldAfter, State, held_at}
use Rattle.hr_line.specs.Step.{Closes, ComesToEnd, DoesLine, Ends, Step, goes_on}
use Rattle.hr_line.specs.declared.answer.Admit.{Admit}
use Rattle.hr_line.specs.declared.answer.Admit.TheVariants as admit
use Rattle.hr_line.specs.declared.answer.Stepped.{Stepped}
use Rattle.hr_line.specs.declared.answer.Stepped.TheVariants as stepped
use Rattle.hr_line.specs.declared.held.Admitted.{Admitted}
use Rattle.hr_line.specs.declared.held.Held.{Held}
use Rattle.hr_line.proofs.LinkLemmas.{held_other, held_same, number_cases}
use Rattle.hr_line.proofs.OrderlyLemmas.{both_true, is_held, same_goes}
use Rattle.hr_line.proofs.WroteLemmas.{EndsNone, Unended, line_unended, unended_none, unended_one, unended_then}

-- ---- what the entries of a step say of ends

pub line_says : (h : Held) (s t : State) (end : LineEnd) → DoesLine h s t end → Unended h.by s.log t.log
line_says h s t end line = line_unended h.by s.log t.log end line.tag h.work line.f line.g line.p line.q line.line

pub comes_says : (h : Held) (s t : State) (why : Option Cause) → ComesToEnd h s t why → Unended h.by s.log t.log
comes_says h s t None comes = unended_none h.by s.log t.log comes.1.log
comes_says h s t (Some why) (inl line) = line_says h s t (Err why) line
comes_says h s t (Some why) (inr rests) = unended_none h.by s.log t.log rests.1.log

-- ---- once

not_ended : (said : What) → EndsNone said → ended_as said ≡ None
not_ended (what.Ended status cause) none = absurd none
not_ended said none = refl

none_counts : (b : Bool) (found : Option Status) (rest : List Status) → found ≡ None
    → cons_option (if b then found else None) rest ≡ rest
none_counts true found rest is = ap (λ (x : Option Status). cons_option x rest) is
none_counts false found rest is = refl

more_endings : (job rev : ℕ) (a : Admitted) (more : List What) (log : List Entry) → AllByRecursion EndsNone more
    → endings job rev (map (entry_of a) more ++ log) ≡ endings job rev log
more_endings job rev a [] log none = refl
more_endings job rev a (said ∷ more) log none =
    none_counts (is_of job rev (entry_of a said)) (ended_as said) (endings job rev (map (entry_of a) more ++ log)) (not_ended said none.0)
    ∙ more_endings job rev a more log none.1

same_endings : (job rev : ℕ) (a : Admitted) (older newer : List Entry) → Unended a older newer
    → endings job rev newer ≡ endings job rev older
same_endings job rev a older newer wrote = ap (endings job rev) wrote.joined ∙ more_endings job rev a wrote.more older wrote.each

-- an end of another revision is none of this one
other_endings : (job rev : ℕ) (a : Admitted) (said : What) (log : List Entry) → a.job.0 ≢ job
    → endings job rev (entry_of a said ∷ log) ≡ endings job rev log
other_endings job rev a said log apart = by (is_of job rev (entry_of a said)) refl
  where
    by : (b : Bool) → is_of job rev (entry_of a said) ≡ b
        → cons_option (if b then ended_as said else None) (endings job rev log) ≡ endings job rev log
    by true is = absurd (apart (eqb-true a.job.0 job (both_true (nat_eq a.job.0 job) (nat_eq a.rev rev) is).0))
    by false is = refl

-- one end more, of a revision that had none
one_ending : (job rev : ℕ) (a : Admitted) (status : Status) (cause : Option Cause) (log : List Entry)
    → endings a.job.0 a.rev log ≡ [] → length (endings job rev log) ≤ 1
    → length (endings job rev (entry_of a (what.Ended status cause) ∷ log)) ≤ 1
one_ending job rev a status cause log none once = by (is_of job rev (entry_of a (what.Ended status cause))) refl
  where
    by : (b : Bool) → is_of job rev (entry_of a (what.Ended status cause)) ≡ b
        → length (cons_option (if b then Some status else None) (endings job rev log)) ≤ 1
    by true is =
        let both = both_true (nat_eq a.job.0 job) (nat_eq a.rev rev) is in
        let empty : endings job rev log ≡ [] =
        ap (λ (j : ℕ). endings j rev log) (sym (eqb-true a.job.0 job both.0))
        ∙ ap (λ (r : ℕ). endings a.job.0 r log) (sym (eqb-true a.rev rev both.1)) ∙ none in
        subst (λ (xs : List Status). length (status ∷ xs) ≤ 1) (sym empty) (omega arith)
    by false is = once

module _ (s t : State) (job : ℕ) (h : Held) (orderly : IsOrderly s) (here : held_at s.held job ≡ Some h) (once : EndOnce s) where
  own_none : endings h.by.job.0 h.by.rev s.log ≡ []
  own_none = subst (λ (x : Option Held). IfSome x (λ k. endings k.by.job.0 k.by.rev s.log ≡ [])) here (once.going job)

  other_going : (now : Option Held) → HeldAfter job now s.held t.held
      → ((k : Held) → h.by.job.0 ≢ k.by.job.0 → endings k.by.job.0 k.by.rev t.log ≡ endings k.by.job.0 k.by.rev s.log)
      → IfSome now (λ k. endings k.by.job.0 k.by.rev t.log ≡ [])
      → (other : ℕ) → IfSome (held_at t.held other) (λ k. endings k.by.job.0 k.by.rev t.log ≡ [])
  other_going now after same own other = elim (number_cases other job) [
    | inl is ↦
        subst (λ (x : Option Held). IfSome x (λ k. endings k.by.job.0 k.by.rev t.log ≡ []))
        (sym (ap (held_at t.held) is ∙ held_same job now s.held t.held after)) own
    | inr apart ↦
        subst (λ (x : Option Held). IfSome x (λ k. endings k.by.job.0 k.by.rev t.log ≡ []))
        (sym (held_other job now s.held t.held other after apart))
        (one other apart (held_at s.held other) (orderly.held other) (once.going other))
  ]
    where
      one : (other : ℕ) → other ≢ job → (found : Option Held) → IfSome found (IsHeldAs s.admitted other)
          → IfSome found (λ k. endings k.by.job.0 k.by.rev s.log ≡ []) → IfSome found (λ k. endings k.by.job.0 k.by.rev t.log ≡ [])
      one other apart None as_held none = tt
      one other apart (Some k) as_held none =
          same k (λ e. apart (sym as_held.job ∙ sym e ∙ (is_held s job h orderly here).job)) ∙ none

  -- nothing ended
  unended_once : (now : Option Held) → HeldAfter job now s.held t.held → IfSome now (λ k. k.by ≡ h.by) → Unended h.by s.log t.log
      → EndOnce t
  unended_once now after same wrote = record {
    once = λ j r. subst (λ (xs : List Status). length xs ≤ 1) (sym (same_endings j r h.by s.log t.log wrote)) (once.once j r);
    going = other_going now after (λ k apart. same_endings k.by.job.0 k.by.rev h.by s.log t.log wrote) (own now same);
  }
    where
      own : (now : Option Held) → IfSome now (λ k. k.by ≡ h.by) → IfSome now (λ k. endings k.by.job.0 k.by.rev t.log ≡ [])
      own None same = tt
      own (Some k) same =
          ap (λ (a : Admitted). endings a.job.0 a.rev t.log) same
          ∙ same_endings h.by.job.0 h.by.rev h.by s.log t.log wrote ∙ own_none

  -- the revision ended
  ended_once : (status : Status) (cause : Option Cause) (middle : List Entry) → HeldAfter job None s.held t.held
      → Unended h.by s.log middle → t.log ≡ entry_of h.by (what.Ended status cause) ∷ middle → EndOnce t
  ended_once status cause middle after wrote writes = record {
    once = λ j r. subst (λ (es : List Entry). length (endings j r es) ≤ 1) (sym writes)
        (one_ending j r h.by status cause middle
        (same_endings h.by.job.0 h.by.rev h.by s.log middle wrote ∙ own_none)
        (subst (λ (xs : List Status). length xs ≤ 1) (sym (same_endings j r h.by s.log middle wrote)) (once.once j r)));
    going = other_going None after (λ k apart.
        ap (endings k.by.job.0 k.by.rev) writes
        ∙ other_endings k.by.job.0 k.by.rev h.by (what.Ended status cause) middle apart
        ∙ same_endings k.by.job.0 k.by.rev h.by s.log middle wrote) tt;
  }

ends_once : (s t : State) (job : JobNo) (closed : Result Status Mark) → IsOrderly s → EndOnce s → Ends s t job closed → EndOnce t
ends_once s t job closed orderly once ends = at closed ends.closes
  where
    wrote : Unended ends.held.by s.log ends.mid.log
    wrote = comes_says ends.held s ends.mid ends.why ends.comes

    at : (closed : Result Status Mark) → Closes ends.held.by ends.why ends.mid t closed → EndOnce t
    at (Ok status) closes =
        ended_once s t job.0 ends.held orderly ends.here once status ends.why ends.mid.log ends.gone wrote closes.1
    at (Err mark) closes =
        unended_once s t job.0 ends.held orderly ends.here once None ends.gone tt
        (unended_then ends.held.by what.Dropped s.log ends.mid.log t.log tt wrote closes.0)

-- no step ends a revision twice
pub step_once : (s t : State) (job : JobNo) (answer : Stepped) → IsOrderly s → EndOnce s → Step s t job answer → EndOnce t
step_once s t job stepped.NotHere orderly once step = subst EndOnce (sym step.1) once
step_once s t job stepped.Did orderly once step =
    unended_once s t job.0 step.held orderly step.here once (Some (goes_on step.held step.work)) step.now (same_goes step.held step.work)
    (line_says step.held s t (Ok step.work) step.line)
step_once s t job (stepped.Lost mark) orderly once (inl drops) =
    unended_once s t job.0 drops.held orderly drops.here once None drops.gone tt
    (unended_one drops.held.by what.Dropped s.log t.log tt drops.log)
step_once s t job (stepped.Lost mark) orderly once (inr ends) = ends_once s t job (Err mark) orderly once ends
step_once s t job (stepped.Ended status) orderly once step = ends_once s t job (Ok status) orderly once step

-- a revision that was not admitted has not ended
new_endings : (all : List Admitted) (a : Admitted) (log : List Entry) → IsNew all a
    → AllByRecursion (λ e. IsSome (admitted_at all e.job.0 e.rev)) log → endings a.job.0 a.rev log ≡ []
new_endings all a [] new logged = refl
new_endings all a (e ∷ log) new logged = by (new_endings all a log new logged.1) (is_of a.job.0 a.rev e) refl
  where
    by : endings a.job.0 a.rev log ≡ [] → (b : Bool) → is_of a.job.0 a.rev e ≡ b
        → cons_option (if b then ended_as e.what else None) (endings a.job.0 a.rev log) ≡ []
    by rest true is =
        let both = both_true (nat_eq e.job.0 a.job.0) (nat_eq e.rev a.rev) is in
        let gone : admitted_at all e.job.0 e.rev ≡ None =
        ap (λ (j : ℕ). admitted_at all j e.rev) (eqb-true e.job.0 a.job.0 both.0)
        ∙ ap (admitted_at all a.job.0) (eqb-true e.rev a.rev both.1) ∙ new in
        let no : is_some {T = Admitted} None ≡ true = ap is_some (sym gone) ∙ logged.0 in cc
    by rest false is = rest

begins_once : (s t : State) (a : Admitted) → IsOrderly s → IsNew s.admitted a → EndOnce s → Begins s t a → EndOnce t
begins_once s t a orderly new once begins = record {
  once = λ j r. subst (λ (xs : List Status). length xs ≤ 1) (sym (same j r)) (once.once j r);
  going = λ other. elim (number_cases other a.job.0) [
    | inl is ↦
        subst (λ (x : Option Held). IfSome x (λ k. endings k.by.job.0 k.by.rev t.log ≡ []))
        (sym (ap (held_at t.held) is ∙ held_same a.job.0 (Some (held_first a)) s.held t.held begins.held))
        (same a.job.0 a.rev ∙ new_endings s.admitted a s.log new orderly.logged)
    | inr apart ↦
        subst (λ (x : Option Held). IfSome x (λ k. endings k.by.job.0 k.by.rev t.log ≡ []))
        (sym (held_other a.job.0 (Some (held_first a)) s.held t.held other begins.held apart))
        (one (held_at s.held other) (once.going other))
  ];
}
  where
    same : (j r : ℕ) → endings j r t.log ≡ endings j r s.log
    same j r = same_endings j r a s.log t.log (unended_one a what.Began s.log t.log tt begins.log)

    one : (found : Option Held) → IfSome found (λ k. endings k.by.job.0 k.by.rev s.log ≡ [])
        → IfSome found (λ k. endings k.by.job.0 k.by.rev t.log ≡ [])
    one None none = tt
    one (Some k) none = same k.by.job.0 k.by.rev ∙ none

pub admits_once : (s t : State) (a : Admitted) (answer : Admit) → IsOrderly s → IsNew s.admitted a → EndOnce s → Admits s t a answer
    → EndOnce t
admits_once s t a admit.Began orderly new once admits = begins_once s t a orderly new once admits
admits_once s t a (admit.Lost mark) orderly new once admits = subst EndOnce (sym admits) once
admits_once s t a admit.Memory orderly new once admits = subst EndOnce (sym admits) once
