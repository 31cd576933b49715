-- Admissions and steps keep a lane in order.
use Rattle.std.proofs.Common.{◌≡◌, ◌⊎◌, inl, inr, refl, sym, ap, subst, ◌∙◌, ℕ, Bool, true, false, ◌&&◌, List, [], ◌∷◌, ◌++◌}
use Rattle.std.proofs.lemmas.Bool.{eqb-true}
use Rattle.std.specs.Prelude.{◌≢◌, Option, Some, None, IfSome, IsSome, Result, Ok, Err, if◌then◌else◌, map, nat_eq, option_and_then}
use Rattle.std.specs.List.{AllByRecursion}
use Rattle.std.specs.Option.{is_some}
use Rattle.hr_base.specs.declared.number.JobNo.{JobNo}
use Rattle.hr_base.specs.declared.number.RegNo.{RegNo}
use Rattle.hr_base.specs.declared.status.Mark.{Mark}
use Rattle.hr_base.specs.declared.status.Status.{Status}
use Rattle.hr_event.specs.declared.cause.Cause.{Cause}
use Rattle.hr_event.specs.declared.entry.Entry.{Entry}
use Rattle.hr_event.specs.declared.entry.What.{What}
use Rattle.hr_event.specs.declared.entry.What.TheVariants as what
use Rattle.hr_journal.specs.Shown.{AreAlike}
use Rattle.hr_journal.proofs.ListLaws.{each_has, each_then}
use Rattle.hr_line.specs.Admission.{Admits, Begins, held_first}
use Rattle.hr_line.specs.Line.{LineEnd, entry_of}
use Rattle.hr_line.specs.Orderly.{IsHeldAs, IsNew, IsOrderly, admitted_at, place_at, placement}
use Rattle.hr_line.specs.State.{HeldAfter, State, held_at}
use Rattle.hr_line.specs.Step.{Closes, ComesToEnd, DoesLine, Drops, Ends, GoesOn, Step, goes_on}
use Rattle.hr_line.specs.declared.answer.Admit.{Admit}
use Rattle.hr_line.specs.declared.answer.Admit.TheVariants as admit
use Rattle.hr_line.specs.declared.answer.Stepped.{Stepped}
use Rattle.hr_line.specs.declared.answer.Stepped.TheVariants as stepped
use Rattle.hr_line.specs.declared.held.Admitted.{Admitted}
use Rattle.hr_line.specs.declared.held.Held.{Held}
use Rattle.hr_line.specs.declared.held.Work.{Work}
use Rattle.hr_line.proofs.LastLemmas.{Wrote, wrote_none, wrote_one, wrote_then}
use Rattle.hr_line.proofs.LinkLemmas.{equal_true, held_other, held_same, if_true, number_cases}
use Rattle.hr_line.proofs.WroteLemmas.{line_wrote}

-- ---- what was admitted

pub both_true : (a b : Bool) → (a && b) ≡ true → (a ≡ true) × (b ≡ true)
both_true true b is = (refl, is)
both_true false b is = cc

both_are : (a b : Bool) → a ≡ true → b ≡ true → (a && b) ≡ true
both_are true b first second = second
both_are false b first second = cc

-- the newest revision that was admitted is found
pub newest_admitted : (all : List Admitted) (a : Admitted) → admitted_at (a ∷ all) a.job.0 a.rev ≡ Some a
newest_admitted all a =
    if_true (nat_eq a.job.0 a.job.0 && nat_eq a.rev a.rev) (Some a) (admitted_at all a.job.0 a.rev)
    (both_are (nat_eq a.job.0 a.job.0) (nat_eq a.rev a.rev) (equal_true a.job.0 a.job.0 refl) (equal_true a.rev a.rev refl))

-- what was admitted before is found as before
pub older_admitted : (all : List Admitted) (a : Admitted) (job rev : ℕ) → IsNew all a → IsSome (admitted_at all job rev)
    → admitted_at (a ∷ all) job rev ≡ admitted_at all job rev
older_admitted all a job rev new some = by (nat_eq a.job.0 job && nat_eq a.rev rev) refl
  where
    by : (same : Bool) → (nat_eq a.job.0 job && nat_eq a.rev rev) ≡ same
        → (if same then Some a else admitted_at all job rev) ≡ admitted_at all job rev
    by false is = refl
    by true is =
        let both = both_true (nat_eq a.job.0 job) (nat_eq a.rev rev) is in
        let gone : admitted_at all job rev ≡ None =
        ap (λ (j : ℕ). admitted_at all j rev) (sym (eqb-true a.job.0 job both.0))
        ∙ ap (admitted_at all a.job.0) (sym (eqb-true a.rev rev both.1)) ∙ new in
        let no : is_some {T = Admitted} None ≡ true = ap is_some (sym gone) ∙ some in cc

some_admitted : (found : Option Admitted) (a : Admitted) → found ≡ Some a → IsSome found
some_admitted found a is = subst (λ (x : Option Admitted). IsSome x) (sym is) refl

-- what a journal says of a destination is placed as before
pub places_alike : (reg : RegNo) (all : List Admitted) (a : Admitted) (log : List Entry) → IsNew all a
    → AllByRecursion (λ e. IsSome (admitted_at all e.job.0 e.rev)) log
    → AreAlike (placement reg all) (placement reg (a ∷ all)) log
places_alike reg all a log new logged e within =
    ap (option_and_then (place_at reg))
    (sym (older_admitted all a e.job.0 e.rev new (each_has (λ (x : Entry). IsSome (admitted_at all x.job.0 x.rev)) log logged e within)))

-- ---- a revision that is held

pub is_held : (s : State) (job : ℕ) (h : Held) → IsOrderly s → held_at s.held job ≡ Some h → IsHeldAs s.admitted job h
is_held s job h orderly here = subst (λ (x : Option Held). IfSome x (IsHeldAs s.admitted job)) here (orderly.held job)

-- what one step of a job leaves of a lane, whatever it is: entries of the revision that it held
pub record Turned (s t : State) (job : ℕ) : Type 0 where
  pub held : Held
  pub here : held_at s.held job ≡ Some held
  pub wrote : Wrote held.by s.log t.log
  pub admitted : t.admitted ≡ s.admitted
  pub now : Option Held
  pub same : IfSome now (λ h. h.by ≡ held.by)
  pub after : HeldAfter job now s.held t.held

pub line_does : (h : Held) (s t : State) (end : LineEnd) → DoesLine h s t end → Wrote h.by s.log t.log
line_does h s t end line = line_wrote h.by s.log t.log end line.tag h.work line.f line.g line.p line.q line.line

pub same_goes : (h : Held) (work : Option Work) → (goes_on h work).by ≡ h.by
same_goes h None = refl
same_goes h (Some w) = refl

pub end_wrote : (h : Held) (s t : State) (why : Option Cause) → ComesToEnd h s t why → Wrote h.by s.log t.log
end_wrote h s t None comes = wrote_none h.by s.log t.log comes.1.log
end_wrote h s t (Some why) (inl line) = line_does h s t (Err why) line
end_wrote h s t (Some why) (inr rests) = wrote_none h.by s.log t.log rests.1.log

pub end_admitted : (h : Held) (s t : State) (why : Option Cause) → ComesToEnd h s t why → t.admitted ≡ s.admitted
end_admitted h s t None comes = comes.1.admitted
end_admitted h s t (Some why) (inl line) = line.admitted
end_admitted h s t (Some why) (inr rests) = rests.1.admitted

pub closes_wrote : (a : Admitted) (why : Option Cause) (log : List Entry) (s t : State) (closed : Result Status Mark) → Wrote a log s.log
    → Closes a why s t closed → Wrote a log t.log
closes_wrote a why log s t (Ok status) wrote closes = wrote_then a (what.Ended status why) log s.log t.log wrote closes.1
closes_wrote a why log s t (Err mark) wrote closes = wrote_then a what.Dropped log s.log t.log wrote closes.0

ends_turned : (s t : State) (job : JobNo) (closed : Result Status Mark) → Ends s t job closed → Turned s t job.0
ends_turned s t job closed ends = record {
  held = ends.held;
  here = ends.here;
  wrote = closes_wrote ends.held.by ends.why s.log ends.mid t closed (end_wrote ends.held s ends.mid ends.why ends.comes) ends.closes;
  admitted = ends.admitted ∙ end_admitted ends.held s ends.mid ends.why ends.comes;
  now = None;
  same = tt;
  after = ends.gone;
}

drops_turned : (s t : State) (job : JobNo) → Drops s t job → Turned s t job.0
drops_turned s t job drops = record {
  held = drops.held;
  here = drops.here;
  wrote = wrote_one drops.held.by what.Dropped s.log t.log drops.log;
  admitted = drops.admitted;
  now = None;
  same = tt;
  after = drops.gone;
}

goes_turned : (s t : State) (job : JobNo) → GoesOn s t job → Turned s t job.0
goes_turned s t job goes = record {
  held = goes.held;
  here = goes.here;
  wrote = line_does goes.held s t (Ok goes.work) goes.line;
  admitted = goes.line.admitted;
  now = Some (goes_on goes.held goes.work);
  same = same_goes goes.held goes.work;
  after = goes.now;
}

-- a step leaves the lane as it is, or is one of a revision that it held
pub turned : (s t : State) (job : JobNo) (answer : Stepped) → Step s t job answer → (t ≡ s) ⊎ Turned s t job.0
turned s t job stepped.NotHere step = inl step.1
turned s t job stepped.Did step = inr (goes_turned s t job step)
turned s t job (stepped.Lost mark) (inl drops) = inr (drops_turned s t job drops)
turned s t job (stepped.Lost mark) (inr ends) = inr (ends_turned s t job (Err mark) ends)
turned s t job (stepped.Ended status) step = inr (ends_turned s t job (Ok status) step)

-- ---- order

held_same_as : (all : List Admitted) (job : ℕ) (h k : Held) → k.by ≡ h.by → IsHeldAs all job h → IsHeldAs all job k
held_same_as all job h k same held = record {
  job = ap (λ (a : Admitted). a.job.0) same ∙ held.job;
  admitted = ap (λ (a : Admitted). admitted_at all a.job.0 a.rev) same ∙ held.admitted ∙ ap Some (sym same);
}

now_held : (all : List Admitted) (job : ℕ) (h : Held) (now : Option Held) → IfSome now (λ k. k.by ≡ h.by) → IsHeldAs all job h
    → IfSome now (IsHeldAs all job)
now_held all job h None same held = tt
now_held all job h (Some k) same held = held_same_as all job h k same held

more_logged : (all : List Admitted) (a : Admitted) (more : List What) (log : List Entry) → IsSome (admitted_at all a.job.0 a.rev)
    → AllByRecursion (λ e. IsSome (admitted_at all e.job.0 e.rev)) log
    → AllByRecursion (λ e. IsSome (admitted_at all e.job.0 e.rev)) (map (entry_of a) more ++ log)
more_logged all a [] log own logged = logged
more_logged all a (said ∷ more) log own logged = (own, more_logged all a more log own logged)

turned_orderly : (s t : State) (job : ℕ) → IsOrderly s → Turned s t job → IsOrderly t
turned_orderly s t job orderly turn = record {
  held = λ other. subst (λ (all : List Admitted). IfSome (held_at t.held other) (IsHeldAs all other)) (sym turn.admitted)
      (elim (number_cases other job) [ inl is ↦ own other is | inr apart ↦ kept other apart ]);
  logged = subst (λ (all : List Admitted). AllByRecursion (λ e. IsSome (admitted_at all e.job.0 e.rev)) t.log) (sym turn.admitted)
      (subst (λ (es : List Entry). AllByRecursion (λ e. IsSome (admitted_at s.admitted e.job.0 e.rev)) es) (sym turn.wrote.joined)
      (more_logged s.admitted turn.held.by turn.wrote.more s.log
      (some_admitted (admitted_at s.admitted turn.held.by.job.0 turn.held.by.rev) turn.held.by held.admitted) orderly.logged));
}
  where
    held : IsHeldAs s.admitted job turn.held
    held = is_held s job turn.held orderly turn.here

    own : (other : ℕ) → other ≡ job → IfSome (held_at t.held other) (IsHeldAs s.admitted other)
    own other is =
        subst (λ (j : ℕ). IfSome (held_at t.held j) (IsHeldAs s.admitted j)) (sym is)
        (subst (λ (x : Option Held). IfSome x (IsHeldAs s.admitted job)) (sym (held_same job turn.now s.held t.held turn.after))
        (now_held s.admitted job turn.held turn.now turn.same held))

    kept : (other : ℕ) → other ≢ job → IfSome (held_at t.held other) (IsHeldAs s.admitted other)
    kept other apart =
        subst (λ (x : Option Held). IfSome x (IsHeldAs s.admitted other))
        (sym (held_other job turn.now s.held t.held other turn.after apart)) (orderly.held other)

-- each step keeps a lane in order
pub step_orderly : (s t : State) (job : JobNo) (answer : Stepped) → IsOrderly s → Step s t job answer → IsOrderly t
step_orderly s t job answer orderly step = elim (turned s t job answer step) [
  | inl same ↦ subst IsOrderly (sym same) orderly
  | inr turn ↦ turned_orderly s t job.0 orderly turn
]

-- ---- an admission

still_held : (all : List Admitted) (a : Admitted) (job : ℕ) (found : Option Held) → IsNew all a → IfSome found (IsHeldAs all job)
    → IfSome found (IsHeldAs (a ∷ all) job)
still_held all a job None new held = tt
still_held all a job (Some h) new held = record {
  job = held.job;
  admitted = older_admitted all a h.by.job.0 h.by.rev new
      (some_admitted (admitted_at all h.by.job.0 h.by.rev) h.by held.admitted) ∙ held.admitted;
}

still_logged : (all : List Admitted) (a : Admitted) (log : List Entry) → IsNew all a
    → AllByRecursion (λ e. IsSome (admitted_at all e.job.0 e.rev)) log
    → AllByRecursion (λ e. IsSome (admitted_at (a ∷ all) e.job.0 e.rev)) log
still_logged all a log new logged =
    each_then {P = λ e. IsSome (admitted_at all e.job.0 e.rev)} {Q = λ e. IsSome (admitted_at (a ∷ all) e.job.0 e.rev)}
    (λ e some. subst (λ (x : Option Admitted). IsSome x) (sym (older_admitted all a e.job.0 e.rev new some)) some) log logged

begins_orderly : (s t : State) (a : Admitted) → IsOrderly s → IsNew s.admitted a → Begins s t a → IsOrderly t
begins_orderly s t a orderly new begins = record {
  held = λ other. subst (λ (all : List Admitted). IfSome (held_at t.held other) (IsHeldAs all other)) (sym begins.admitted)
      (elim (number_cases other a.job.0) [ inl is ↦ own other is | inr apart ↦ kept other apart ]);
  logged = subst (λ (all : List Admitted). AllByRecursion (λ e. IsSome (admitted_at all e.job.0 e.rev)) t.log) (sym begins.admitted)
      (subst (λ (es : List Entry). AllByRecursion (λ e. IsSome (admitted_at (a ∷ s.admitted) e.job.0 e.rev)) es) (sym begins.log) (
        some_admitted (admitted_at (a ∷ s.admitted) a.job.0 a.rev) a (newest_admitted s.admitted a),
        still_logged s.admitted a s.log new orderly.logged,
      ));
}
  where
    own : (other : ℕ) → other ≡ a.job.0 → IfSome (held_at t.held other) (IsHeldAs (a ∷ s.admitted) other)
    own other is =
        subst (λ (x : Option Held). IfSome x (IsHeldAs (a ∷ s.admitted) other))
        (sym (ap (held_at t.held) is ∙ held_same a.job.0 (Some (held_first a)) s.held t.held begins.held))
        (record { job = sym is; admitted = newest_admitted s.admitted a })

    kept : (other : ℕ) → other ≢ a.job.0 → IfSome (held_at t.held other) (IsHeldAs (a ∷ s.admitted) other)
    kept other apart =
        still_held s.admitted a other (held_at t.held other) new
        (subst (λ (x : Option Held). IfSome x (IsHeldAs s.admitted other))
        (sym (held_other a.job.0 (Some (held_first a)) s.held t.held other begins.held apart)) (orderly.held other))

-- each admission of a revision that wasn't admitted before keeps a lane in order
pub admits_orderly : (s t : State) (a : Admitted) (answer : Admit) → IsOrderly s → IsNew s.admitted a → Admits s t a answer
    → IsOrderly t
admits_orderly s t a admit.Began orderly new admits = begins_orderly s t a orderly new admits
admits_orderly s t a (admit.Lost mark) orderly new admits = subst IsOrderly (sym admits) orderly
admits_orderly s t a admit.Memory orderly new admits = subst IsOrderly (sym admits) orderly
