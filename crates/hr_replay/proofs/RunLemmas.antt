-- Events one after the other, put together.
use Rattle.std.proofs.Common.{◌≡◌, ◌<◌, ◌≤◌, ◌+◌, ℕ, zero, suc, List, [], ◌∷◌, ◌++◌, length, get_or, take, refl, sym, ap, subst, ◌∙◌, append_assoc, inl, inr, ◌&&◌, arith}
use Rattle.std.specs.Prelude.{true, false, Bool, map}
use Rattle.std.specs.List.{All, AllByRecursion, list_all}
use Rattle.std.proofs.lemmas.List.{append-nil, take_all, take_more}
use Rattle.std.proofs.lemmas.List.Elements.{All-append, All-from_recursion, All-nil}
use Rattle.hr_event.specs.declared.event.Event.{Event}
use Rattle.hr_event.specs.declared.event.Event.TheVariants as event
use Rattle.hr_event.specs.declared.told.Told.{Told}
use Rattle.hr_event.specs.declared.view.ExecStatus.{ExecStatus}
use Rattle.hr_event.specs.declared.view.ExecStatus.TheVariants as stands
use Rattle.hr_core.specs.Comes.{IsTaken}
use Rattle.hr_opening.specs.Fit.{IsScripted}
use Rattle.hr_print.specs.Text.{HasText}
use Rattle.hr_run.specs.Arrives.{RunsThrough}
use Rattle.hr_run.specs.Run.{Does, Runs}
use Rattle.hr_run.specs.Sound.{IsSound}
use Rattle.hr_run.specs.State.{CoreState}
use Rattle.hr_store.specs.Execution.{ExecState, exec_view}
use Rattle.hr_replay.specs.Replay.{HasStatus}
use Rattle.hr_replay.specs.Success.{is_succeed, view_succeeds}

-- each answer to events has a text, where each one to an event has
pub runs_have_texts : ((s t : CoreState) (event : Event) (answers : List Told) → Does s event answers t → AllByRecursion HasText answers)
    → (s : CoreState) (events : List Event) (said : List Told) (t : CoreState) → RunsThrough s events said t → All HasText said
runs_have_texts law s [] said t (same, none) = subst (λ (xs : List Told). All HasText xs) (sym none) (All-nil HasText)
runs_have_texts law s (e ∷ events) said t (mid, answers, later, does, sound, runs, is) =
    subst (λ (xs : List Told). All HasText xs) (sym is)
    (All-append HasText answers later (All-from_recursion HasText answers (law s mid e answers does)) (runs_have_texts law mid events later t runs))

-- events that were all done are events
pub through_runs : (events : List Event) (s t : CoreState) (said : List Told) → RunsThrough s events said t → Runs s events said t
through_runs [] s t said (same, none) =
    subst (λ (x : CoreState). Runs s [] said x) (sym same) (subst (λ (ts : List Told). Runs s [] ts s) (sym none) (Runs.ended s))
through_runs (e ∷ events) s t said (mid, answers, later, does, sound, runs, is) =
    subst (λ (ts : List Told). Runs s (e ∷ events) ts t) (sym is)
    (Runs.then s mid t e events answers later does sound (through_runs events mid t later runs))

-- ---- one event more

runs_more : (first : CoreState) (events : List Event) (said : List Told) (mid : CoreState) (e : Event) (answers : List Told) (after : CoreState)
    → RunsThrough first events said mid → Does mid e answers after → IsSound after → RunsThrough first (events ++ e ∷ []) (said ++ answers) after
runs_more first [] said mid e answers after (same, none) does sound =
    let start : Does first e answers after = subst (λ (s : CoreState). Does s e answers after) same does in (
      after,
      answers,
      [],
      start,
      sound,
      (refl, refl),
      ap (λ (t : List Told). t ++ answers) none ∙ sym (append-nil answers),
    )
runs_more first (f ∷ events) said mid e answers after (next, told, later, did, well, runs, is) does sound = (
  next,
  told,
  later ++ answers,
  did,
  well,
  runs_more next events later mid e answers after runs does sound,
  ap (λ (t : List Told). t ++ answers) is ∙ append_assoc told later answers,
)

run_step : (first : CoreState) (events : List Event) (at : ℕ) (d : Event) (said new : List Told) (mid after : CoreState) → at < length events
    → RunsThrough first (take at events) said mid → (answers : List Told) → new ≡ said ++ answers → Does mid (get_or events at d) answers after
    → IsSound after → RunsThrough first (take (at + 1) events) new after
run_step first events at d said new mid after within runs answers made does sound =
    subst (λ (es : List Event). RunsThrough first es new after) (sym (take_more events at d within))
    (subst (λ (t : List Told). RunsThrough first (take at events ++ get_or events at d ∷ []) t after) (sym made)
    (runs_more first (take at events) said mid (get_or events at d) answers after runs does sound))

pub taken_at : (events : List Event) (at : ℕ) (d : Event) → at < length events → AllByRecursion IsTaken events → IsTaken (get_or events at d)
taken_at [] at d within all = absurd (omega (arith, within))
taken_at (f ∷ events) zero d within all = all.0
taken_at (f ∷ events) (suc at) d within all = taken_at events at d (omega (arith, within)) all.1

-- ---- the last event

-- the last of these events was done behind the others
pub record EndsBy (first : CoreState) (front : List Event) (e : Event) (t : CoreState) : Type 0 where
  pub before : CoreState
  pub said : List Told
  pub answers : List Told
  pub runs : RunsThrough first front said before
  pub does : Does before e answers t
  pub sound : IsSound t

pub ends_by : (front : List Event) (first : CoreState) (e : Event) (said : List Told) (t : CoreState)
    → RunsThrough first (front ++ e ∷ []) said t → EndsBy first front e t
ends_by [] first e said t (mid, answers, later, does, sound, (same, none), is) = record {
  before = first;
  said = [];
  answers = answers;
  runs = (refl, refl);
  does = subst (λ (x : CoreState). Does first e answers x) (sym same) does;
  sound = subst IsSound (sym same) sound;
}
ends_by (f ∷ front) first e said t (mid, answers, later, does, sound, runs, is) = let ends = ends_by front mid e later t runs in record {
  before = ends.before;
  said = answers ++ ends.said;
  answers = ends.answers;
  runs = (mid, answers, ends.said, does, sound, ends.runs, refl);
  does = ends.does;
  sound = ends.sound;
}

-- the core is sound behind events, where it was before them
pub sound_behind : (events : List Event) (s t : CoreState) (said : List Told) → IsSound s → RunsThrough s events said t → IsSound t
sound_behind [] s t said sound (same, none) = subst IsSound (sym same) sound
sound_behind (e ∷ events) s t said sound (mid, answers, later, does, well, runs, is) = sound_behind events mid t later well runs

-- ---- so far

-- so many of the events were done
abbrev pub Done : CoreState → List Event → ℕ → List Told → CoreState → Type 0
Done first events at said now = RunsThrough first (take at events) said now

pub none_done : (first : CoreState) (events : List Event) (said : List Told) → said ≡ [] → Done first events 0 said first
none_done first events said none = (refl, none)

pub one_done : (first : CoreState) (events : List Event) (at : ℕ) (d : Event) (said new : List Told) (mid after : CoreState) (answers : List Told)
    → at < length events → Done first events at said mid → new ≡ said ++ answers → Does mid (get_or events at d) answers after → IsSound after
    → Done first events (at + 1) new after
one_done first events at d said new mid after answers within done made does sound =
    run_step first events at d said new mid after within done answers made does sound

pub all_done : (first : CoreState) (events items : List Event) (at : ℕ) (said : List Told) (now : CoreState) → items ≡ events → length items ≤ at
    → Done first items at said now → RunsThrough first events said now
all_done first events items at said now same past done =
    subst (λ (es : List Event). RunsThrough first es said now) (take_all at items past ∙ same) done

pub can_take : (events items : List Event) (at : ℕ) (d : Event) → items ≡ events → at < length items → AllByRecursion IsTaken events
    → IsTaken (get_or items at d)
can_take events items at d same within all =
    taken_at items at d within (subst (λ (es : List Event). AllByRecursion IsTaken es) (sym same) all)

-- ---- the events of a script are those that a core takes

event_taken : (e : Event) → IsScripted e → IsTaken e
event_taken (event.Trigger policy) fit = tt
event_taken event.Take fit = tt
event_taken (event.Step job) fit = tt
event_taken (event.Settle job) fit = tt
event_taken (event.Stop job) fit = tt
event_taken event.Finish fit = tt
event_taken (event.Tags reg) fit = tt
event_taken (event.Word job rev) fit = fit
event_taken (event.CauseOf job) fit = tt
event_taken (event.Deliver hook) fit = tt
event_taken (event.Wait seconds) fit = tt
event_taken (event.Sweep keep) fit = tt
event_taken (event.Row job) fit = tt
event_taken (event.Exec exec) fit = tt
event_taken (event.Forge hook) fit = fit
event_taken event.Due fit = absurd fit

pub all_taken : (events : List Event) → AllByRecursion IsScripted events → AllByRecursion IsTaken events
all_taken [] fit = tt
all_taken (e ∷ events) fit = (event_taken e fit.0, all_taken events fit.1)

-- ---- the status

succeed_is : (st : ExecStatus) → is_succeed st ≡ true → st ≡ stands.Succeed
succeed_is stands.InProgress e = cc
succeed_is stands.Succeed e = refl
succeed_is stands.Failed e = cc
succeed_is stands.Stopped e = cc

abbrev Succeeded : List ExecState → Type 0
Succeeded execs = AllByRecursion (λ (exec : ExecState). (exec_view exec).status ≡ stands.Succeed) execs

all_true : (execs : List ExecState) → list_all view_succeeds (map exec_view execs) ≡ true → Succeeded execs
all_true [] e = tt
all_true (exec ∷ execs) e = by (view_succeeds (exec_view exec)) refl e (all_true execs)
  where
    by : (b : Bool) → view_succeeds (exec_view exec) ≡ b → (b && list_all view_succeeds (map exec_view execs)) ≡ true
        → (list_all view_succeeds (map exec_view execs) ≡ true → Succeeded execs) → Succeeded (exec ∷ execs)
    by true is e later = (succeed_is (exec_view exec).status is, later e)
    by false is e later = cc

all_false : (execs : List ExecState) → list_all view_succeeds (map exec_view execs) ≡ false → Succeeded execs → ⊥
all_false [] e all = cc
all_false (exec ∷ execs) e all = by (view_succeeds (exec_view exec)) (ap is_succeed all.0) e (λ more. all_false execs more all.1)
  where
    by : (b : Bool) → b ≡ true → (b && list_all view_succeeds (map exec_view execs)) ≡ false
        → (list_all view_succeeds (map exec_view execs) ≡ false → ⊥) → ⊥
    by true is e later = later e
    by false is e later = cc

pub status_if : (s : CoreState) (b : Bool) (status : ℕ) → b ≡ list_all view_succeeds (map exec_view s.store.kept) → (b ≡ true → status ≡ 0)
    → (b ≡ false → status ≡ 7) → HasStatus s status
status_if s true status is well badly = inl (all_true s.store.kept (sym is), well refl)
status_if s false status is well badly = inr (all_false s.store.kept (sym is), badly refl)
