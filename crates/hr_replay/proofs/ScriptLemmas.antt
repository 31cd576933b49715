-- What a text stands for, put together from its lines, its opening and its run.
use Rattle.std.proofs.Common.{◌≡◌, ◌<◌, ℕ, zero, suc, List, [], ◌∷◌, ◌++◌, length, get_or, slice_get, inl, inr, refl, ap, subst, arith}
use Rattle.std.specs.Prelude.{Option, Some, None, IfSome, Ok}
use Rattle.std.specs.List.{AllByRecursion, Contains}
use Rattle.hr_base.specs.Bytes.{ByteList, Text}
use Rattle.hr_event.specs.declared.event.Event.{Event}
use Rattle.hr_event.specs.declared.event.Event.TheVariants.{Finish}
use Rattle.hr_event.specs.declared.told.Told.{Told}
use Rattle.hr_event.specs.declared.task.TaskSpec.{TaskSpec}
use Rattle.hr_copyable.specs.Canonical.{AreCanonical}
use Rattle.hr_copyable.specs.Copyable.{IsCopyable}
use Rattle.hr_copyable.specs.LineTexts.{StoreOneText}
use Rattle.hr_line.specs.Run.{IsOpening}
use Rattle.hr_line.specs.State.{Link, State}
use Rattle.hr_memreg.specs.Mem.{Mem}
use Rattle.hr_opening.specs.Opening.{Opens, after_lines}
use Rattle.hr_opening.specs.Plan.{plan_of}
use Rattle.hr_opening.specs.Setup.{Setups, no_setups, registries_of, setup_in}
use Rattle.hr_opening.specs.declared.opening.Opened.{Opened}
use Rattle.hr_run.specs.Arrives.{Arrives, AskForAll, CanArrive, ExecsSucceed, IsTaskCopied, LanesHaveSource, RunsThrough}
use Rattle.hr_run.specs.Claims.{AllConfirmed, AllDone, LanesHold, OneEach, OneFinal, RowsTell}
use Rattle.hr_run.specs.Finish.{Finishes}
use Rattle.hr_run.specs.Holds.{HasAttempts, Holds}
use Rattle.hr_run.specs.Run.{Runs}
use Rattle.hr_run.specs.Sound.{IsSound}
use Rattle.hr_run.specs.State.{CoreState, opening}
use Rattle.hr_script.specs.Reading.{IsReading}
use Rattle.hr_script.specs.declared.reading.Lines.{Lines}
use Rattle.hr_store.specs.Row.{RowState}
use Rattle.hr_store.specs.Store.{row_of_job}
use Rattle.hr_whole.specs.Texts.{HaveSources}
use Rattle.hr_replay.specs.Connect.{TARGET, dests_of, first_core, first_lane, sources_of}
use Rattle.hr_replay.specs.Replay.{EndsWell, HasStatus, IsListed, IsReliable, IsReplayed, IsRun, OpensClear, StandsWhole}
use Rattle.hr_replay.specs.declared.ending.Ending.{Ending}
use Rattle.hr_replay.proofs.ConnectLemmas.{opens_in, plan_has_sources, plan_tries_in}
use Rattle.hr_replay.proofs.CopyableLemmas.{can_arrive, ends_well, is_target, opens_one_text}
use Rattle.hr_replay.proofs.RunLemmas.{ends_by, sound_behind, through_runs}

-- what holds behind events of a core that opens so
abbrev pub Behind : (List State → CoreState → Type 0) → Type 0
Behind P = (lanes : List State) (others : List Link) (plan : Option (List TaskSpec)) (jobs : ℕ) (events : List Event) (said : List Told)
    (t : CoreState) → AllByRecursion IsOpening lanes → IfSome plan (AllByRecursion HasAttempts) → IsSound (opening lanes others plan jobs)
    → Runs (opening lanes others plan jobs) events said t → P lanes t

-- the laws of cores that are used
pub record Laws : Type 0 where
  pub state : Behind (λ lanes t. Holds t)
  pub lanes : Behind (λ lanes t. LanesHold lanes t.lanes)
  pub final : (s : CoreState) → Holds s → OneFinal s
  pub each : (s : CoreState) → Holds s → OneEach s
  pub confirmed : (s : CoreState) → Holds s → AllConfirmed s
  pub rows : (s : CoreState) → Holds s → RowsTell s
  pub done : (s t : CoreState) → Holds s → IsSound s → IsSound t → Finishes s t → AllDone t
  pub count : (lanes : List State) (others : List Link) (plan : Option (List TaskSpec)) (jobs : ℕ) (events : List Event) (said : List Told)
      (t : CoreState) → RunsThrough (opening lanes others plan jobs) events said t → length t.lanes ≡ length lanes
  pub sources : (lanes : List State) (others : List Link) (plan : Option (List TaskSpec)) (jobs : ℕ) (events : List Event) (said : List Told)
      (t : CoreState) (place : ℕ) (lane now : State) → Holds t → RunsThrough (opening lanes others plan jobs) events said t
      → IfSome plan (AllByRecursion (LanesHaveSource lanes)) → slice_get lanes place ≡ Some lane → slice_get t.lanes place ≡ Some now
      → HaveSources lane now
  pub copied : (s : CoreState) (job : ℕ) (row : RowState) → Holds s → ExecsSucceed s → row_of_job job s.store.kept ≡ Some row
      → IsTaskCopied s job row.spec
  pub arrives : (lanes : List State) (others : List Link) (plan : Option (List TaskSpec)) (jobs : ℕ) (events : List Event) (said : List Told)
      (t : CoreState) → AllByRecursion IsOpening lanes → IfSome plan (AllByRecursion HasAttempts) → IsSound (opening lanes others plan jobs)
      → CanArrive lanes plan → AskForAll events → RunsThrough (opening lanes others plan jobs) events said t → Arrives t
  pub canonical : (text : ByteList) (read : Lines) (opens : Setups) → IsReading text read → after_lines no_setups read.lines ≡ Ok opens
      → AreCanonical read.lines → StoreOneText read.lines → IsCopyable opens

get_at : {X : Type 0} (xs : List X) (k : ℕ) (x : X) → k < length xs → get_or xs k x ≡ x → slice_get xs k ≡ Some x
get_at [] k x l e = absurd (omega (arith, l))
get_at (y ∷ xs) zero x l e = ap Some e
get_at (y ∷ xs) (suc k) x l e = get_at xs k x (omega (arith, l)) e

-- the only one of a list stands at its front
get_only : {X : Type 0} (xs : List X) (x : X) → length xs ≡ 1 → Contains xs x → slice_get xs 0 ≡ Some x
get_only xs x one (zero, less, is) = get_at xs 0 x less is
get_only xs x one (suc k, less, is) = absurd (omega (arith, one, less))

module _ (laws : Laws) (setups : Setups) (jobs : ℕ) (eight : length (registries_of setups) ≡ 8) (sound : IsSound (first_core setups jobs)) where
  new : AllByRecursion IsOpening (first_lane setups ∷ [])
  new = (
    opens_in (registries_of setups) (sources_of (registries_of setups)) (dests_of (registries_of setups)) (first_lane setups) eight refl refl,
    tt,
  )

  tries : IfSome (plan_of (setup_in setups 1).content) (AllByRecursion HasAttempts)
  tries = plan_tries_in (registries_of setups) eight (setup_in setups 1).content (plan_of (setup_in setups 1).content) refl

  module _ (events : List Event) (said : List Told) (t : CoreState) (runs : RunsThrough (first_core setups jobs) events said t) where
    holds : Holds t
    holds = laws.state (first_lane setups ∷ []) [] (plan_of (setup_in setups 1).content) jobs events said t new tries sound
        (through_runs events (first_core setups jobs) t said runs)

    keep : LanesHold (first_lane setups ∷ []) t.lanes
    keep = laws.lanes (first_lane setups ∷ []) [] (plan_of (setup_in setups 1).content) jobs events said t new tries sound
        (through_runs events (first_core setups jobs) t said runs)

    stands_whole : OpensClear setups → StandsWhole t
    stands_whole clear lane seen c there link tells =
        let one = laws.count (first_lane setups ∷ []) [] (plan_of (setup_in setups 1).content) jobs events said t runs in
        let now = get_only t.lanes lane one there in
        ((keep 0 (first_lane setups) lane refl now).complete TARGET (setup_in setups 2).content c
        (is_target setups lane seen c eight clear link tells)).opened (opens_one_text setups eight clear)
        (laws.sources (first_lane setups ∷ []) [] (plan_of (setup_in setups 1).content) jobs events said t 0 (first_lane setups) lane holds runs
        (plan_has_sources (registries_of setups) eight (setup_in setups 1).content) refl now)

    reliable : IsReliable setups t
    reliable = record {
      lanes = keep;
      whole = stands_whole;
      final = laws.final t holds;
      each = laws.each t holds;
      confirmed = laws.confirmed t holds;
      rows = laws.rows t holds;
    }

    arrives : IsCopyable setups → IsListed setups → AskForAll events → Arrives t
    arrives can listed asks =
        laws.arrives (first_lane setups ∷ []) [] (plan_of (setup_in setups 1).content) jobs events said t new tries sound
        (can_arrive setups eight can listed) asks runs

  -- after a finish all is done
  done_behind : (front : List Event) (said : List Told) (t : CoreState) → RunsThrough (first_core setups jobs) (front ++ Finish ∷ []) said t
      → AllDone t
  done_behind front said t runs =
      let ends = ends_by front (first_core setups jobs) Finish said t runs in
      laws.done ends.before t (holds front ends.said ends.before ends.runs)
      (sound_behind front (first_core setups jobs) ends.before ends.said sound ends.runs) ends.sound ends.does.0

all_succeeded : (s : CoreState) (status : ℕ) → HasStatus s status → status ≡ 0 → ExecsSucceed s
all_succeeded s status has at_0 = elim has [
  | inl done ↦ done.0
  | inr failed ↦ let seven = failed.1 in absurd (omega (arith, at_0, seven))
]

pub replayed : Laws → (text : ByteList) (lines : Lines) (opened : Opened) (kept : Ending) (said : Text) (status : ℕ) → IsReading text lines
    → lines.fault ≡ None → Opens lines.lines opened → length opened.regs ≡ 8
    → ((setups : Setups) → opened.regs ≡ registries_of setups → IsRun (first_core setups opened.jobs) opened.events kept said status)
    → ((setups : Setups) → opened.regs ≡ registries_of setups → IsSound (first_core setups opened.jobs)) → IsReplayed text kept said status
replayed laws text lines opened kept said status reading whole opens eight runs sounds =
    let setups = opens.setups in
    let run : IsRun (first_core setups opened.jobs) opened.events kept said status = runs setups opens.regs in
    let sound = sounds setups opens.regs in
    let few : length (registries_of setups) ≡ 8 = subst (λ (xs : List Mem). length xs ≡ 8) opens.regs eight in
    let well : IsCopyable setups → IsListed setups → AskForAll opened.events → EndsWell run.after status =
    λ can listed asks.
    ends_well run.after status run.ends (arrives laws setups opened.jobs few sound opened.events run.told run.after run.runs can listed asks) in
    record {
      opens = setups;
      events = opened.events;
      jobs = opened.jobs;
      reads = record { lines = lines; reading = reading; whole = whole; opened = opens.opens; goes = opens.events; limits = opens.jobs };
      run = run;
      always = λ front behind answers mid split ran. reliable laws setups opened.jobs few sound front answers mid ran;
      done = λ front behind answers mid split ran. done_behind laws setups opened.jobs few sound front answers mid ran;
      reliable = reliable laws setups opened.jobs few sound opened.events run.told run.after run.runs;
      copied = λ at_0 job row there.
          laws.copied run.after job row (holds laws setups opened.jobs few sound opened.events run.told run.after run.runs)
          (all_succeeded run.after status run.ends at_0) there;
      arrives = well;
      canonical = λ are one listed asks. well (laws.canonical text lines setups reading opens.opens are one) listed asks;
    }
