-- What holds of a lane after every run: its order, its promises, and what it read.
use Rattle.std.proofs.Common.{◌≡◌, ◌≤◌, inl, inr, refl, sym, ap, subst, ◌∙◌, ℕ, List, [], ◌∷◌, ◌++◌, length, arith}
use Rattle.std.specs.Prelude.{◌≢◌, Option, Some, None, IfSome, IsSome, IsTrue, map, nat_eq, Contains, take}
use Rattle.std.specs.List.{AllByRecursion, filter_map}
use Rattle.hr_base.specs.declared.number.JobNo.{JobNo}
use Rattle.hr_base.specs.declared.number.RegNo.{RegNo}
use Rattle.hr_event.specs.declared.entry.Entry.{Entry}
use Rattle.hr_event.specs.declared.entry.What.{What}
use Rattle.hr_event.specs.declared.entry.What.TheVariants as what
use Rattle.hr_event.specs.declared.cause.Cause.{Cause}
use Rattle.hr_base.specs.declared.status.Status.{Status}
use Rattle.hr_adapter.specs.Content.{Content, Honest}
use Rattle.hr_adapter.specs.Reg.{Reg}
use Rattle.hr_journal.specs.Origin.{WereThere}
use Rattle.hr_journal.specs.Promise.{Promise}
use Rattle.hr_journal.proofs.ListLaws.{each_has, each_then}
use Rattle.hr_journal.proofs.PromiseLaws.{promise_opens}
use Rattle.hr_line.specs.Causes.{AreCausesShown, IsCauseShown, SaysCause}
use Rattle.hr_line.specs.Hooks.{HooksTell, hook_from}
use Rattle.hr_line.specs.Kept.{WorkSeen}
use Rattle.hr_line.specs.Finals.{EndHolds, EndOnce, EndsHold, IsFinished, SaysEnd, endings}
use Rattle.hr_line.specs.Destination.{AreKept, HeldStands, IsKept}
use Rattle.hr_line.specs.Line.{entry_of}
use Rattle.hr_line.specs.Orderly.{IsHeldAs, IsOrderly, admitted_at, placement}
use Rattle.hr_line.specs.Run.{AreApart, Call, Happens, IsDestination, IsOpening, OthersStay, Runs, entries_of}
use Rattle.hr_line.specs.Sources.{AreSourced, origin}
use Rattle.hr_line.specs.Shows.{AreShowsRead, RootRead, SaysShow, ShowsHold}
use Rattle.hr_line.specs.State.{AreSound, Link, State, held_at, link_at}
use Rattle.hr_line.specs.Step.{Step, next_tag}
use Rattle.hr_line.specs.declared.answer.Stepped.{Stepped}
use Rattle.hr_line.specs.declared.held.Admitted.{Admitted}
use Rattle.hr_line.specs.declared.held.Held.{Held}
use Rattle.hr_line.proofs.CauseLemmas.{admits_causes, step_causes}
use Rattle.hr_line.proofs.EndLemmas.{admits_hold, step_holds}
use Rattle.hr_line.proofs.FinalLemmas.{admits_once, step_once}
use Rattle.hr_line.proofs.HookLemmas.{admits_hooks, step_hooks}
use Rattle.hr_line.proofs.KeptLemmas.{admits_keeps, step_keeps}
use Rattle.hr_line.proofs.LinkLemmas.{equal_false, equal_true, held_other, if_false, if_true, number_cases, registry_same}
use Rattle.hr_line.proofs.OrderlyLemmas.{Turned, admits_orderly, is_held, step_orderly, turned}
use Rattle.hr_line.proofs.ShowLemmas.{admits_read, step_read}
use Rattle.hr_line.proofs.OriginLemmas.{admits_sourced, step_sourced}

-- ---- the opening

pub opening_orderly : (s : State) → IsOpening s → IsOrderly s
opening_orderly s opening = record {
  held = λ job. subst (λ (hs : List Held). IfSome (held_at hs job) (IsHeldAs s.admitted job)) (sym opening.held) tt;
  logged = subst (λ (es : List Entry). AllByRecursion (λ e. IsSome (admitted_at s.admitted e.job.0 e.rev)) es) (sym opening.log) tt;
}

pub opening_causes : (s : State) → IsOpening s → AreCausesShown s
opening_causes s opening = record {
  logged = subst (λ (es : List Entry). AllByRecursion (λ e. IfSome (admitted_at s.admitted e.job.0 e.rev) (λ a. SaysCause s a e.what)) es)
      (sym opening.log) tt;
  held = λ job.
      subst (λ (hs : List Held). IfSome (held_at hs job) (λ h. IfSome h.work (WorkSeen h.by s.log))) (sym opening.held) tt;
}

pub opening_read : (s : State) → IsOpening s → AreShowsRead s
opening_read s opening = record {
  logged = subst (λ (es : List Entry). ShowsHold s.admitted es) (sym opening.log) tt;
  held = λ job.
      subst (λ (hs : List Held). IfSome (held_at hs job)
      (λ h. IfSome h.work (λ w. IfSome (next_tag h) (λ tag. RootRead h.by s.log tag w.walk.root)))) (sym opening.held) tt;
}

pub opening_sourced : (s : State) → IsOpening s → AreSourced s
opening_sourced s opening = subst (λ (es : List Entry). WereThere (origin s.sources s.admitted) es) (sym opening.log) tt

found_later : (l m : Link) (more : List Link) → link_at more l.reg ≡ None → link_at more m.reg ≡ Some m.seen
    → link_at (l ∷ more) m.reg ≡ Some m.seen
found_later l m more none there = elim (number_cases l.reg.0 m.reg.0) [
  | inl same ↦
      let both : None ≡ Some m.seen = sym none ∙ ap (link_at more) (registry_same l.reg m.reg same) ∙ there in cc
  | inr apart ↦ if_false (nat_eq l.reg.0 m.reg.0) (Some l.seen) (link_at more m.reg) (equal_false l.reg.0 m.reg.0 apart) ∙ there
]

-- each connection is the one to its registry
each_found : (links : List Link) → AreApart links → AllByRecursion (λ (l : Link). link_at links l.reg ≡ Some l.seen) links
each_found [] apart = tt
each_found (l ∷ more) apart = (
  if_true (nat_eq l.reg.0 l.reg.0) (Some l.seen) (link_at more l.reg) (equal_true l.reg.0 l.reg.0 refl),
  each_then {P = λ m. link_at more m.reg ≡ Some m.seen} {Q = λ m. link_at (l ∷ more) m.reg ≡ Some m.seen}
      (λ m there. found_later l m more apart.0 there) more (each_found more apart.1),
)

opening_kept_at : (s : State) (reg : RegNo) (now : Reg) (o : Content) → IsOpening s → link_at s.dests reg ≡ Some now
    → IsTrue now.quiet → now.told ≡ Some o → Honest o → IsKept s reg o
opening_kept_at s reg now o opening there quiet told honest = record {
  now = now;
  there = there;
  quiet = quiet;
  content = o;
  told = told;
  kept = record {
    promise = subst (λ (es : List Entry). Promise (placement reg s.admitted) o es o) (sym opening.log)
        (promise_opens (placement reg s.admitted) o honest);
    held = λ job.
        subst (λ (hs : List Held). IfSome (held_at hs job) (HeldStands reg (placement reg s.admitted) o s.log o)) (sym opening.held) tt;
  };
}

pub opening_keeps : (s : State) → IsOpening s → AreKept s.dests s
opening_keeps s opening =
    each_then {P = λ l. link_at s.dests l.reg ≡ Some l.seen}
    {Q = λ l. IsTrue l.seen.quiet → IfSome l.seen.told (λ o. Honest o → IsKept s l.reg o)}
    (λ l there quiet. one l there quiet l.seen.told refl) s.dests (each_found s.dests opening.apart)
  where
    one : (l : Link) → link_at s.dests l.reg ≡ Some l.seen → IsTrue l.seen.quiet → (told : Option Content) → l.seen.told ≡ told
        → IfSome told (λ o. Honest o → IsKept s l.reg o)
    one l there quiet None is = tt
    one l there quiet (Some o) is = λ honest. opening_kept_at s l.reg l.seen o opening there quiet is honest

-- ---- runs

-- what holds of a lane after a run from this opening
pub record HasRun (s t : State) : Type 0 where
  pub orderly : IsOrderly t
  pub kept : AreKept s.dests t
  pub sourced : AreSourced t
  pub causes : AreCausesShown t
  pub reads : AreShowsRead t

happens_on : (call : Call) (s mid t : State) → HasRun s mid → AreSound mid.sources → AreSound mid.dests → AreSound t.sources
    → Happens call mid t → HasRun s t
happens_on (Call.admit a answer) s mid t ran sources dests after happens = record {
  orderly = admits_orderly mid t a answer ran.orderly happens.0 happens.1;
  kept = admits_keeps s.dests mid t a answer ran.orderly happens.0 happens.1 ran.kept;
  sourced = admits_sourced mid t a answer ran.orderly happens.0 happens.1 ran.sourced;
  causes = admits_causes mid t a answer ran.orderly happens.0 ran.causes happens.1;
  reads = admits_read mid t a answer ran.orderly happens.0 ran.reads happens.1;
}
happens_on (Call.step job answer) s mid t ran sources dests after happens = record {
  orderly = step_orderly mid t job answer ran.orderly happens;
  kept = step_keeps s.dests mid t job answer ran.orderly dests happens ran.kept;
  sourced = step_sourced mid t job answer ran.orderly sources after happens ran.sourced;
  causes = step_causes mid t job answer ran.orderly sources dests after ran.causes happens;
  reads = step_read mid t job answer ran.orderly ran.causes ran.reads happens;
}

pub runs_keep : (calls : List Call) (s t : State) → IsOpening s → AreSound t.sources → Runs calls s t → HasRun s t
runs_keep [] s t opening sound runs =
    subst (HasRun s) (sym runs) (record {
      orderly = opening_orderly s opening;
      kept = opening_keeps s opening;
      sourced = opening_sourced s opening;
      causes = opening_causes s opening;
      reads = opening_read s opening;
    })
runs_keep (call ∷ before) s t opening sound (mid, ran, sources, dests, happens) =
    happens_on call s mid t (runs_keep before s mid opening sources ran) sources dests sound happens

-- ---- ends

pub opening_once : (s : State) → IsOpening s → EndOnce s
opening_once s opening = record {
  once = λ job rev. subst (λ (es : List Entry). length (endings job rev es) ≤ 1) (sym opening.log) (omega arith);
  going = λ job. subst (λ (hs : List Held). IfSome (held_at hs job) (λ h. endings h.by.job.0 h.by.rev s.log ≡ [])) (sym opening.held) tt;
}

pub opening_ends : (s : State) → IsOpening s → EndsHold s
opening_ends s opening = record {
  logged = subst (λ (es : List Entry). AllByRecursion (λ e. IfSome (admitted_at s.admitted e.job.0 e.rev) (λ a. SaysEnd a s.log e.what)) es)
      (sym opening.log) tt;
  held = λ job.
      subst (λ (hs : List Held). IfSome (held_at hs job) (λ h. AllByRecursion (IsFinished h.by s.log) (take h.next h.by.spec.tags)))
      (sym opening.held) tt;
}

pub opening_hooks : (s : State) → IsOpening s → HooksTell s
opening_hooks s opening =
    opening.hooks ∙ ap (λ (es : List Entry). filter_map (λ e. hook_from e.job e.rev e.what) es) (sym opening.log)

-- what holds of the ends of revisions after a run
pub record HasEnds (t : State) : Type 0 where
  pub hooks : HooksTell t
  pub orderly : IsOrderly t
  pub once : EndOnce t
  pub ends : EndsHold t

happens_ends : (call : Call) (s t : State) → HasEnds s → Happens call s t → HasEnds t
happens_ends (Call.admit a answer) s t had happens = record {
  hooks = admits_hooks s t a answer happens.1 had.hooks;
  orderly = admits_orderly s t a answer had.orderly happens.0 happens.1;
  once = admits_once s t a answer had.orderly happens.0 had.once happens.1;
  ends = admits_hold s t a answer had.orderly happens.0 had.ends happens.1;
}
happens_ends (Call.step job answer) s t had happens = record {
  hooks = step_hooks s t job answer happens had.hooks;
  orderly = step_orderly s t job answer had.orderly happens;
  once = step_once s t job answer had.orderly had.once happens;
  ends = step_holds s t job answer had.orderly had.ends happens;
}

pub runs_end : (calls : List Call) (s t : State) → IsOpening s → Runs calls s t → HasEnds t
runs_end [] s t opening runs =
    subst HasEnds (sym runs) (record {
      hooks = opening_hooks s opening;
      orderly = opening_orderly s opening;
      once = opening_once s opening;
      ends = opening_ends s opening;
    })
runs_end (call ∷ before) s t opening (mid, ran, sources, dests, happens) =
    happens_ends call mid t (runs_end before s mid opening ran) happens

-- an end that the journal has is one that it shows
pub end_shown : (t : State) (e : Entry) (a : Admitted) (status : Status) (cause : Option Cause) → EndsHold t → Contains t.log e
    → admitted_at t.admitted e.job.0 e.rev ≡ Some a → e.what ≡ what.Ended status cause → EndHolds a t.log status cause
end_shown t e a status cause holds within admitted says =
    subst (λ (w : What). SaysEnd a t.log w) says
    (subst (λ (x : Option Admitted). IfSome x (λ b. SaysEnd b t.log e.what)) admitted
    (each_has (λ (x : Entry). IfSome (admitted_at t.admitted x.job.0 x.rev) (λ b. SaysEnd b t.log x.what)) t.log holds.logged e within))

-- the cause of an error that the journal has is shown
pub cause_shown : (t : State) (e : Entry) (a : Admitted) (status : Status) (why : Cause) → AreCausesShown t → Contains t.log e
    → admitted_at t.admitted e.job.0 e.rev ≡ Some a → e.what ≡ what.Ended status (Some why) → IsCauseShown t a why
cause_shown t e a status why shown within admitted says =
    subst (λ (w : What). SaysCause t a w) says
    (subst (λ (x : Option Admitted). IfSome x (λ b. SaysCause t b e.what)) admitted
    (each_has (λ (x : Entry). IfSome (admitted_at t.admitted x.job.0 x.rev) (λ b. SaysCause t b x.what)) t.log shown.logged e within))

shows_at : (all : List Admitted) (newer older : List Entry) (e : Entry) → ShowsHold all (newer ++ e ∷ older)
    → IfSome (admitted_at all e.job.0 e.rev) (λ a. SaysShow a older e.what)
shows_at all [] older e holds = holds.0
shows_at all (f ∷ newer) older e holds = shows_at all newer older e holds.1

-- a tag that was finished was read before
pub show_read : (t : State) (newer older : List Entry) (e : Entry) (a : Admitted) (said : What) → AreShowsRead t
    → t.log ≡ newer ++ e ∷ older → admitted_at t.admitted e.job.0 e.rev ≡ Some a → e.what ≡ said → SaysShow a older said
show_read t newer older e a said reads parts admitted says =
    subst (λ (w : What). SaysShow a older w) says
    (subst (λ (x : Option Admitted). IfSome x (λ b. SaysShow b older e.what)) admitted
    (shows_at t.admitted newer older e (subst (λ (es : List Entry). ShowsHold t.admitted es) parts reads.logged)))

-- ---- a destination

kept_promise : (t : State) (reg : RegNo) (o c : Content) (now : Reg) → IsKept t reg o → link_at t.dests reg ≡ Some now → now.told ≡ Some c
    → Promise (placement reg t.admitted) o t.log c
kept_promise t reg o c now kept there tells =
    let both : Some kept.now ≡ Some now = sym kept.there ∙ there in
    let same : kept.now ≡ now = cc in
    let contents : Some kept.content ≡ Some c = sym kept.told ∙ ap (λ (x : Reg). x.told) same ∙ tells in
    let content : kept.content ≡ c = cc in
    subst (λ (x : Content). Promise (placement reg t.admitted) o t.log x) content kept.kept.promise

-- it keeps its promise
pub destination_promise : (opened : List Link) (t : State) (reg : RegNo) (o c : Content) → AreKept opened t
    → IsDestination opened t reg o c → Promise (placement reg t.admitted) o t.log c
destination_promise opened t reg o c kept dest =
    kept_promise t reg o c dest.now (subst (λ (r : RegNo). IsKept t r o) dest.named (had dest.honest)) dest.there dest.tells
  where
    had : Honest o → IsKept t dest.first.reg o
    had =
        subst (λ (x : Option Content). IfSome x (λ o. Honest o → IsKept t dest.first.reg o)) dest.told
        (each_has (λ (l : Link). IsTrue l.seen.quiet → IfSome l.seen.told (λ o. Honest o → IsKept t l.reg o)) opened kept
        dest.first dest.within dest.quiet)

-- ---- other jobs

none_of : (a : Admitted) (more : List What) (log : List Entry) (other : ℕ) → a.job.0 ≢ other
    → entries_of other (map (entry_of a) more ++ log) ≡ entries_of other log
none_of a [] log other apart = refl
none_of a (said ∷ more) log other apart =
    if_false (nat_eq a.job.0 other) (entry_of a said ∷ entries_of other (map (entry_of a) more ++ log))
    (entries_of other (map (entry_of a) more ++ log)) (equal_false a.job.0 other apart)
    ∙ none_of a more log other apart

turned_stays : (s t : State) (job : ℕ) → IsOrderly s → Turned s t job → OthersStay s t job
turned_stays s t job orderly turn = record {
  held = λ other apart. held_other job turn.now s.held t.held other turn.after apart;
  logged = λ other apart.
      ap (entries_of other) turn.wrote.joined
      ∙ none_of turn.held.by turn.wrote.more s.log other
      (λ e. apart (sym e ∙ (is_held s job turn.held orderly turn.here).job));
  admitted = turn.admitted;
}

-- a step leaves what the lane has of other jobs
pub step_stays : (s t : State) (job : JobNo) (answer : Stepped) → IsOrderly s → Step s t job answer → OthersStay s t job.0
step_stays s t job answer orderly step = elim (turned s t job answer step) [
  | inl same ↦
      subst (λ (x : State). OthersStay s x job.0) (sym same)
      (record { held = λ other apart. refl; logged = λ other apart. refl; admitted = refl })
  | inr turn ↦ turned_stays s t job.0 orderly turn
]
