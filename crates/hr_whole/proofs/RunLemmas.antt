-- What holds of a lane after every run: what its journal says is what quiet sources have.
use Rattle.std.proofs.Common.{◌≡◌, inl, inr, refl, sym, ap, subst, ◌∙◌, ℕ, Bool, true, false, ◌&&◌, List, [], ◌∷◌, ◌++◌}
use Rattle.std.proofs.lemmas.Bool.{eqb-true}
use Rattle.std.specs.Prelude.{Option, Some, None, IfSome, IsSome, IsTrue, Result, Ok, Err, if◌then◌else◌, map, nat_eq}
use Rattle.std.specs.List.{AllByRecursion}
use Rattle.std.specs.Option.{is_some}
use Rattle.hr_base.specs.declared.number.JobNo.{JobNo}
use Rattle.hr_base.specs.declared.number.RegNo.{RegNo}
use Rattle.hr_base.specs.declared.status.Mark.{Mark}
use Rattle.hr_base.specs.declared.status.Status.{Status}
use Rattle.hr_event.specs.declared.cause.Cause.{Cause}
use Rattle.hr_event.specs.declared.entry.Entry.{Entry}
use Rattle.hr_event.specs.declared.entry.What.{What}
use Rattle.hr_event.specs.declared.entry.What.TheVariants as what
use Rattle.hr_adapter.specs.Content.{Content, Honest}
use Rattle.hr_adapter.specs.Reg.{Reg}
use Rattle.hr_journal.proofs.ListLaws.{each_has}
use Rattle.hr_line.specs.Admission.{Admits}
use Rattle.hr_line.specs.Causes.{AreCausesShown}
use Rattle.hr_line.specs.Destination.{AreKept, IsKept}
use Rattle.hr_line.specs.Kept.{WorkSeen}
use Rattle.hr_line.specs.Line.{LineEnd, entry_of}
use Rattle.hr_line.specs.Orderly.{IsHeldAs, IsNew, IsOrderly, admitted_at}
use Rattle.hr_line.specs.Run.{Call, Happens, IsOpening, Runs}
use Rattle.hr_line.specs.State.{AreSound, Link, State, held_at}
use Rattle.hr_line.specs.Step.{Closes, ComesToEnd, DoesLine, Drops, Ends, Step}
use Rattle.hr_line.specs.declared.answer.Admit.{Admit}
use Rattle.hr_line.specs.declared.answer.Admit.TheVariants as admit
use Rattle.hr_line.specs.declared.answer.Stepped.{Stepped}
use Rattle.hr_line.specs.declared.answer.Stepped.TheVariants as stepped
use Rattle.hr_line.specs.declared.held.Admitted.{Admitted}
use Rattle.hr_line.specs.declared.held.Held.{Held}
use Rattle.hr_whole.specs.Calm.{IsCalm}
use Rattle.hr_whole.specs.Said.{AreSaid, EndsFor, IsSaid}
use Rattle.hr_whole.proofs.AskedLemmas.{get_contains}
use Rattle.hr_whole.proofs.LineLemmas.{LineSaid, MoreSaid, line_said}
use Rattle.hr_whole.proofs.StillLemmas.{GoOn, StaysStill, StaysSure, go_line, go_same, go_then, line_still, line_sure, link_sound, still_itself, still_then, sure_itself, sure_then}

-- the laws of lanes that a run goes by
pub record Laws : Type 0 where
  pub orderly_opens : (s : State) → IsOpening s → IsOrderly s
  pub orderly_admits : (s t : State) (a : Admitted) (answer : Admit) → IsOrderly s → IsNew s.admitted a → Admits s t a answer
      → IsOrderly t
  pub orderly_steps : (s t : State) (job : JobNo) (answer : Stepped) → IsOrderly s → Step s t job answer → IsOrderly t
  pub kept_opens : (s : State) → IsOpening s → AreKept s.dests s
  pub kept_admits : (opened : List Link) (s t : State) (a : Admitted) (answer : Admit) → IsOrderly s → IsNew s.admitted a
      → Admits s t a answer → AreKept opened s → AreKept opened t
  pub kept_steps : (opened : List Link) (s t : State) (job : JobNo) (answer : Stepped) → IsOrderly s → AreSound s.dests
      → Step s t job answer → AreKept opened s → AreKept opened t
  pub causes_opens : (s : State) → IsOpening s → AreCausesShown s
  pub causes_admits : (s t : State) (a : Admitted) (answer : Admit) → IsOrderly s → IsNew s.admitted a → AreCausesShown s
      → Admits s t a answer → AreCausesShown t
  pub causes_steps : (s t : State) (job : JobNo) (answer : Stepped) → IsOrderly s → AreSound s.sources → AreSound s.dests
      → AreSound t.sources → AreCausesShown s → Step s t job answer → AreCausesShown t

-- ---- what was admitted

both_true : (a b : Bool) → (a && b) ≡ true → (a ≡ true) × (b ≡ true)
both_true true b is = (refl, is)
both_true false b is = cc

older_admitted : (all : List Admitted) (a : Admitted) (job rev : ℕ) → IsNew all a → IsSome (admitted_at all job rev)
    → admitted_at (a ∷ all) job rev ≡ admitted_at all job rev
older_admitted all a job rev new some = by (nat_eq a.job.0 job && nat_eq a.rev rev) refl
  where
    by : (same : Bool) → (nat_eq a.job.0 job && nat_eq a.rev rev) ≡ same
        → (if same then Some a else admitted_at all job rev) ≡ admitted_at all job rev
    by false is = refl
    by true is =
        let both = both_true (nat_eq a.job.0 job) (nat_eq a.rev rev) is in
        let gone : admitted_at all job rev ≡ None =
        ap (λ (j : ℕ). admitted_at all j rev) (sym (eqb-true a.job.0 job both.0))
        ∙ ap (admitted_at all a.job.0) (sym (eqb-true a.rev rev both.1)) ∙ new in
        let no : is_some {T = Admitted} None ≡ true = ap is_some (sym gone) ∙ some in cc

-- a revision that is found has this job and this number
pub found_as : (all : List Admitted) (job rev : ℕ) (a : Admitted) → admitted_at all job rev ≡ Some a → (a.job.0 ≡ job) × (a.rev ≡ rev)
found_as [] job rev a is = cc
found_as (b ∷ more) job rev a is = by (λ at. found_as more job rev a at) (nat_eq b.job.0 job && nat_eq b.rev rev) refl is
  where
    by : (admitted_at more job rev ≡ Some a → (a.job.0 ≡ job) × (a.rev ≡ rev)) → (same : Bool)
        → (nat_eq b.job.0 job && nat_eq b.rev rev) ≡ same
        → (if same then Some b else admitted_at more job rev) ≡ Some a → (a.job.0 ≡ job) × (a.rev ≡ rev)
    by rest false e at = rest at
    by rest true e at =
        let both = both_true (nat_eq b.job.0 job) (nat_eq b.rev rev) e in
        let one : b ≡ a = cc in
        subst (λ (x : Admitted). (x.job.0 ≡ job) × (x.rev ≡ rev)) one (eqb-true b.job.0 job both.0, eqb-true b.rev rev both.1)

-- ---- a destination that was opened calm

abbrev KeptFrom : State → Link → Type 0
KeptFrom t l = IsTrue l.seen.quiet → IfSome l.seen.told (λ o. Honest o → IsKept t l.reg o)

pub calm_kept : (s t : State) (a : Admitted) (c o : Content) → AreKept s.dests t → IsCalm s a c o → IsKept t a.spec.dst o
calm_kept s t a c o kept calm =
    let had : IfSome calm.dest.seen.told (λ o. Honest o → IsKept t calm.dest.reg o) =
    each_has (KeptFrom t) s.dests kept calm.dest calm.within calm.still in
    let now : IsKept t calm.dest.reg o =
    subst (λ (x : Option Content). IfSome x (λ o. Honest o → IsKept t calm.dest.reg o)) calm.tells had calm.honest in
    subst (λ (r : RegNo). IsKept t r o) calm.named now

module _ (opened : State) where
  -- ---- entries

  abbrev Calm : Admitted → Content → Type 0
  Calm a c = (o : Content) × IsCalm opened a c o

  said_by : (b : Admitted) (older : List Entry) (said : What) → ((c : Content) → Calm b c → IsSaid b c older said)
      → (a : Admitted) (c o : Content) → Some b ≡ Some a → IsCalm opened a c o → IsSaid a c older said
  said_by b older said is a c o same calm =
      let one : b ≡ a = cc in
      subst (λ (x : Admitted). IsSaid x c older said) one (is c (o, subst (λ (x : Admitted). IsCalm opened x c o) (sym one) calm))

  one_more : (all : List Admitted) (b : Admitted) (said : What) (log : List Entry) → admitted_at all b.job.0 b.rev ≡ Some b
      → ((c : Content) → Calm b c → IsSaid b c log said) → AreSaid opened all log → AreSaid opened all (entry_of b said ∷ log)
  one_more all b said log own is had = ((λ a c o at calm. said_by b log said is a c o (sym own ∙ at) calm), had)

  more_said : (all : List Admitted) (b : Admitted) (more : List What) (log : List Entry) → admitted_at all b.job.0 b.rev ≡ Some b
      → MoreSaid b (Calm b) more log → AreSaid opened all log → AreSaid opened all (map (entry_of b) more ++ log)
  more_said all b [] log own is had = had
  more_said all b (said ∷ more) log own is had =
      one_more all b said (map (entry_of b) more ++ log) own is.0 (more_said all b more log own is.1 had)

  said_admits : (all : List Admitted) (a : Admitted) (log : List Entry) → IsNew all a
      → AllByRecursion (λ e. IsSome (admitted_at all e.job.0 e.rev)) log → AreSaid opened all log → AreSaid opened (a ∷ all) log
  said_admits all a [] new logged had = tt
  said_admits all a (e ∷ older) new logged had = (
    (λ b c o at calm. had.0 b c o (sym (older_admitted all a e.job.0 e.rev new logged.0) ∙ at) calm),
    said_admits all a older new logged.1 had.1,
  )

  -- ---- a state that others come from

  pub record Went (s t : State) : Type 0 where
    pub sources : GoOn StaysStill s.sources t.sources
    pub dests : GoOn StaysSure s.dests t.dests
    pub said : AreSaid opened t.admitted t.log

  same_went : (s t : State) → t.sources ≡ s.sources → t.dests ≡ s.dests → AreSaid opened t.admitted t.log → Went s t
  same_went s t sources dests said = record {
    sources = go_same StaysStill still_itself s.sources t.sources sources;
    dests = go_same StaysSure sure_itself s.dests t.dests dests;
    said = said;
  }

  -- ---- a line

  module _ (s : State) (orderly : IsOrderly s) (kept : AreKept opened.dests s) (causes : AreCausesShown s)
      (from : GoOn StaysStill opened.sources s.sources) (had : AreSaid opened s.admitted s.log)
      (sources : AreSound s.sources) (dests : AreSound s.dests) where
    own_admitted : (job : ℕ) (h : Held) → held_at s.held job ≡ Some h → admitted_at s.admitted h.by.job.0 h.by.rev ≡ Some h.by
    own_admitted job h here =
        (subst (λ (x : Option Held). IfSome x (IsHeldAs s.admitted job)) here (orderly.held job)).admitted

    -- the source of a line tells what it told when it was opened
    line_told : (h : Held) (x : State) (end : LineEnd) → (line : DoesLine h s x end) → (c : Content) → Calm h.by c
        → line.g.told ≡ Some c
    line_told h x end line c calm =
        let at = from h.by.spec.src calm.1.source calm.1.from in
        let both : Some at.0 ≡ Some line.f = sym at.1 ∙ line.moves.source in
        let same : at.0 ≡ line.f = cc in
        let first = at.2.quiet calm.1.quiet in
        let still = line_still h.by line.tag line.f line.g line.p line.q s.log x.log end h.work
        (link_sound s.sources h.by.spec.src line.f sources line.moves.source) line.line in
        let quiet : IsTrue line.f.quiet = subst (λ (y : Reg). IsTrue y.quiet) same first.0 in
        let told : line.f.told ≡ calm.1.source.told = subst (λ (y : Reg). y.told ≡ calm.1.source.told) same first.1 in
        (still.quiet quiet).1 ∙ told ∙ calm.1.told

    line_tells : (h : Held) (x : State) (end : LineEnd) → (line : DoesLine h s x end) → (c : Content) → Calm h.by c
        → (b : Content) × IsTrue line.p.quiet × (line.p.told ≡ Some b)
    line_tells h x end line c calm =
        let now = calm_kept opened s h.by c calm.0 kept calm.1 in
        let both : Some now.now ≡ Some line.p = sym now.there ∙ line.moves.dest in
        let same : now.now ≡ line.p = cc in (
          now.content,
          subst (λ (y : Reg). IsTrue y.quiet) same now.quiet,
          subst (λ (y : Reg). y.told ≡ Some now.content) same now.told,
        )

    line_is_said : (job : ℕ) (h : Held) (x : State) (end : LineEnd) → held_at s.held job ≡ Some h → DoesLine h s x end
        → LineSaid h.by (Calm h.by) s.log x.log end
    line_is_said job h x end here line =
        line_said h.by (Calm h.by) s.log x.log end line.p (link_sound s.dests h.by.spec.dst line.p dests line.moves.dest)
        (line_tells h x end line) line.f line.g (line_told h x end line) line.tag line.q h.work
        (get_contains h.by.spec.tags h.next line.tag line.next)
        (subst (λ (y : Option Held). IfSome y (λ k. IfSome k.work (WorkSeen k.by s.log))) here (causes.held job)) line.line

    line_went : (job : ℕ) (h : Held) (x : State) (end : LineEnd) → held_at s.held job ≡ Some h → DoesLine h s x end → Went s x
    line_went job h x end here line =
        let is = line_is_said job h x end here line in
        record {
          sources = go_line StaysStill still_itself s.sources x.sources h.by.spec.src line.f line.g line.moves.source line.moves.sources
              (line_still h.by line.tag line.f line.g line.p line.q s.log x.log end h.work
              (link_sound s.sources h.by.spec.src line.f sources line.moves.source) line.line);
          dests = go_line StaysSure sure_itself s.dests x.dests h.by.spec.dst line.p line.q line.moves.dest line.moves.dests
              (line_sure h.by line.tag line.f line.g line.p line.q s.log x.log end h.work line.line);
          said = subst (λ (all : List Admitted). AreSaid opened all x.log) (sym line.admitted)
              (subst (λ (es : List Entry). AreSaid opened s.admitted es) (sym is.joined)
              (more_said s.admitted h.by is.more s.log (own_admitted job h here) is.each had));
        }

    -- ---- an end

    comes_went : (job : ℕ) (h : Held) (x : State) (why : Option Cause) → held_at s.held job ≡ Some h → ComesToEnd h s x why → Went s x
    comes_went job h x None here comes = rests_went x comes.1.sources comes.1.dests comes.1.log comes.1.admitted
      where
        rests_went : (x : State) → x.sources ≡ s.sources → x.dests ≡ s.dests → x.log ≡ s.log → x.admitted ≡ s.admitted → Went s x
        rests_went x from to log admitted =
            same_went s x from to
            (subst (λ (all : List Admitted). AreSaid opened all x.log) (sym admitted)
            (subst (λ (es : List Entry). AreSaid opened s.admitted es) (sym log) had))
    comes_went job h x (Some why) here (inl line) = line_went job h x (Err why) here line
    comes_went job h x (Some why) here (inr rests) =
        same_went s x rests.1.sources rests.1.dests
        (subst (λ (all : List Admitted). AreSaid opened all x.log) (sym rests.1.admitted)
        (subst (λ (es : List Entry). AreSaid opened s.admitted es) (sym rests.1.log) had))

    came_admitted : (h : Held) (x : State) (why : Option Cause) → ComesToEnd h s x why → x.admitted ≡ s.admitted
    came_admitted h x None comes = comes.1.admitted
    came_admitted h x (Some why) (inl line) = line.admitted
    came_admitted h x (Some why) (inr rests) = rests.1.admitted

    end_said : (job : ℕ) (h : Held) (x : State) (status : Status) (why : Option Cause) → held_at s.held job ≡ Some h
        → ComesToEnd h s x why → (c : Content) → Calm h.by c → IsSaid h.by c x.log (what.Ended status why)
    end_said job h x status None here comes c calm = tt
    end_said job h x status (Some why) here (inl line) c calm = (line_is_said job h x (Err why) here line).ends c calm
    end_said job h x status (Some why) here (inr rests) c calm =
        subst (λ (y : Cause). EndsFor h.by c x.log y) (sym rests.0) tt

    closes_said : (job : ℕ) (h : Held) (why : Option Cause) (x t : State) (closed : Result Status Mark) → held_at s.held job ≡ Some h
        → ComesToEnd h s x why → Closes h.by why x t closed → t.admitted ≡ x.admitted → AreSaid opened t.admitted t.log
    closes_said job h why x t (Ok status) here comes closes admitted =
        subst (λ (all : List Admitted). AreSaid opened all t.log) (sym admitted)
        (subst (λ (es : List Entry). AreSaid opened x.admitted es) (sym closes.1)
        (one_more x.admitted h.by (what.Ended status why) x.log
        (ap (λ (all : List Admitted). admitted_at all h.by.job.0 h.by.rev) (came_admitted h x why comes) ∙ own_admitted job h here)
        (end_said job h x status why here comes) (comes_went job h x why here comes).said))
    closes_said job h why x t (Err mark) here comes closes admitted =
        subst (λ (all : List Admitted). AreSaid opened all t.log) (sym admitted)
        (subst (λ (es : List Entry). AreSaid opened x.admitted es) (sym closes.0)
        (one_more x.admitted h.by what.Dropped x.log
        (ap (λ (all : List Admitted). admitted_at all h.by.job.0 h.by.rev) (came_admitted h x why comes) ∙ own_admitted job h here)
        (λ c calm. tt) (comes_went job h x why here comes).said))

    ends_went : (job : JobNo) (t : State) (closed : Result Status Mark) → Ends s t job closed → Went s t
    ends_went job t closed ends =
        let came = comes_went job.0 ends.held ends.mid ends.why ends.here ends.comes in
        record {
          sources = go_then StaysStill still_then s.sources ends.mid.sources t.sources came.sources
              (go_same StaysStill still_itself ends.mid.sources t.sources ends.sources);
          dests = go_then StaysSure sure_then s.dests ends.mid.dests t.dests came.dests
              (go_same StaysSure sure_itself ends.mid.dests t.dests ends.dests);
          said = closes_said job.0 ends.held ends.why ends.mid t closed ends.here ends.comes ends.closes ends.admitted;
        }

    drops_went : (job : JobNo) (t : State) → Drops s t job → Went s t
    drops_went job t drops =
        same_went s t drops.sources drops.dests
        (subst (λ (all : List Admitted). AreSaid opened all t.log) (sym drops.admitted)
        (subst (λ (es : List Entry). AreSaid opened s.admitted es) (sym drops.log)
        (one_more s.admitted drops.held.by what.Dropped s.log (own_admitted job.0 drops.held drops.here) (λ c calm. tt) had)))

    step_went : (job : JobNo) (t : State) (answer : Stepped) → Step s t job answer → Went s t
    step_went job t stepped.NotHere step =
        subst (λ (x : State). Went s x) (sym step.1) (same_went s s refl refl had)
    step_went job t stepped.Did step = line_went job.0 step.held t (Ok step.work) step.here step.line
    step_went job t (stepped.Lost mark) (inl drops) = drops_went job t drops
    step_went job t (stepped.Lost mark) (inr ends) = ends_went job t (Err mark) ends
    step_went job t (stepped.Ended status) step = ends_went job t (Ok status) step

    admits_went : (a : Admitted) (t : State) (answer : Admit) → IsNew s.admitted a → Admits s t a answer → Went s t
    admits_went a t admit.Began new begins =
        same_went s t begins.sources begins.dests
        (subst (λ (all : List Admitted). AreSaid opened all t.log) (sym begins.admitted)
        (subst (λ (es : List Entry). AreSaid opened (a ∷ s.admitted) es) (sym begins.log)
        ((λ b c o at calm. tt), said_admits s.admitted a s.log new orderly.logged had)))
    admits_went a t (admit.Lost mark) new same = subst (λ (x : State). Went s x) (sym same) (same_went s s refl refl had)
    admits_went a t admit.Memory new same = subst (λ (x : State). Went s x) (sym same) (same_went s s refl refl had)

-- ---- runs

-- what holds of a lane after a run from this opening
pub record Ran (s t : State) : Type 0 where
  pub orderly : IsOrderly t
  pub kept : AreKept s.dests t
  pub causes : AreCausesShown t
  pub went : Went s s t

went_then : (s mid t : State) → Went s s mid → Went s mid t → Went s s t
went_then s mid t first next = record {
  sources = go_then StaysStill still_then s.sources mid.sources t.sources first.sources next.sources;
  dests = go_then StaysSure sure_then s.dests mid.dests t.dests first.dests next.dests;
  said = next.said;
}

module _ (laws : Laws) where
  opening_ran : (s : State) → IsOpening s → Ran s s
  opening_ran s opening = record {
    orderly = laws.orderly_opens s opening;
    kept = laws.kept_opens s opening;
    causes = laws.causes_opens s opening;
    went = same_went s s s refl refl (subst (λ (es : List Entry). AreSaid s s.admitted es) (sym opening.log) tt);
  }

  happens_ran : (call : Call) (s mid t : State) → Ran s mid → AreSound mid.sources → AreSound mid.dests → AreSound t.sources
      → Happens call mid t → Ran s t
  happens_ran (Call.admit a answer) s mid t ran sources dests after happens = record {
    orderly = laws.orderly_admits mid t a answer ran.orderly happens.0 happens.1;
    kept = laws.kept_admits s.dests mid t a answer ran.orderly happens.0 happens.1 ran.kept;
    causes = laws.causes_admits mid t a answer ran.orderly happens.0 ran.causes happens.1;
    went = went_then s mid t ran.went
        (admits_went s mid ran.orderly ran.kept ran.causes ran.went.sources ran.went.said sources dests a t answer happens.0 happens.1);
  }
  happens_ran (Call.step job answer) s mid t ran sources dests after happens = record {
    orderly = laws.orderly_steps mid t job answer ran.orderly happens;
    kept = laws.kept_steps s.dests mid t job answer ran.orderly dests happens ran.kept;
    causes = laws.causes_steps mid t job answer ran.orderly sources dests after ran.causes happens;
    went = went_then s mid t ran.went
        (step_went s mid ran.orderly ran.kept ran.causes ran.went.sources ran.went.said sources dests job t answer happens);
  }

  pub runs_ran : (calls : List Call) (s t : State) → IsOpening s → AreSound t.sources → Runs calls s t → Ran s t
  runs_ran [] s t opening sound runs = subst (Ran s) (sym runs) (opening_ran s opening)
  runs_ran (call ∷ before) s t opening sound (mid, ran, sources, dests, happens) =
      happens_ran call s mid t (runs_ran before s mid opening sources ran) sources dests sound happens
