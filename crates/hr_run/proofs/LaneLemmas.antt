-- What one call of a lane does to the core: the words that it notes and ends, the hooks that it
-- gives, and that the lane stays in order.
use Rattle.std.proofs.Common.{◌≡◌, inl, inr, refl, sym, ap, subst, ◌∙◌, ℕ, Bool, true, false, ◌&&◌, List, [], ◌∷◌, ◌++◌}
use Rattle.std.proofs.lemmas.Bool.{eqb-true}
use Rattle.std.proofs.lemmas.List.{append-nil, append_assoc, append_cancel_right}
use Rattle.std.specs.Prelude.{Option, Some, None, IfSome, IsSome, Ok, if◌then◌else◌, nat_eq}
use Rattle.std.specs.List.{AllByRecursion, sum_by}
use Rattle.hr_base.specs.Status.{word_of}
use Rattle.hr_base.specs.declared.number.JobNo.{JobNo}
use Rattle.hr_base.specs.declared.status.Hook.{Hook}
use Rattle.hr_base.specs.declared.status.Mark.TheVariants.{At}
use Rattle.hr_base.specs.declared.status.Status.{Status}
use Rattle.hr_base.specs.declared.status.Status.TheVariants.{Running}
use Rattle.hr_event.specs.declared.cause.Cause.{Cause}
use Rattle.hr_event.specs.declared.task.TaskSpec.{TaskSpec}
use Rattle.hr_event.specs.declared.task.Turn.{Turn}
use Rattle.hr_board.specs.Plain.{IsLawful, Plain, view_of}
use Rattle.hr_board.specs.View.{Keeps, Noted, Notes, Place, View, Word, moving, noting, place_of}
use Rattle.hr_line.specs.Admission.{Admits, Begins, held_first}
use Rattle.hr_line.specs.Finals.{EndsHold}
use Rattle.hr_line.specs.Hooks.{HooksTell}
use Rattle.hr_line.specs.Orderly.{IsHeldAs, IsNew, IsOrderly, admitted_at}
use Rattle.hr_line.specs.Run.{OthersStay}
use Rattle.hr_line.specs.State.{HeldAfter, State, held_at}
use Rattle.hr_line.specs.Step.{ComesToEnd, Ends, Step, end_status, goes_on, hook_of}
use Rattle.hr_line.specs.declared.answer.Admit.{Admit}
use Rattle.hr_line.specs.declared.answer.Admit.TheVariants as admit
use Rattle.hr_line.specs.declared.answer.Stepped.{Stepped}
use Rattle.hr_line.specs.declared.answer.Stepped.TheVariants as stepped
use Rattle.hr_line.specs.declared.held.Admitted.{Admitted}
use Rattle.hr_line.specs.declared.held.Held.{Held}
use Rattle.hr_line.specs.declared.held.Work.{Work}
use Rattle.hr_lane.specs.Admission.{AdmitsWord, AreNoted, waiting}
use Rattle.hr_lane.specs.Word.{LooksAndCloses, OfWord, Steps}
use Rattle.hr_run.specs.Holds.{HoldsOut, IsTurnOut, IsEmitted, IsRevision, IsServing, IsTask}
use Rattle.hr_run.specs.Part.{Acts, LaneDoes}
use Rattle.hr_run.specs.Part.LaneDoes.{admits, steps}
use Rattle.hr_run.specs.State.{status_word}
use Rattle.hr_run.specs.Weight.{final_weight, stop_weight}
use Rattle.hr_run.proofs.MarkLemmas.{last_noted, noted_more}

-- the laws of lanes that are used
pub record LaneLaws : Type 0 where
  pub admits : (s t : State) (a : Admitted) (answer : Admit) → IsOrderly s → IsNew s.admitted a → Admits s t a answer → IsOrderly t
  pub steps : (s t : State) (job : JobNo) (answer : Stepped) → IsOrderly s → Step s t job answer → IsOrderly t
  pub others : (s t : State) (job : JobNo) (answer : Stepped) → IsOrderly s → Step s t job answer → OthersStay s t job.0
  pub ends_admit : (s t : State) (a : Admitted) (answer : Admit) → IsOrderly s → IsNew s.admitted a → EndsHold s → Admits s t a answer
      → EndsHold t
  pub ends_step : (s t : State) (job : JobNo) (answer : Stepped) → IsOrderly s → EndsHold s → Step s t job answer → EndsHold t
  pub hooks_admit : (s t : State) (a : Admitted) (answer : Admit) → Admits s t a answer → HooksTell s → HooksTell t
  pub hooks_step : (s t : State) (job : JobNo) (answer : Stepped) → Step s t job answer → HooksTell s → HooksTell t

-- ---- what a board does, out of its views

module _ (b c : Plain) (lawful : IsLawful c.words c.past) where
  pub quiet_acts : (more : Notes) → view_of c ≡ noting (view_of b) more → Acts b c []
  quiet_acts more e = record {
    lawful = lawful;
    kept = subst (λ (v : View). Keeps (view_of b) v) (sym e) (record { jobs = refl; allows = refl; more = more; notes = refl });
    opens = ap (λ (v : View). v.opens) e;
    finals = ap (λ (v : View). v.finals) e ∙ sym (append-nil b.past.finals);
  }

  pub still_acts : view_of c ≡ view_of b → Acts b c []
  still_acts e = record {
    lawful = lawful;
    kept = subst (λ (v : View). Keeps (view_of b) v) (sym e)
        (record { jobs = refl; allows = refl; more = []; notes = sym (append-nil b.past.notes) });
    opens = ap (λ (v : View). v.opens) e;
    finals = ap (λ (v : View). v.finals) e ∙ sym (append-nil b.past.finals);
  }

  pub running_acts : (place word : ℕ) → view_of c ≡ moving (view_of b) place word 3 → Acts b c []
  running_acts place word e = record {
    lawful = lawful;
    kept = subst (λ (v : View). Keeps (view_of b) v) (sym e)
        (record { jobs = refl; allows = refl; more = (place, 3) ∷ []; notes = refl });
    opens = ap (λ (v : View). v.opens) e;
    finals = ap (λ (v : View). v.finals) e ∙ sym (append-nil b.past.finals);
  }

  pub stopping_acts : (more : Notes) (place word : ℕ) → view_of c ≡ moving (noting (view_of b) more) place word 4
      → Acts b c ((place, 4) ∷ [])
  stopping_acts more place word e = record {
    lawful = lawful;
    kept = subst (λ (v : View). Keeps (view_of b) v) (sym e) (record {
      jobs = refl;
      allows = refl;
      more = more ++ (place, 4) ∷ [];
      notes = append_assoc b.past.notes more ((place, 4) ∷ []);
    });
    opens = ap (λ (v : View). v.opens) e;
    finals = ap (λ (v : View). v.finals) e;
  }

  -- a revision ended
  pub closing_acts : (more : Notes) (place : ℕ) (why : Option Cause)
      → view_of c ≡ moving (noting (view_of b) more) place 3 (status_word (end_status why))
      → Acts b c ((place, status_word (end_status why)) ∷ [])
  closing_acts more place None e = record {
    lawful = lawful;
    kept = subst (λ (v : View). Keeps (view_of b) v) (sym e) (record {
      jobs = refl;
      allows = refl;
      more = more ++ (place, 6) ∷ [];
      notes = append_assoc b.past.notes more ((place, 6) ∷ []);
    });
    opens = ap (λ (v : View). v.opens) e;
    finals = ap (λ (v : View). v.finals) e;
  }
  closing_acts more place (Some why) e = record {
    lawful = lawful;
    kept = subst (λ (v : View). Keeps (view_of b) v) (sym e) (record {
      jobs = refl;
      allows = refl;
      more = more ++ (place, 5) ∷ [];
      notes = append_assoc b.past.notes more ((place, 5) ∷ []);
    });
    opens = ap (λ (v : View). v.opens) e;
    finals = ap (λ (v : View). v.finals) e;
  }

-- ---- what is admitted is noted

pub noted_on : (all : List Admitted) (v w : View) → Keeps v w → AreNoted all v → AreNoted all w
noted_on all v w kept noted job rev there = noted_more v w kept (place_of job rev) (word_of (At Running)) (noted job rev there)

pub both_true : (b c : Bool) → (b && c) ≡ true → (b ≡ true) × (c ≡ true)
both_true true true is = (refl, refl)
both_true true false is = cc
both_true false c is = cc

noted_at : (b : Bool) (a : Admitted) (o : Option Admitted) (w : View) (job rev : ℕ) → (b ≡ true → (a.job.0 ≡ job) × (a.rev ≡ rev))
    → Noted w.notes (place_of a.job.0 a.rev) (word_of (At Running))
    → (IsSome o → Noted w.notes (place_of job rev) (word_of (At Running)))
    → IsSome (if b then Some a else o) → Noted w.notes (place_of job rev) (word_of (At Running))
noted_at true a o w job rev same now were there =
    subst (λ (j : ℕ). Noted w.notes (place_of j rev) (word_of (At Running))) (same refl).0
    (subst (λ (r : ℕ). Noted w.notes (place_of a.job.0 r) (word_of (At Running))) (same refl).1 now)
noted_at false a o w job rev same now were there = were there

noted_one : (all : List Admitted) (a : Admitted) (w : View) → Noted w.notes (place_of a.job.0 a.rev) (word_of (At Running))
    → AreNoted all w → AreNoted (a ∷ all) w
noted_one all a w now were job rev there =
    noted_at (nat_eq a.job.0 job && nat_eq a.rev rev) a (admitted_at all job rev) w job rev
    (λ e. let both = both_true (nat_eq a.job.0 job) (nat_eq a.rev rev) e in
    (eqb-true a.job.0 job both.0, eqb-true a.rev rev both.1)) now (were job rev) there

admitted_in : (P : Admitted → Type 0) (x a : Admitted) (rest : Option Admitted) (b : Bool) → P x → (rest ≡ Some a → P a)
    → (if b then Some x else rest) ≡ Some a → P a
admitted_in P x a rest true first later e = let same : x ≡ a = cc in subst P same first
admitted_in P x a rest false first later e = later e

pub admitted_has : (P : Admitted → Type 0) (all : List Admitted) (job rev : ℕ) (a : Admitted) → AllByRecursion P all
    → admitted_at all job rev ≡ Some a → P a
admitted_has P [] job rev a each is = absurd (cc)
admitted_has P (x ∷ all) job rev a each is =
    admitted_in P x a (admitted_at all job rev) (nat_eq x.job.0 job && nat_eq x.rev rev) each.0 (admitted_has P all job rev a each.1) is

-- ---- what a call of a lane comes to

pub record Worked (made : List TaskSpec) (b c : Plain) (worked : State) (more : List Hook) : Type 0 where
  pub ended : Notes
  pub acts : Acts b c ended
  pub weights : (f : Place × Word → ℕ) → sum_by (final_weight f) more ≡ sum_by f ended
  pub emitted : AllByRecursion (IsEmitted made c.past.notes) more
  pub unstopped : (g : Hook → ℕ) → sum_by (stop_weight g) more ≡ 0
  pub serving : IsServing made (view_of c) worked

-- no hook was given
pub none_given : (lane worked : State) (more : List Hook) → worked.hooks ≡ lane.hooks → worked.hooks ≡ more ++ lane.hooks → more ≡ []
none_given lane worked more same gave = append_cancel_right more [] lane.hooks (sym gave ∙ same)

pub one_given : (lane worked : State) (hook : Hook) (more : List Hook) → worked.hooks ≡ hook ∷ lane.hooks
    → worked.hooks ≡ more ++ lane.hooks → more ≡ hook ∷ []
one_given lane worked hook more is gave = append_cancel_right more (hook ∷ []) lane.hooks (sym gave ∙ is)

module _ (laws : LaneLaws) (made : List TaskSpec) (b c : Plain) (lane worked : State) (more : List Hook)
    (lawful : IsLawful c.words c.past) (was : IsServing made (view_of b) lane) (gave : worked.hooks ≡ more ++ lane.hooks) where
  -- a call that gave no hook
  silent : Acts b c [] → worked.hooks ≡ lane.hooks → IsServing made (view_of c) worked → Worked made b c worked more
  silent acts same serving =
      subst (λ (m : List Hook). Worked made b c worked m) (sym (none_given lane worked more same gave)) (record {
        ended = [];
        acts = acts;
        weights = λ f. refl;
        emitted = tt;
        unstopped = λ g. refl;
        serving = serving;
      })

  serving_still : Keeps (view_of b) (view_of c) → worked ≡ lane → IsServing made (view_of c) worked
  serving_still kept same = subst (λ (x : State). IsServing made (view_of c) x) (sym same) (record {
    orderly = was.orderly;
    ends = was.ends;
    hooks = was.hooks;
    tasks = was.tasks;
    noted = noted_on lane.admitted (view_of b) (view_of c) kept was.noted;
  })

  still : Acts b c [] → worked ≡ lane → Worked made b c worked more
  still acts same = silent acts (ap (λ (x : State). x.hooks) same) (serving_still acts.kept same)

  begun : (a : Admitted) → IsTask made a → Begins lane worked a → IsNew lane.admitted a
      → view_of c ≡ moving (view_of b) (place_of a.job.0 a.rev) (word_of (waiting a.rev)) 3 → Worked made b c worked more
  begun a task begins new e =
      let acts = running_acts b c lawful (place_of a.job.0 a.rev) (word_of (waiting a.rev)) e in
      let now = last_noted c.past.notes b.past.notes (place_of a.job.0 a.rev) 3 (ap (λ (v : View). v.notes) e) in
      let revision : IsRevision made a.job.0 a.rev =
      record { spec = a.spec; copies = task.copies; within = task.within; few = task.few } in
      subst (λ (m : List Hook). Worked made b c worked m) (sym (one_given lane worked (hook_of a Running) more begins.hooks gave)) (record {
        ended = [];
        acts = acts;
        weights = λ f. refl;
        emitted = (record { revision = revision; noted = now }, tt);
        unstopped = λ g. refl;
        serving = record {
          orderly = laws.admits lane worked a admit.Began was.orderly new begins;
          ends = laws.ends_admit lane worked a admit.Began was.orderly new was.ends begins;
          hooks = laws.hooks_admit lane worked a admit.Began begins was.hooks;
          tasks = subst (λ (all : List Admitted). AllByRecursion (IsTask made) all) (sym begins.admitted) (task, was.tasks);
          noted = subst (λ (all : List Admitted). AreNoted all (view_of c)) (sym begins.admitted)
              (noted_one lane.admitted a (view_of c) now (noted_on lane.admitted (view_of b) (view_of c) acts.kept was.noted));
        };
      })

  admitted : (a : Admitted) (came : Admit) → IsTask made a → AdmitsWord lane worked a (view_of b) (view_of c) came
      → Worked made b c worked more
  admitted a admit.Began task does = begun a task does.0 does.1 does.2.moved
  admitted a (admit.Lost mark) task does =
      still (quiet_acts b c lawful ((place_of a.job.0 a.rev, word_of mark) ∷ []) does.1.0.noted) does.0
  admitted a admit.Memory task does = still (still_acts b c lawful does.1) does.0

  serving_step : (job : JobNo) (came : Stepped) → Keeps (view_of b) (view_of c) → Step lane worked job came
      → IsServing made (view_of c) worked
  serving_step job came kept step =
      let same = (laws.others lane worked job came was.orderly step).admitted in
      record {
        orderly = laws.steps lane worked job came was.orderly step;
        ends = laws.ends_step lane worked job came was.orderly was.ends step;
        hooks = laws.hooks_step lane worked job came step was.hooks;
        tasks = subst (λ (all : List Admitted). AllByRecursion (IsTask made) all) (sym same) was.tasks;
        noted = subst (λ (all : List Admitted). AreNoted all (view_of c)) (sym same)
            (noted_on lane.admitted (view_of b) (view_of c) kept was.noted);
      }

  come_hooks : (h : Held) (mid : State) (why : Option Cause) → ComesToEnd h lane mid why → mid.hooks ≡ lane.hooks
  come_hooks h mid None comes = comes.1.hooks
  come_hooks h mid (Some why) (inl line) = line.hooks
  come_hooks h mid (Some why) (inr rests) = rests.1.hooks

  -- what is held is a revision of a job that was made
  held_task : (h : Held) (job : ℕ) → held_at lane.held job ≡ Some h → IsTask made h.by × (h.by.job.0 ≡ job)
  held_task h job here =
      let own : IsHeldAs lane.admitted job h = subst (λ (o : Option Held). IfSome o (IsHeldAs lane.admitted job)) here (was.orderly.held job) in
      (admitted_has (IsTask made) lane.admitted h.by.job.0 h.by.rev h.by was.tasks own.admitted, own.job)

  final_hook : (a : Admitted) (why : Option Cause) → IsTask made a → (notes : Notes) → IsServing made (view_of c) worked
      → view_of c ≡ moving (noting (view_of b) notes) (place_of a.job.0 a.rev) 3 (status_word (end_status why))
      → Worked made b c worked (hook_of a (end_status why) ∷ [])
  final_hook a None task notes serving e = record {
    ended = (place_of a.job.0 a.rev, 6) ∷ [];
    acts = closing_acts b c lawful notes (place_of a.job.0 a.rev) None e;
    weights = λ f. refl;
    emitted = (
      record {
        revision = record { spec = a.spec; copies = task.copies; within = task.within; few = task.few };
        noted = last_noted c.past.notes (b.past.notes ++ notes) (place_of a.job.0 a.rev) 6 (ap (λ (v : View). v.notes) e);
      },
      tt,
    );
    unstopped = λ g. refl;
    serving = serving;
  }
  final_hook a (Some why) task notes serving e = record {
    ended = (place_of a.job.0 a.rev, 5) ∷ [];
    acts = closing_acts b c lawful notes (place_of a.job.0 a.rev) (Some why) e;
    weights = λ f. refl;
    emitted = (
      record {
        revision = record { spec = a.spec; copies = task.copies; within = task.within; few = task.few };
        noted = last_noted c.past.notes (b.past.notes ++ notes) (place_of a.job.0 a.rev) 5 (ap (λ (v : View). v.notes) e);
      },
      tt,
    );
    unstopped = λ g. refl;
    serving = serving;
  }

  ended_as : (job : JobNo) (status : Status) (ends : Ends lane worked job (Ok status))
      → OfWord lane job (λ place. LooksAndCloses (view_of b) (view_of c) place (Ok status)) → Worked made b c worked more
  ended_as job status ends word =
      let h = ends.held in
      let same : word.held ≡ h = let k = sym word.here ∙ ends.here in cc in
      let at = held_task h job.0 ends.here in
      let rev_at : ℕ → ℕ = λ r. place_of job.0 r in
      let job_at : ℕ → ℕ = λ j. place_of j h.by.rev in
      let place_is : place_of job.0 word.held.by.rev ≡ place_of h.by.job.0 h.by.rev =
      ap (λ (x : Held). place_of job.0 x.by.rev) same ∙ ap job_at (sym at.1) in
      let moved = word.word.closes.moved
      ∙ ap (λ (v : View). moving v (place_of job.0 word.held.by.rev) 3 (status_word status)) word.word.looks.noted in
      let M : Place → Status → Type 0 =
      λ place st. view_of c ≡ moving (noting (view_of b) ((place, 3) ∷ [])) place 3 (status_word st) in
      let there = subst (λ (p : Place). M p status) place_is moved in
      let e = subst (λ (st : Status). M (place_of h.by.job.0 h.by.rev) st) ends.closes.0 there in
      let acts = closing_acts b c lawful ((place_of h.by.job.0 h.by.rev, 3) ∷ []) (place_of h.by.job.0 h.by.rev) ends.why e in
      let serving = serving_step job (stepped.Ended status) acts.kept ends in
      let hooks : worked.hooks ≡ hook_of h.by (end_status ends.why) ∷ lane.hooks =
      ends.closes.2 ∙ ap (λ (hs : List Hook). hook_of h.by status ∷ hs) (come_hooks h ends.mid ends.why ends.comes)
      ∙ ap (λ (st : Status). hook_of h.by st ∷ lane.hooks) ends.closes.0 in
      subst (λ (m : List Hook). Worked made b c worked m) (sym (one_given lane worked (hook_of h.by (end_status ends.why)) more hooks gave))
      (final_hook h.by ends.why at.0 ((place_of h.by.job.0 h.by.rev, 3) ∷ []) serving e)

  stepped_so : (job : JobNo) (came : Stepped) → Steps lane worked job (view_of b) (view_of c) came → Worked made b c worked more
  stepped_so job stepped.NotHere does = still (still_acts b c lawful does.1) does.0.1
  stepped_so job stepped.Did does =
      let acts = quiet_acts b c lawful ((place_of job.0 does.1.held.by.rev, 3) ∷ []) does.1.word.noted in
      silent acts does.0.line.hooks (serving_step job stepped.Did acts.kept does.0)
  stepped_so job (stepped.Lost mark) (inl does) =
      let acts = quiet_acts b c lawful ((place_of job.0 does.1.held.by.rev, word_of mark) ∷ []) does.1.word.0.noted in
      silent acts does.0.hooks (serving_step job (stepped.Lost mark) acts.kept (inl does.0))
  stepped_so job (stepped.Lost mark) (inr does) =
      let place = place_of job.0 does.1.held.by.rev in
      let e = does.1.word.closes.0.noted ∙ ap (λ (v : View). noting v ((place, word_of mark) ∷ [])) does.1.word.looks.noted in
      let flat : noting (noting (view_of b) ((place, 3) ∷ [])) ((place, word_of mark) ∷ []) ≡ noting (view_of b) ((place, 3) ∷ (place, word_of mark) ∷ []) =
      ap (λ (ns : Notes). record (view_of b) { notes = ns }) (append_assoc b.past.notes ((place, 3) ∷ []) ((place, word_of mark) ∷ [])) in
      let acts = quiet_acts b c lawful ((place, 3) ∷ (place, word_of mark) ∷ []) (e ∙ flat) in
      silent acts (does.0.closes.1 ∙ come_hooks does.0.held does.0.mid does.0.why does.0.comes)
      (serving_step job (stepped.Lost mark) acts.kept (inr does.0))
  stepped_so job (stepped.Ended status) does = ended_as job status does.0 does.1

  pub worked_so : (out : List Turn) → LaneDoes made out lane worked (view_of b) (view_of c) → Worked made b c worked more
  worked_so out (admits a came task is_out does) = admitted a came task does
  worked_so out (steps job came does) = stepped_so job came does

-- ---- what a lane holds is out

held_if : (out : List Turn) (job other : ℕ) (now before : Option Held) (b : Bool) → (b ≡ true → other ≡ job)
    → IfSome now (λ h. IsTurnOut out job h.by.rev) → IfSome before (λ h. IsTurnOut out other h.by.rev)
    → IfSome (if b then now else before) (λ h. IsTurnOut out other h.by.rev)
held_if out job other now before true same is was =
    subst (λ (j : ℕ). IfSome now (λ h. IsTurnOut out j h.by.rev)) (sym (same refl)) is
held_if out job other now before false same is was = was

held_after : (out : List Turn) (lane worked : State) (job : ℕ) (now : Option Held) → HeldAfter job now lane.held worked.held
    → IfSome now (λ h. IsTurnOut out job h.by.rev) → HoldsOut out lane → HoldsOut out worked
held_after out lane worked job now changes is were other =
    subst (λ (o : Option Held). IfSome o (λ h. IsTurnOut out other h.by.rev)) (sym (changes other))
    (held_if out job other now (held_at lane.held other) (nat_eq other job) (λ e. eqb-true other job e) is (were other))

goes_by : (h : Held) (work : Option Work) → (goes_on h work).by ≡ h.by
goes_by h None = refl
goes_by h (Some w) = refl

step_out : (out : List Turn) (lane worked : State) (job : JobNo) (v w : View) (came : Stepped) → Steps lane worked job v w came
    → HoldsOut out lane → HoldsOut out worked
step_out out lane worked job v w stepped.NotHere does were = subst (λ (x : State). HoldsOut out x) (sym does.0.1) were
step_out out lane worked job v w stepped.Did does were =
    let g = does.0 in
    let was : IsTurnOut out job.0 (g.held).by.rev =
    subst (λ (o : Option Held). IfSome o (λ h. IsTurnOut out job.0 h.by.rev)) g.here (were job.0) in
    let now = subst (λ (a : Admitted). IsTurnOut out job.0 a.rev) (sym (goes_by g.held g.work)) was in
    held_after out lane worked job.0 (Some (goes_on g.held g.work)) g.now now were
step_out out lane worked job v w (stepped.Lost mark) (inl does) were = held_after out lane worked job.0 None does.0.gone tt were
step_out out lane worked job v w (stepped.Lost mark) (inr does) were = held_after out lane worked job.0 None does.0.gone tt were
step_out out lane worked job v w (stepped.Ended status) does were = held_after out lane worked job.0 None does.0.gone tt were

admit_out : (out : List Turn) (lane worked : State) (a : Admitted) (v w : View) (came : Admit) → IsTurnOut out a.job.0 a.rev
    → AdmitsWord lane worked a v w came → HoldsOut out lane → HoldsOut out worked
admit_out out lane worked a v w admit.Began is_out does were =
    held_after out lane worked a.job.0 (Some (held_first a)) does.0.held is_out were
admit_out out lane worked a v w (admit.Lost mark) is_out does were = subst (λ (x : State). HoldsOut out x) (sym does.0) were
admit_out out lane worked a v w admit.Memory is_out does were = subst (λ (x : State). HoldsOut out x) (sym does.0) were

pub held_so : (made : List TaskSpec) (out : List Turn) (lane worked : State) (v w : View) → LaneDoes made out lane worked v w
    → HoldsOut out lane → HoldsOut out worked
held_so made out lane worked v w (admits a came task is_out does) were = admit_out out lane worked a v w came is_out does were
held_so made out lane worked v w (steps job came does) were = step_out out lane worked job v w came does were
