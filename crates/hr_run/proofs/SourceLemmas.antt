-- Each job is of a planned task, so that each revision has its source and can be copied where each
-- planned task can.
use Rattle.std.proofs.Common.{◌≡◌, refl, sym, ap, subst, ◌∙◌, zero, suc, ℕ, Bool, true, false, List, [], ◌∷◌, length, slice_get}
use Rattle.std.proofs.Math.ListN.{length-set}
use Rattle.std.proofs.lemmas.Bool.{eqb-true}
use Rattle.std.specs.List.{AllByRecursion}
use Rattle.std.specs.Prelude.{◌&&◌, Option, Some, None, IfSome, IsSome, if◌then◌else◌, nat_eq}
use Rattle.hr_event.specs.declared.event.Event.{Event}
use Rattle.hr_event.specs.declared.task.TaskSpec.{TaskSpec}
use Rattle.hr_event.specs.declared.told.Told.{Told}
use Rattle.hr_adapter.specs.Content.{Content}
use Rattle.hr_board.specs.Plain.{view_of}
use Rattle.hr_line.specs.Orderly.{admitted_at}
use Rattle.hr_line.specs.State.{State, link_at}
use Rattle.hr_line.specs.declared.held.Admitted.{Admitted}
use Rattle.hr_whole.specs.Copied.{BothUnfailing, CanBeCopied}
use Rattle.hr_whole.specs.Texts.{HaveSources}
use Rattle.hr_promise.specs.Arrives.{TaskCanArrive, as_first}
use Rattle.hr_promise.specs.Holds.{HasSource}
use Rattle.hr_run.specs.Arrives.{LanesCanCopy, LanesHaveSource, RunsThrough}
use Rattle.hr_run.specs.Holds.{Holds, IsServing, IsTask}
use Rattle.hr_run.specs.State.{CoreState, spec_of}
use Rattle.hr_run.proofs.LaneLemmas.{admitted_has, both_true}
use Rattle.hr_run.proofs.ListLemmas.{all_append, all_at, all_then}
use Rattle.hr_run.proofs.MoveLemmas.{Move, keep_through}
use Rattle.hr_run.proofs.MoveLemmas.Move.{calls, fails_to, hears, plants, still, stopped, sweeps}

-- ---- the number of lanes

count_same : (n : ℕ) (s t : CoreState) → t.lanes ≡ s.lanes → length s.lanes ≡ n → length t.lanes ≡ n
count_same n s t lanes is = ap (λ (ls : List State). length ls) lanes ∙ is

count_each : (n : ℕ) (stops : Bool) (s t : CoreState) → Move stops s t → length s.lanes ≡ n → length t.lanes ≡ n
count_each n stops s t (still rest store) is = count_same n s t rest.lanes is
count_each n stops s t (calls at lane worked h did) is =
    ap (λ (ls : List State). length ls) h.lanes ∙ length-set s.lanes at worked ∙ is
count_each n stops s t (plants h) is = count_same n s t h.lanes is
count_each n stops s t (fails_to h) is = count_same n s t h.rest.lanes is
count_each n stops s t (hears v w hook came rest h) is = count_same n s t rest.lanes is
count_each n stops s t (sweeps keep count rest h) is = count_same n s t rest.lanes is
count_each n stops s t (stopped allowed h) is = count_same n s t h.lanes is

pub count_through : (s t : CoreState) (events : List Event) (said : List Told) → RunsThrough s events said t
    → length t.lanes ≡ length s.lanes
count_through s t events said runs =
    keep_through (λ (x : CoreState). length x.lanes ≡ length s.lanes) (count_each (length s.lanes)) events s t said runs refl

-- ---- what is planned, and what was made of it

module _ (P : TaskSpec → Type 0) where
  pub record ArePlanned (s : CoreState) : Type 0 where
    pub plan : IfSome s.plan (AllByRecursion P)
    pub made : AllByRecursion P s.made

  planned_same : (s t : CoreState) → t.plan ≡ s.plan → t.made ≡ s.made → ArePlanned s → ArePlanned t
  planned_same s t plan made o = record {
    plan = subst (λ (p : Option (List TaskSpec)). IfSome p (AllByRecursion P)) (sym plan) o.plan;
    made = subst (AllByRecursion P) (sym made) o.made;
  }

  pub planned_each : (stops : Bool) (s t : CoreState) → Move stops s t → ArePlanned s → ArePlanned t
  planned_each stops s t (still rest store) o = planned_same s t rest.plan rest.made o
  planned_each stops s t (calls at lane worked h did) o =
      planned_same s t (ap (λ (x : CoreState). x.plan) h.after) (ap (λ (x : CoreState). x.made) h.after) o
  planned_each stops s t (plants h) o = record {
    plan = subst (λ (p : Option (List TaskSpec)). IfSome p (AllByRecursion P)) (sym h.plan) o.plan;
    made = subst (AllByRecursion P) (sym h.made) (all_append P s.made h.specs o.made
        (subst (λ (p : Option (List TaskSpec)). IfSome p (AllByRecursion P)) h.planned o.plan));
  }
  planned_each stops s t (fails_to h) o = planned_same s t h.rest.plan h.rest.made o
  planned_each stops s t (hears v w hook came rest h) o = planned_same s t rest.plan rest.made o
  planned_each stops s t (sweeps keep count rest h) o = planned_same s t rest.plan rest.made o
  planned_each stops s t (stopped allowed h) o = planned_same s t h.plan h.made o

  pub planned_through : (s t : CoreState) (events : List Event) (said : List Told) → RunsThrough s events said t → ArePlanned s
      → ArePlanned t
  planned_through s t events said runs o = keep_through ArePlanned planned_each events s t said runs o

  pub spec_has : (made : List TaskSpec) (job : ℕ) (spec : TaskSpec) → AllByRecursion P made → spec_of made job ≡ Some spec → P spec
  spec_has made zero spec all is = absurd (cc)
  spec_has made (suc at) spec all is = all_at P made at spec all is

-- ---- what was admitted to a lane

-- the task of a revision that was admitted to a lane of the core
pub task_in : (s : CoreState) → Holds s → (place : ℕ) (lane : State) → slice_get s.lanes place ≡ Some lane → (job rev : ℕ) (a : Admitted)
    → admitted_at lane.admitted job rev ≡ Some a → IsTask s.made a
task_in s o place lane there job rev a is =
    let was = all_at (IsServing s.made (view_of s.board)) s.lanes place lane o.lanes there in
    admitted_has (IsTask s.made) lane.admitted job rev a was.tasks is

own_if : (x a : Admitted) (rest : Option Admitted) (job rev : ℕ) (b : Bool) → (b ≡ true → (x.job.0 ≡ job) × (x.rev ≡ rev))
    → (rest ≡ Some a → (a.job.0 ≡ job) × (a.rev ≡ rev)) → (if b then Some x else rest) ≡ Some a → (a.job.0 ≡ job) × (a.rev ≡ rev)
own_if x a rest job rev true same later is =
    let e : x ≡ a = cc in subst (λ (y : Admitted). (y.job.0 ≡ job) × (y.rev ≡ rev)) e (same refl)
own_if x a rest job rev false same later is = later is

-- it has the numbers under which it was found
pub admitted_own : (all : List Admitted) (job rev : ℕ) (a : Admitted) → admitted_at all job rev ≡ Some a
    → (a.job.0 ≡ job) × (a.rev ≡ rev)
admitted_own [] job rev a is = absurd (cc)
admitted_own (x ∷ all) job rev a is =
    own_if x a (admitted_at all job rev) job rev (nat_eq x.job.0 job && nat_eq x.rev rev)
    (λ e. let both = both_true (nat_eq x.job.0 job) (nat_eq x.rev rev) e in (eqb-true x.job.0 job both.0, eqb-true x.rev rev both.1))
    (admitted_own all job rev a) is

some_of : (o : Option Admitted) (P : Admitted → Type 0) → ((a : Admitted) → o ≡ Some a → P a) → IfSome o P
some_of None P f = tt
some_of (Some a) P f = f a refl

-- each revision that was admitted to a lane has a source, where each planned task has
pub sources_in : (opened : List State) (t : CoreState) → Holds t → AllByRecursion (LanesHaveSource opened) t.made → (place : ℕ)
    (lane now : State) → slice_get opened place ≡ Some lane → slice_get t.lanes place ≡ Some now → HaveSources lane now
sources_in opened t o made place lane now first there job rev =
    some_of (admitted_at now.admitted job rev) (λ a. IsSome (link_at lane.sources a.spec.src)) (λ a is.
    (let task = task_in t o place now there job rev a is in
    let has = spec_has (LanesHaveSource opened) t.made a.job.0 a.spec made task.copies in
    all_at (λ (l : State). HasSource l a.spec) opened place lane has first))

-- ---- a task that can be copied, by any revision of it

pub any_copied : (opened : State) (a : Admitted) (c o : Content) → CanBeCopied opened (as_first a.spec) c o → CanBeCopied opened a c o
any_copied opened a c o can = record {
  calm = record {
    source = can.calm.source;
    from = can.calm.from;
    quiet = can.calm.quiet;
    told = can.calm.told;
    dest = can.calm.dest;
    within = can.calm.within;
    named = can.calm.named;
    still = can.calm.still;
    tells = can.calm.tells;
    honest = can.calm.honest;
  };
  honest = can.honest;
  tags = can.tags;
}

pub any_unfailing : (opened : State) (a : Admitted) → BothUnfailing opened (as_first a.spec) → BothUnfailing opened a
any_unfailing opened a both = record {
  source = both.source;
  from = both.from;
  can_read = both.can_read;
  dest = both.dest;
  to = both.to;
  can_write = both.can_write;
}

there : {X : Type 0} (o : Option X) (x : X) → o ≡ Some x → IsSome o
there None x is = cc
there (Some y) x is = refl

lane_source : (opened : State) (spec : TaskSpec) → TaskCanArrive opened spec → HasSource opened spec
lane_source opened spec can = there (link_at opened.sources spec.src) can.copied.calm.source can.copied.calm.from

pub lanes_source : (opened : List State) (spec : TaskSpec) → LanesCanCopy opened spec → LanesHaveSource opened spec
lanes_source opened spec can =
    all_then (λ (l : State). TaskCanArrive l spec) (λ (l : State). HasSource l spec) (λ l one. lane_source l spec one) opened can
