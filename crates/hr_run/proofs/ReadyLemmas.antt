-- What the calls of the core ask of it stays, whatever events come.
use Rattle.std.proofs.Common.{◌≡◌, refl, sym, ap, subst, ◌∙◌, zero, suc, ℕ, ◌+◌, ◌≤◌, Bool, true, false, List, [], ◌∷◌, ◌++◌, length, set, slice_get, inl, inr, arith}
use Rattle.std.proofs.Math.ListN.{length-set}
use Rattle.std.proofs.lemmas.Bool.Decides.{nat_tests}
use Rattle.std.specs.List.{AllByRecursion}
use Rattle.std.specs.Prelude.{Option, Some, None, IfSome, IsSome, Ok, Err, if◌then◌else◌, nat_eq, nat_le, nat_lt, ◌&&◌}
use Rattle.hr_base.specs.declared.number.JobNo.{JobNo}
use Rattle.hr_base.specs.declared.number.RegNo.{RegNo}
use Rattle.hr_base.specs.declared.status.Hook.{Hook}
use Rattle.hr_event.specs.declared.cause.Cause.{Cause}
use Rattle.hr_event.specs.declared.task.TaskSpec.{TaskSpec}
use Rattle.hr_event.specs.declared.view.Received.{Received}
use Rattle.hr_event.specs.declared.view.Received.TheVariants as received
use Rattle.hr_adapter.specs.Reg.{Reg}
use Rattle.hr_board.specs.View.{View}
use Rattle.hr_line.specs.Line.{LineEnd}
use Rattle.hr_line.specs.State.{Link, State, link_at, with_link}
use Rattle.hr_line.specs.Step.{ComesToEnd, DoesLine}
use Rattle.hr_line.specs.declared.answer.Admit.{Admit}
use Rattle.hr_line.specs.declared.answer.Admit.TheVariants as admit
use Rattle.hr_line.specs.declared.answer.Stepped.{Stepped}
use Rattle.hr_line.specs.declared.answer.Stepped.TheVariants as stepped
use Rattle.hr_line.specs.declared.held.Admitted.{Admitted}
use Rattle.hr_line.specs.declared.held.Held.{Held}
use Rattle.hr_lane.specs.Admission.{AdmitsWord}
use Rattle.hr_lane.specs.Word.{Steps}
use Rattle.hr_store.specs.Receiving.{ReceivesHook}
use Rattle.hr_store.specs.Store.{StoreState}
use Rattle.hr_run.specs.Holds.{Holds}
use Rattle.hr_run.specs.Ready.{CanRun, IsReady}
use Rattle.hr_run.specs.State.{CoreState}
use Rattle.hr_run.proofs.ListLemmas.{all_append, all_then}
use Rattle.hr_run.proofs.MoveLemmas.{LaneDid, Move}
use Rattle.hr_run.proofs.MoveLemmas.LaneDid.{admits, steps}
use Rattle.hr_run.proofs.MoveLemmas.Move.{calls, fails_to, hears, plants, still, stopped, sweeps}

-- ---- no call of a lane takes a connection away

number_stays : (b : Bool) (l : Link) (g : Reg) → (if b then record l { seen = g } else l).reg ≡ l.reg
number_stays true l g = refl
number_stays false l g = refl

some_at : (b : Bool) (x y : Reg) (o p : Option Reg) → (IsSome o → IsSome p)
    → IsSome (if b then Some x else o) → IsSome (if b then Some y else p)
some_at true x y o p later there = refl
some_at false x y o p later there = later there

there_with : (links : List Link) (reg other : RegNo) (g : Reg) → IsSome (link_at links other)
    → IsSome (link_at (with_link links reg g) other)
there_with [] reg other g there = cc
there_with (l ∷ more) reg other g there =
    let now : Link = if nat_eq l.reg.0 reg.0 then record l { seen = g } else l in
    subst (λ (n : RegNo). IsSome (if nat_eq n.0 other.0 then Some now.seen else link_at (with_link more reg g) other))
    (sym (number_stays (nat_eq l.reg.0 reg.0) l g))
    (some_at (nat_eq l.reg.0 other.0) l.seen now.seen (link_at more other) (link_at (with_link more reg g) other)
    (there_with more reg other g) there)

-- each connection that was there is there
record KeepsLinks (s t : State) : Type 0 where
  sources : (reg : RegNo) → IsSome (link_at s.sources reg) → IsSome (link_at t.sources reg)
  dests : (reg : RegNo) → IsSome (link_at s.dests reg) → IsSome (link_at t.dests reg)

links_same : (s t : State) → t.sources ≡ s.sources → t.dests ≡ s.dests → KeepsLinks s t
links_same s t one two = record {
  sources = λ reg there. subst (λ (l : List Link). IsSome (link_at l reg)) (sym one) there;
  dests = λ reg there. subst (λ (l : List Link). IsSome (link_at l reg)) (sym two) there;
}

links_line : (h : Held) (s t : State) (end : LineEnd) → DoesLine h s t end → KeepsLinks s t
links_line h s t end line = record {
  sources = λ reg there. subst (λ (l : List Link). IsSome (link_at l reg)) (sym line.moves.sources)
      (there_with s.sources h.by.spec.src reg line.g there);
  dests = λ reg there. subst (λ (l : List Link). IsSome (link_at l reg)) (sym line.moves.dests)
      (there_with s.dests h.by.spec.dst reg line.q there);
}

links_both : (s m t : State) → KeepsLinks s m → KeepsLinks m t → KeepsLinks s t
links_both s m t first second = record {
  sources = λ reg there. second.sources reg (first.sources reg there);
  dests = λ reg there. second.dests reg (first.dests reg there);
}

links_come : (h : Held) (s t : State) (why : Option Cause) → ComesToEnd h s t why → KeepsLinks s t
links_come h s t None comes = links_same s t comes.1.sources comes.1.dests
links_come h s t (Some why) (inl line) = links_line h s t (Err why) line
links_come h s t (Some why) (inr rests) = links_same s t rests.1.sources rests.1.dests

links_still : (s t : State) → t ≡ s → KeepsLinks s t
links_still s t is = links_same s t (ap (λ (x : State). x.sources) is) (ap (λ (x : State). x.dests) is)

links_step : (s t : State) (job : JobNo) (v w : View) (came : Stepped) → Steps s t job v w came → KeepsLinks s t
links_step s t job v w stepped.NotHere does = links_still s t does.0.1
links_step s t job v w stepped.Did does = links_line does.0.held s t (Ok does.0.work) does.0.line
links_step s t job v w (stepped.Lost mark) (inl does) = links_same s t does.0.sources does.0.dests
links_step s t job v w (stepped.Lost mark) (inr does) =
    let ends = does.0 in
    links_both s ends.mid t (links_come ends.held s ends.mid ends.why ends.comes) (links_same ends.mid t ends.sources ends.dests)
links_step s t job v w (stepped.Ended status) does =
    let ends = does.0 in
    links_both s ends.mid t (links_come ends.held s ends.mid ends.why ends.comes) (links_same ends.mid t ends.sources ends.dests)

links_admit : (s t : State) (a : Admitted) (v w : View) (came : Admit) → AdmitsWord s t a v w came → KeepsLinks s t
links_admit s t a v w admit.Began does = links_same s t does.0.sources does.0.dests
links_admit s t a v w (admit.Lost mark) does = links_still s t does.0
links_admit s t a v w admit.Memory does = links_still s t does.0

links_did : (s t : State) (v w : View) → LaneDid s t v w → KeepsLinks s t
links_did s t v w (admits a came does) = links_admit s t a v w came does
links_did s t v w (steps job came does) = links_step s t job v w came does

-- ---- the lane of a task goes on having its connections

-- the lane at a place, after one was exchanged, is the one that was there, or came from it
came_from : (ls : List State) (i at : ℕ) (lane worked x : State) → slice_get ls i ≡ Some lane → KeepsLinks lane worked
    → slice_get ls at ≡ Some x → (y : State) × (slice_get (set ls i worked) at ≡ Some y) × KeepsLinks x y
came_from [] zero at lane worked x e keeps there = absurd (cc)
came_from [] (suc i) at lane worked x e keeps there = absurd (cc)
came_from (l ∷ ls) zero zero lane worked x e keeps there =
    let both : Some lane ≡ Some x = sym e ∙ there in
    let same : lane ≡ x = cc in
    (worked, refl, subst (λ (z : State). KeepsLinks z worked) same keeps)
came_from (l ∷ ls) zero (suc at) lane worked x e keeps there = (x, there, links_still x x refl)
came_from (l ∷ ls) (suc i) zero lane worked x e keeps there = (x, there, links_still x x refl)
came_from (l ∷ ls) (suc i) (suc at) lane worked x e keeps there = came_from ls i at lane worked x e keeps there

runs_on : (ls : List State) (i : ℕ) (lane worked : State) → slice_get ls i ≡ Some lane → KeepsLinks lane worked
    → (spec : TaskSpec) → CanRun ls spec → CanRun (set ls i worked) spec
runs_on ls i lane worked e keeps spec can =
    let now = came_from ls i 0 lane worked can.lane e keeps can.there in
    record {
      lane = now.0;
      there = now.1;
      source = now.2.sources spec.src can.source;
      dest = now.2.dests spec.dst can.dest;
    }

-- ---- what is asked beside what holds

pub record Asked (s : CoreState) : Type 0 where
  pub some_lane : 1 ≤ length s.lanes
  pub planned : IfSome s.plan (AllByRecursion (CanRun s.lanes))
  pub made : AllByRecursion (CanRun s.lanes) s.made
  pub within : s.store.jobs ≤ s.store.limit

planned_then : (P Q : TaskSpec → Type 0) → ((x : TaskSpec) → P x → Q x) → (plan : Option (List TaskSpec)) → IfSome plan (AllByRecursion P)
    → IfSome plan (AllByRecursion Q)
planned_then P Q f None each = tt
planned_then P Q f (Some specs) each = all_then P Q f specs each

-- lanes, plan and jobs stay
asked_same : (s t : CoreState) → t.lanes ≡ s.lanes → t.plan ≡ s.plan → t.made ≡ s.made → t.store.jobs ≡ s.store.jobs
    → t.store.limit ≡ s.store.limit → Asked s → Asked t
asked_same s t lanes plan made jobs limit o =
    let L : List State → Type 0 = λ ls. AllByRecursion (CanRun ls) s.made in
    let P : List State → Type 0 = λ ls. IfSome s.plan (AllByRecursion (CanRun ls)) in
    record {
      some_lane = (let l = ap (λ (ls : List State). length ls) lanes in let some = o.some_lane in omega (arith, l, some));
      planned = subst (λ (p : Option (List TaskSpec)). IfSome p (AllByRecursion (CanRun t.lanes))) (sym plan) (subst P (sym lanes) o.planned);
      made = subst (λ (m : List TaskSpec). AllByRecursion (CanRun t.lanes) m) (sym made) (subst L (sym lanes) o.made);
      within = (let w = o.within in omega (arith, w, jobs, limit));
    }

heard_jobs : (a c : StoreState) (v w : View) (hook : Hook) (came : Received) → ReceivesHook a v hook came c w
    → (c.jobs ≡ a.jobs) × (c.limit ≡ a.limit)
heard_jobs a c v w hook received.Unknown h =
    (ap (λ (x : StoreState). x.jobs) h.1, ap (λ (x : StoreState). x.limit) h.1)
heard_jobs a c v w hook received.Swept h =
    (ap (λ (x : StoreState). x.jobs) h.2, ap (λ (x : StoreState). x.limit) h.2)
heard_jobs a c v w hook (received.Unconfirmed mark) h =
    (ap (λ (x : StoreState). x.jobs) h.after_is, ap (λ (x : StoreState). x.limit) h.after_is)
heard_jobs a c v w hook received.Raised h =
    (ap (λ (x : StoreState). x.jobs) h.after_is, ap (λ (x : StoreState). x.limit) h.after_is)
heard_jobs a c v w hook received.Known h =
    (ap (λ (x : StoreState). x.jobs) h.after_is, ap (λ (x : StoreState). x.limit) h.after_is)

room_fits : (sum limit made : ℕ) → (nat_le sum limit && nat_lt made 4294967295) ≡ true → sum ≤ limit
room_fits sum limit made e = grind (arith, nat_tests)

pub asked_each : (stops : Bool) (s t : CoreState) → Move stops s t → Asked s → Asked t
asked_each stops s t (still rest store) o =
    asked_same s t rest.lanes rest.plan rest.made (ap (λ (x : StoreState). x.jobs) store) (ap (λ (x : StoreState). x.limit) store) o
asked_each stops s t (calls at lane worked h did) o =
    let keeps = links_did lane worked _ _ did in
    let on = runs_on s.lanes at lane worked h.there keeps in
    let mid : CoreState = record s { lanes = set s.lanes at worked } in
    let asked : Asked mid = record {
      some_lane = (let l = length-set s.lanes at worked in let some = o.some_lane in omega (arith, l, some));
      planned = planned_then (CanRun s.lanes) (CanRun mid.lanes) on s.plan o.planned;
      made = all_then (CanRun s.lanes) (CanRun mid.lanes) on s.made o.made;
      within = o.within;
    } in
    let store : t.store ≡ s.store = ap (λ (x : CoreState). x.store) h.after in
    asked_same mid t h.lanes (ap (λ (x : CoreState). x.plan) h.after) (ap (λ (x : CoreState). x.made) h.after)
    (ap (λ (x : StoreState). x.jobs) store) (ap (λ (x : StoreState). x.limit) store) asked
asked_each stops s t (plants h) o =
    let is = h.created.after_is in
    let room = room_fits (s.store.jobs + length h.specs) s.store.limit s.store.made h.created.room in
    let specs : AllByRecursion (CanRun s.lanes) h.specs =
    subst (λ (p : Option (List TaskSpec)). IfSome p (AllByRecursion (CanRun s.lanes))) h.planned o.planned in
    let L : List State → Type 0 = λ ls. AllByRecursion (CanRun ls) (s.made ++ h.specs) in
    let P : List State → Type 0 = λ ls. IfSome s.plan (AllByRecursion (CanRun ls)) in
    record {
      some_lane = (let l = ap (λ (ls : List State). length ls) h.lanes in let some = o.some_lane in omega (arith, l, some));
      planned = subst (λ (p : Option (List TaskSpec)). IfSome p (AllByRecursion (CanRun t.lanes))) (sym h.plan)
          (subst P (sym h.lanes) o.planned);
      made = subst (λ (m : List TaskSpec). AllByRecursion (CanRun t.lanes) m) (sym h.made)
          (subst L (sym h.lanes) (all_append (CanRun s.lanes) s.made h.specs o.made specs));
      within = (let j = ap (λ (x : StoreState). x.jobs) is in let l = ap (λ (x : StoreState). x.limit) is in omega (arith, j, l, room));
    }
asked_each stops s t (fails_to h) o = asked_same s t h.rest.lanes h.rest.plan h.rest.made h.jobs h.limit o
asked_each stops s t (hears v w hook came rest h) o =
    let same = heard_jobs s.store t.store v w hook came h in asked_same s t rest.lanes rest.plan rest.made same.0 same.1 o
asked_each stops s t (sweeps keep count rest h) o =
    asked_same s t rest.lanes rest.plan rest.made (ap (λ (x : StoreState). x.jobs) h.after_is)
    (ap (λ (x : StoreState). x.limit) h.after_is) o
asked_each stops s t (stopped allowed h) o =
    asked_same s t h.lanes h.plan h.made (ap (λ (x : StoreState). x.jobs) h.store) (ap (λ (x : StoreState). x.limit) h.store) o

pub ready_by : (s : CoreState) → Holds s → Asked s → IsReady s
ready_by s holds asked = record {
  holds = holds;
  some_lane = asked.some_lane;
  planned = asked.planned;
  made = asked.made;
  within = asked.within;
}

pub asked_of : (s : CoreState) → IsReady s → Asked s
asked_of s ready = record { some_lane = ready.some_lane; planned = ready.planned; made = ready.made; within = ready.within }
