-- After events that stop nothing, with a finish behind each trigger, nothing is left to do.
use Rattle.std.proofs.Common.{◌≡◌, ◌⊎◌, inl, inr, refl, sym, ap, subst, ◌∙◌, zero, suc, ℕ, Bool, true, false, List, [], ◌∷◌, length, slice_get, arith}
use Rattle.std.proofs.lemmas.List.Sorted.{length_permutation}
use Rattle.std.specs.List.{AllByRecursion, Contains}
use Rattle.std.specs.Prelude.{Option, Some, None, IfSome, IsSome}
use Rattle.hr_base.specs.declared.number.JobNo.{JobNo}
use Rattle.hr_base.specs.declared.status.Hook.{Hook}
use Rattle.hr_event.specs.declared.event.Event.{Event}
use Rattle.hr_event.specs.declared.event.Event.TheVariants as event
use Rattle.hr_event.specs.declared.task.TaskSpec.{TaskSpec}
use Rattle.hr_event.specs.declared.task.Turn.{Turn}
use Rattle.hr_event.specs.declared.told.Told.{Told}
use Rattle.hr_line.specs.State.{held_at}
use Rattle.hr_line.specs.declared.held.Held.{Held}
use Rattle.hr_queue.specs.Taking.{Takes}
use Rattle.hr_queue.specs.View as queue
use Rattle.hr_queue.specs.declared.answer.Taken.{Taken}
use Rattle.hr_queue.specs.declared.answer.Taken.TheVariants as taken
use Rattle.hr_queue.specs.declared.delayed.Delayed.{Delayed}
use Rattle.hr_run.specs.Arrives.{AskForAll, AsksForAll, HasFinish, RunsThrough}
use Rattle.hr_run.specs.Claims.{IsFinished}
use Rattle.hr_run.specs.Does.{DeliversNumber}
use Rattle.hr_run.specs.Holds.{Holds, HoldsOut, IsTurnOut}
use Rattle.hr_run.specs.Part.{Parts}
use Rattle.hr_run.specs.Run.{Does}
use Rattle.hr_run.specs.Sound.{IsSound}
use Rattle.hr_run.specs.State.{CoreState, hook_at, was_delivered}
use Rattle.hr_run.specs.Turning.{GoesOut, SettlesOut, StepsJob}
use Rattle.hr_run.proofs.FinishLemmas.{delivered_stays, finish_finishes}
use Rattle.hr_run.proofs.ListLemmas.{all_at, get_within}
use Rattle.hr_run.proofs.MoveLemmas.{is_stop}
use Rattle.hr_run.proofs.StepLemmas.{after_parts}
use Rattle.hr_run.proofs.WellLemmas.{Well, well_does}

-- ---- where nothing is left to do, nothing is done until the next trigger

finished_rest : (s t : CoreState) → t.turns ≡ s.turns → t.hooks ≡ s.hooks
    → ((k : ℕ) → was_delivered s.delivered k ≡ true → was_delivered t.delivered k ≡ true) → IsFinished s → IsFinished t
finished_rest s t turns hooks marks f = record {
  waiting = ap (λ (q : queue.View). q.waiting) turns ∙ f.waiting;
  delayed = ap (λ (q : queue.View). q.delayed) turns ∙ f.delayed;
  out = ap (λ (q : queue.View). q.out) turns ∙ f.out;
  delivered = λ k h e. marks k (f.delivered k h (sym (ap (λ (hs : List Hook). hook_at hs k) hooks) ∙ e));
}

same_marks : (s t : CoreState) → t.delivered ≡ s.delivered → (k : ℕ) → was_delivered s.delivered k ≡ true → was_delivered t.delivered k ≡ true
same_marks s t is k e = ap (λ (ms : List Bool). was_delivered ms k) is ∙ e

finished_same : (s t : CoreState) → t ≡ s → IsFinished s → IsFinished t
finished_same s t is f = subst IsFinished (sym is) f

none_taken : (now : ℕ) (q r : queue.View) (turn : Turn) → q.waiting ≡ [] → q.delayed ≡ [] → Takes now q (taken.Turn turn) r → ⊥
none_taken now q r turn waiting delayed (inl h) =
    let l = length_permutation q.delayed (h.due.due ∷ r.delayed) h.due.rest in
    let z = ap (λ (ds : List Delayed). length ds) delayed in
    omega (arith, l, z)
none_taken now q r turn waiting delayed (inr h) = let both = sym waiting ∙ h.first in cc

none_goes : (s t : CoreState) (came : Taken) → GoesOut s came t → IsFinished s → t.turns ≡ s.turns
none_goes s t (taken.Turn turn) h f = absurd (none_taken s.now s.turns t.turns turn f.waiting f.delayed h.takes)
none_goes s t (taken.Later due) h f = h.takes.0
none_goes s t (taken.Busy out) h f = h.takes.0
none_goes s t taken.Idle h f = h.takes.0

finished_goes : (s t : CoreState) (came : Taken) → GoesOut s came t → IsFinished s → IsFinished t
finished_goes s t came h f =
    finished_rest s t (none_goes s t came h f) (ap (λ (x : CoreState). x.hooks) h.after)
    (same_marks s t (ap (λ (x : CoreState). x.delivered) h.after)) f

none_out : {X : Type 0} (xs : List X) (i : ℕ) (x : X) → xs ≡ [] → slice_get xs i ≡ Some x → ⊥
none_out xs i x is e = let l = get_within xs i x e in let z = ap (λ ys. length ys) is in omega (arith, l, z)

none_within : {X : Type 0} (xs : List X) (x : X) → xs ≡ [] → Contains xs x → ⊥
none_within xs x is c = let z = ap (λ ys. length ys) is in omega (arith, c.1, z)

none_held : (out : List Turn) (job : ℕ) (found : Option Held) → out ≡ [] → IfSome found (λ h. IsTurnOut out job h.by.rev) → IsSome found → ⊥
none_held out job None is has some = cc
none_held out job (Some h) is has some = none_within out has.turn is has.there

none_steps : (s t : CoreState) (job : JobNo) (answer : Told) → Holds s → IsFinished s → StepsJob s job answer t → ⊥
none_steps s t job answer o f h =
    let has = all_at (HoldsOut s.turns.out) s.lanes h.at h.lane o.held h.calls.there in
    none_held s.turns.out job.0 (held_at h.lane.held job.0) f.out (has job.0) h.holds

none_settles : (s t : CoreState) (job : JobNo) (answer : Told) → IsFinished s → SettlesOut s job answer t → ⊥
none_settles s t job answer f h = none_out s.turns.out _ h.settles.held f.out h.settles.out.there

finished_number : (s t : CoreState) (n : ℕ) (answer : Told) → DeliversNumber s n answer t → IsFinished s → IsFinished t
finished_number s t zero answer h f = finished_same s t h.same f
finished_number s t (suc place) answer (inl h) f =
    finished_rest s t (ap (λ (x : CoreState). x.turns) h.after) (ap (λ (x : CoreState). x.hooks) h.after)
    (λ k e. ap (λ (ms : List Bool). was_delivered ms k) h.marks ∙ delivered_stays s.delivered place k e) f
finished_number s t (suc place) answer (inr h) f = finished_same s t h.same f

-- an event that stops nothing leaves nothing to do, where nothing was left, or a finish is behind it
finished_on : (s t : CoreState) (e : Event) (answers : List Told) (more : List Event) → AsksForAll e more → Holds s → Does s e answers t
    → IsFinished s ⊎ HasFinish (e ∷ more) → IsFinished t ⊎ HasFinish more
finished_on s t event.Finish answers more asks o h so = inl (finish_finishes s t h.0)
finished_on s t (event.Trigger policy) answers more asks o h so = inr asks
finished_on s t (event.Stop job) answers more asks o h so = absurd asks
finished_on s t event.Due answers more asks o h so = absurd h
finished_on s t e answers more asks o h (inr has) = inr has
finished_on s t event.Take answers more asks o (answer, is, inl h) (inl f) =
    absurd (none_taken s.now s.turns (h.mid).turns h.turn f.waiting f.delayed h.out.takes)
finished_on s t event.Take answers more asks o (answer, is, inr h) (inl f) = inl (finished_goes s t h.came h.rests f)
finished_on s t (event.Step job) answers more asks o (answer, is, inl h) (inl f) = absurd (none_steps s t job answer o f h)
finished_on s t (event.Step job) answers more asks o (answer, is, inr h) (inl f) = inl (finished_same s t h.same f)
finished_on s t (event.Settle job) answers more asks o (answer, is, inl h) (inl f) = absurd (none_settles s t job answer f h)
finished_on s t (event.Settle job) answers more asks o (answer, is, inr (inl h)) (inl f) = inl (finished_same s t h.same f)
finished_on s t (event.Settle job) answers more asks o (answer, is, inr (inr h)) (inl f) = inl (finished_same s t h.same f)
finished_on s t (event.Deliver n) answers more asks o (answer, is, h) (inl f) = inl (finished_number s t n answer h f)
finished_on s t (event.Forge hook) answers more asks o (answer, is, h) (inl f) =
    inl (finished_rest s t (ap (λ (x : CoreState). x.turns) h.after) (ap (λ (x : CoreState). x.hooks) h.after)
    (same_marks s t (ap (λ (x : CoreState). x.delivered) h.after)) f)
finished_on s t (event.Wait n) answers more asks o (answer, is, h) (inl f) =
    inl (finished_rest s t (ap (λ (x : CoreState). x.turns) h.after) (ap (λ (x : CoreState). x.hooks) h.after)
    (same_marks s t (ap (λ (x : CoreState). x.delivered) h.after)) f)
finished_on s t (event.Sweep n) answers more asks o (answer, is, h) (inl f) =
    inl (finished_rest s t (ap (λ (x : CoreState). x.turns) h.after) (ap (λ (x : CoreState). x.hooks) h.after)
    (same_marks s t (ap (λ (x : CoreState). x.delivered) h.after)) f)
finished_on s t (event.Tags reg) answers more asks o h (inl f) = inl (finished_same s t h.0 f)
finished_on s t (event.Row job) answers more asks o h (inl f) = inl (finished_same s t h.0 f)
finished_on s t (event.Exec exec) answers more asks o h (inl f) = inl (finished_same s t h.0 f)
finished_on s t (event.Word job rev) answers more asks o (answer, is, inl h) (inl f) =
    inl (finished_rest s t (ap (λ (x : CoreState). x.turns) h.after) (ap (λ (x : CoreState). x.hooks) h.after)
    (same_marks s t (ap (λ (x : CoreState). x.delivered) h.after)) f)
finished_on s t (event.Word job rev) answers more asks o (answer, is, inr h) (inl f) = inl (finished_same s t h.same f)
finished_on s t (event.CauseOf job) answers more asks o h (inl f) = inl (finished_same s t h.0 f)

calm_event : (e : Event) (more : List Event) → AsksForAll e more → is_stop e ≡ false
calm_event (event.Stop job) more asks = absurd asks
calm_event (event.Trigger policy) more asks = refl
calm_event _ more asks = refl

-- ---- all events

-- the law by which events keep what holds
abbrev pub HoldsOn : Type 0
HoldsOn = (s t : CoreState) (e : Event) (answers : List Told) → Holds s → IsSound s → IsSound t → Does s e answers t → Holds t

-- what stands at the end
pub record Ended (P : TaskSpec → Type 0) (specs : List TaskSpec) (each : AllByRecursion P specs) (t : CoreState) : Type 0 where
  pub well : Well P specs each t
  pub finished : IsFinished t
  pub holds : Holds t
  pub sound : IsSound t

none_left : (s : CoreState) → IsFinished s ⊎ HasFinish [] → IsFinished s
none_left s (inl f) = f
none_left s (inr has) = absurd has

pub through_ended : HoldsOn → (P : TaskSpec → Type 0) (specs : List TaskSpec) (each : AllByRecursion P specs) (events : List Event)
    (s t : CoreState) (said : List Told) → RunsThrough s events said t → AskForAll events → Holds s → IsSound s → Well P specs each s
    → IsFinished s ⊎ HasFinish events → Ended P specs each t
through_ended on P specs each [] s t said (is, no_more) asks o sound well so =
    subst (Ended P specs each) (sym is) (record { well = well; finished = none_left s so; holds = o; sound = sound })
through_ended on P specs each (e ∷ events) s t said (mid, answers, later, does, good, runs, is) asks o sound well so =
    through_ended on P specs each events mid t later runs asks.1 (on s mid e answers o sound good does) good
    (well_does P specs each s mid e answers (calm_event e events asks.0) does well)
    (finished_on s mid e answers events asks.0 o does so)

-- before the first event
pub opens_finished : (s : CoreState) → s.turns ≡ queue.empty_queue → s.hooks ≡ [] → IsFinished s
opens_finished s turns hooks = record {
  waiting = ap (λ (q : queue.View). q.waiting) turns;
  delayed = ap (λ (q : queue.View). q.delayed) turns;
  out = ap (λ (q : queue.View). q.out) turns;
  delivered = λ number hook e. absurd (none_at s.hooks number hook hooks e);
}
  where
    none_at : (hooks : List Hook) (number : ℕ) (hook : Hook) → hooks ≡ [] → hook_at hooks number ≡ Some hook → ⊥
    none_at hooks zero hook is e = cc
    none_at hooks (suc at) hook is e = none_out hooks at hook is e

-- ---- events that were all done are parts

pub through_parts : ((s t : CoreState) (e : Event) (answers : List Told) → Holds s → IsSound s → IsSound t → Does s e answers t → Parts s t)
    → ((s t : CoreState) → Holds s → Parts s t → Holds t) → (events : List Event) (s t : CoreState) (said : List Told)
    → RunsThrough s events said t → Holds s → IsSound s → Parts s t
through_parts does keeps [] s t said (is, no_more) o sound = subst (Parts s) (sym is) (Parts.none s)
through_parts does keeps (e ∷ events) s t said (mid, answers, later, h, good, runs, is) o sound =
    let first = does s mid e answers o sound good h in
    after_parts s mid t first (through_parts does keeps events mid t later runs (keeps s mid o first) good)
