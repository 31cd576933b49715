-- A finish is made of parts, and leaves nothing to do; so is what memory cut short, and so are
-- events one after the other.
use Rattle.std.proofs.Common.{◌≡◌, inl, inr, refl, sym, ap, subst, ◌∙◌, zero, suc, ℕ, ◌<◌, ◌≤◌, Bool, true, false, List, [], ◌∷◌, length, slice_get, arith}
use Rattle.std.proofs.lemmas.Bool.{cases_lt}
use Rattle.std.specs.Prelude.{Some, unwrap_or}
use Rattle.hr_base.specs.declared.number.JobNo.{JobNo}
use Rattle.hr_base.specs.declared.status.Hook.{Hook}
use Rattle.hr_event.specs.declared.event.Event.{Event}
use Rattle.hr_event.specs.declared.event.Event.TheVariants as event
use Rattle.hr_event.specs.declared.told.Told.{Told}
use Rattle.hr_queue.specs.View as queue
use Rattle.hr_queue.specs.declared.answer.Taken.TheVariants as taken
use Rattle.hr_run.specs.Claims.{IsFinished}
use Rattle.hr_run.specs.Finish.{DeliversFrom, Finishes, Rounds, RunsRounds, RunsTurn, StepsOut}
use Rattle.hr_run.specs.Run.{Cut, DeliversSome, Does, Runs, StepsSome, TakeCut}
use Rattle.hr_run.specs.Holds.{Holds}
use Rattle.hr_run.specs.Part.{Parts}
use Rattle.hr_run.specs.Part.Parts.{next, none}
use Rattle.hr_run.specs.Sound.{IsSound}
use Rattle.hr_run.specs.State.{CoreState, hook_at, was_delivered, with_mark}
use Rattle.hr_run.proofs.KeepsLemmas.{OtherLaws, keeps_parts}
use Rattle.hr_run.proofs.LaneLemmas.{LaneLaws}
use Rattle.hr_run.proofs.ListLemmas.{get_within}
use Rattle.hr_run.proofs.StepLemmas.{CallLaws, after_parts, deliver_part, now_part, one_part, one_parts, out_part, reserve_part, settle_part, step_part, take_parts}

module _ (lane_laws : LaneLaws) (laws : OtherLaws) (calls : CallLaws) where
  steps_out : (job : JobNo) (s t : CoreState) → StepsOut job s t → Parts s t
  steps_out job s _ (StepsOut.gone _ h) = none s
  steps_out job s t (StepsOut.step _ m _ answer h sound rest) =
      next s m t (step_part lane_laws laws calls s m job answer sound h) (steps_out job m t rest)

  steps_some : (job : JobNo) (s t : CoreState) → StepsSome job s t → Parts s t
  steps_some job s _ (StepsSome.rests _) = none s
  steps_some job s t (StepsSome.step _ m _ answer h sound rest) =
      next s m t (step_part lane_laws laws calls s m job answer sound h) (steps_some job m t rest)

  keeps : (s t : CoreState) → Holds s → Parts s t → Holds t
  keeps s t = keeps_parts lane_laws laws s t

  round_parts : (s t : CoreState) (job : JobNo) → Holds s → IsSound t → Rounds s job t → Parts s t
  round_parts s t job o sound h =
      let first = steps_out job s h.mid h.steps in
      after_parts s h.mid t first
      (one_part h.mid t (settle_part lane_laws laws calls h.mid t job h.answer (keeps s h.mid o first) sound h.settles))

  turn_parts : (s t : CoreState) → Holds s → IsSound t → RunsTurn s t → Parts s t
  turn_parts s t o sound h =
      let first = take_parts lane_laws laws calls s h.mid h.answer o h.sound h.takes in
      after_parts s h.mid t first (round_parts h.mid t (h.takes.turn).job (keeps s h.mid o first) sound h.rounds)

  pub rounds_parts : (s t : CoreState) → Holds s → RunsRounds s t → Parts s t
  rounds_parts s _ o (RunsRounds.none _) = none s
  rounds_parts s t o (RunsRounds.turn _ m _ h sound rest) =
      let first = turn_parts s m o sound h in
      after_parts s m t first (rounds_parts m t (keeps s m o first) rest)
  rounds_parts s t o (RunsRounds.out _ m _ h sound rest) =
      let first = round_parts s m (h.turn).job o sound h.rounds in
      after_parts s m t first (rounds_parts m t (keeps s m o first) rest)
  rounds_parts s t o (RunsRounds.on _ m _ h sound rest) =
      let first = one_part s m (now_part lane_laws laws calls s m sound h.after) in
      after_parts s m t first (rounds_parts m t (keeps s m o first) rest)

  from_parts : (place : ℕ) (s t : CoreState) → Holds s → DeliversFrom place s t → Parts s t
  from_parts place s _ o (DeliversFrom.all _ _ h) = none s
  from_parts place s t o (DeliversFrom.again _ _ _ h rest) = from_parts (suc place) s t o rest
  from_parts place s t o (DeliversFrom.one _ _ m _ answer e h sound rest) =
      let first = one_part s m (deliver_part lane_laws laws calls s m place answer o sound h) in
      after_parts s m t first (from_parts (suc place) m t (keeps s m o first) rest)

  some_parts : (place : ℕ) (s t : CoreState) → Holds s → DeliversSome place s t → Parts s t
  some_parts place s _ o (DeliversSome.ends _ _) = none s
  some_parts place s t o (DeliversSome.again _ _ _ h rest) = some_parts (suc place) s t o rest
  some_parts place s t o (DeliversSome.one _ _ m _ answer e h sound rest) =
      let first = one_part s m (deliver_part lane_laws laws calls s m place answer o sound h) in
      after_parts s m t first (some_parts (suc place) m t (keeps s m o first) rest)

  pub finish_parts : (s t : CoreState) → Holds s → Finishes s t → Parts s t
  finish_parts s t o h =
      let first = rounds_parts s h.mid o h.rounds in
      after_parts s h.mid t first (from_parts 0 h.mid t (keeps s h.mid o first) h.delivers)

  pub event_parts : (s t : CoreState) (e : Event) (answers : List Told) → Holds s → IsSound s → IsSound t → Does s e answers t → Parts s t
  event_parts s t event.Finish answers o before sound h = finish_parts s t o h.0
  event_parts s t (event.Trigger policy) answers o before sound h = one_parts lane_laws laws calls s t (event.Trigger policy) answers o before sound h
  event_parts s t event.Due answers o before sound h = one_parts lane_laws laws calls s t event.Due answers o before sound h
  event_parts s t event.Take answers o before sound h = one_parts lane_laws laws calls s t event.Take answers o before sound h
  event_parts s t (event.Step job) answers o before sound h = one_parts lane_laws laws calls s t (event.Step job) answers o before sound h
  event_parts s t (event.Settle job) answers o before sound h = one_parts lane_laws laws calls s t (event.Settle job) answers o before sound h
  event_parts s t (event.Stop job) answers o before sound h = one_parts lane_laws laws calls s t (event.Stop job) answers o before sound h
  event_parts s t (event.Deliver n) answers o before sound h = one_parts lane_laws laws calls s t (event.Deliver n) answers o before sound h
  event_parts s t (event.Forge hook) answers o before sound h = one_parts lane_laws laws calls s t (event.Forge hook) answers o before sound h
  event_parts s t (event.Wait n) answers o before sound h = one_parts lane_laws laws calls s t (event.Wait n) answers o before sound h
  event_parts s t (event.Sweep n) answers o before sound h = one_parts lane_laws laws calls s t (event.Sweep n) answers o before sound h
  event_parts s t (event.Tags reg) answers o before sound h = one_parts lane_laws laws calls s t (event.Tags reg) answers o before sound h
  event_parts s t (event.Row job) answers o before sound h = one_parts lane_laws laws calls s t (event.Row job) answers o before sound h
  event_parts s t (event.Exec exec) answers o before sound h = one_parts lane_laws laws calls s t (event.Exec exec) answers o before sound h
  event_parts s t (event.Word job rev) answers o before sound h = one_parts lane_laws laws calls s t (event.Word job rev) answers o before sound h
  event_parts s t (event.CauseOf job) answers o before sound h = one_parts lane_laws laws calls s t (event.CauseOf job) answers o before sound h

  -- ---- what memory cut short

  take_cut : (s t : CoreState) → IsSound t → TakeCut s t → Parts s t
  take_cut s t sound (turn, h) = one_part s t (out_part lane_laws laws calls s t (taken.Turn turn) sound h)

  pub cut_parts : (s t : CoreState) (e : Event) → Holds s → IsSound s → IsSound t → Cut s e t → Parts s t
  cut_parts s _ e o before sound (Cut.before _ _) = none s
  cut_parts s t e o before sound (Cut.behind _ _ _ answers h) = one_parts lane_laws laws calls s t e answers o before sound h
  cut_parts s t _ o before sound (Cut.reserved _ _ policy h) = one_part s t (reserve_part lane_laws laws calls s t sound h)
  cut_parts s t _ o before sound (Cut.taken_out _ _ h) = take_cut s t sound h
  cut_parts s t _ o before sound (Cut.finished _ _ h) = finish_parts s t o h
  cut_parts s t _ o before sound (Cut.rounded _ _ rounds) = rounds_parts s t o rounds
  cut_parts s t _ o before sound (Cut.taking _ m _ rounds mid h) =
      after_parts s m t (rounds_parts s m o rounds) (take_cut m t sound h)
  cut_parts s t _ o before sound (Cut.turning _ m u _ answer takes rounds mid after h) =
      let first = rounds_parts s m o rounds in
      let second = take_parts lane_laws laws calls m u answer (keeps s m o first) after takes in
      after_parts s m t first (after_parts m u t second (steps_some (takes.turn).job u t h))
  cut_parts s t _ o before sound (Cut.stepping _ m _ turn least rounds mid h) =
      after_parts s m t (rounds_parts s m o rounds) (steps_some turn.job m t h)
  cut_parts s t _ o before sound (Cut.delivering _ m _ rounds mid idle h) =
      let first = rounds_parts s m o rounds in
      after_parts s m t first (some_parts 0 m t (keeps s m o first) h)

  -- ---- events one after the other

  pub runs_parts : (s t : CoreState) (events : List Event) (said : List Told) → Holds s → IsSound s → Runs s events said t → Parts s t
  runs_parts s _ _ _ o before (Runs.ended _) = none s
  runs_parts s t _ _ o before (Runs.then _ m _ e events answers more h sound rest) =
      let first = event_parts s m e answers o before sound h in
      after_parts s m t first (runs_parts m t events more (keeps s m o first) sound rest)
  runs_parts s t _ _ o before (Runs.cut _ m _ e events more h sound rest) =
      let first = cut_parts s m e o before sound h in
      after_parts s m t first (runs_parts m t events more (keeps s m o first) sound rest)

-- ---- nothing is left to do

mark_here : (marks : List Bool) (place : ℕ) → unwrap_or (slice_get (with_mark marks place) place) false ≡ true
mark_here [] zero = refl
mark_here [] (suc place) = mark_here [] place
mark_here (mark ∷ marks) zero = refl
mark_here (mark ∷ marks) (suc place) = mark_here marks place

mark_stays : (marks : List Bool) (place at : ℕ) → unwrap_or (slice_get marks at) false ≡ true
    → unwrap_or (slice_get (with_mark marks place) at) false ≡ true
mark_stays [] place zero e = absurd (cc)
mark_stays [] place (suc at) e = absurd (cc)
mark_stays (mark ∷ marks) zero zero e = refl
mark_stays (mark ∷ marks) zero (suc at) e = e
mark_stays (mark ∷ marks) (suc place) zero e = e
mark_stays (mark ∷ marks) (suc place) (suc at) e = mark_stays marks place at e

pub delivered_stays : (marks : List Bool) (place k : ℕ) → was_delivered marks k ≡ true → was_delivered (with_mark marks place) k ≡ true
delivered_stays marks place zero e = e
delivered_stays marks place (suc at) e = mark_stays marks place at e

-- what deliveries from a place on leave
record Delivered (place : ℕ) (s t : CoreState) : Type 0 where
  turns : t.turns ≡ s.turns
  hooks : t.hooks ≡ s.hooks
  from : (at : ℕ) → place ≤ at → at < length s.hooks → was_delivered t.delivered (suc at) ≡ true
  stay : (k : ℕ) → was_delivered s.delivered k ≡ true → was_delivered t.delivered k ≡ true

at_place : (marks : List Bool) (place at : ℕ) → was_delivered marks (suc place) ≡ true → at ≡ place → was_delivered marks (suc at) ≡ true
at_place marks place at e q = subst (λ (k : ℕ). was_delivered marks (suc k) ≡ true) (sym q) e

delivered_from : (place : ℕ) (s t : CoreState) → DeliversFrom place s t → Delivered place s t
delivered_from place s _ (DeliversFrom.all _ _ h) =
    record { turns = refl; hooks = refl; from = λ at a b. absurd (omega (arith, a, b, h)); stay = λ k e. e }
delivered_from place s t (DeliversFrom.again _ _ _ e rest) =
    let r = delivered_from (suc place) s t rest in
    record {
      turns = r.turns;
      hooks = r.hooks;
      stay = r.stay;
      from = λ at a b. elim (cases_lt place at) [
        | inl more ↦ r.from at (omega (arith, more)) b
        | inr same ↦ at_place t.delivered place at (r.stay (suc place) e) (omega (arith, a, same))
      ];
    }
delivered_from place s t (DeliversFrom.one _ _ m _ answer e h sound rest) =
    let r = delivered_from (suc place) m t rest in
    let hooks : m.hooks ≡ s.hooks = ap (λ (x : CoreState). x.hooks) h.after in
    let l = ap (λ (hs : List Hook). length hs) hooks in
    let W : List Bool → ℕ → Type 0 = λ ms k. was_delivered ms k ≡ true in
    let here = subst (λ (ms : List Bool). W ms (suc place)) (sym h.marks) (mark_here s.delivered place) in
    record {
      turns = r.turns ∙ ap (λ (x : CoreState). x.turns) h.after;
      hooks = r.hooks ∙ hooks;
      stay = λ k q. r.stay k (subst (λ (ms : List Bool). W ms k) (sym h.marks) (delivered_stays s.delivered place k q));
      from = λ at a b. elim (cases_lt place at) [
        | inl more ↦ r.from at (omega (arith, more)) (omega (arith, b, l))
        | inr same ↦ at_place t.delivered place at (r.stay (suc place) here) (omega (arith, a, same))
      ];
    }

all_delivered : (hooks : List Hook) (marks : List Bool) → ((at : ℕ) → at < length hooks → was_delivered marks (suc at) ≡ true)
    → (number : ℕ) (hook : Hook) → hook_at hooks number ≡ Some hook → was_delivered marks number ≡ true
all_delivered hooks marks has zero hook e = absurd (cc)
all_delivered hooks marks has (suc at) hook e = has at (get_within hooks at hook e)

pub finish_finishes : (s t : CoreState) → Finishes s t → IsFinished t
finish_finishes s t h =
    let d = delivered_from 0 h.mid t h.delivers in
    let rests = h.idle.takes in
    let l = ap (λ (hs : List Hook). length hs) d.hooks in
    record {
      waiting = ap (λ (q : queue.View). q.waiting) d.turns ∙ rests.2;
      delayed = ap (λ (q : queue.View). q.delayed) d.turns ∙ rests.3.0;
      out = ap (λ (q : queue.View). q.out) d.turns ∙ rests.3.1;
      delivered = all_delivered t.hooks t.delivered (λ at less. d.from at (omega arith) (omega (arith, less, l)));
    }
