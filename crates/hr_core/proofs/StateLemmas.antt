-- Jobs, turns and lanes of a core that is ready for its calls.
use Rattle.std.proofs.Common.{◌≡◌, inl, inr, refl, sym, ap, subst, ◌∙◌, zero, suc, ℕ, ◌+◌, ◌<◌, ◌≤◌, Bool, cond, List, [], ◌∷◌, length, eq-eqb, arith}
use Rattle.std.proofs.lemmas.List.Sums.{sum_by-insert, sum_by-cons}
use Rattle.std.specs.List.{AllByRecursion, Contains, insert, sum_by}
use Rattle.std.specs.Prelude.{Option, Some, None, IfSome, IsSome, nat_eq, slice_get}
use Rattle.hr_base.specs.declared.number.JobNo.{JobNo}
use Rattle.hr_event.specs.declared.task.TaskSpec.{TaskSpec}
use Rattle.hr_event.specs.declared.task.Turn.{Turn}
use Rattle.hr_board.specs.Plain.{view_of}
use Rattle.hr_line.specs.State.{State, held_at, link_at}
use Rattle.hr_line.specs.declared.held.Held.{Held}
use Rattle.hr_queue.specs.declared.answer.Queued.{Queued}
use Rattle.hr_queue.specs.declared.answer.Taken.{Taken}
use Rattle.hr_queue.specs.declared.answer.Taken.TheVariants as taken
use Rattle.hr_queue.specs.ByJob.{rank, with_turn}
use Rattle.hr_queue.specs.Taking.{Takes}
use Rattle.hr_queue.specs.View as queue
use Rattle.hr_queue.specs.View.{times_added, times_delayed, times_done, times_in}
use Rattle.hr_queue.specs.Whole.{IsAdded, IsTurn, IsWhole}
use Rattle.hr_run.specs.Holds.{HoldsOut, IsServing, IsTurnOut}
use Rattle.hr_run.specs.Ready.{CanRun, IsReady, IsTurnOnBoard}
use Rattle.hr_run.specs.Run.{Cut}
use Rattle.hr_run.specs.Run.Cut.{taken_out}
use Rattle.hr_event.specs.declared.event.Event.{Event}
use Rattle.hr_event.specs.declared.event.Event.TheVariants as event
use Rattle.hr_run.specs.Sound.{IsSound}
use Rattle.hr_run.specs.State.{CoreState, queued_from, spec_of}
use Rattle.hr_run.specs.Turning.{GoesOut, NoneHolds}
use Rattle.hr_core.specs.Lanes.{CanTake, HoldsAt, IsAdmissible}
use Rattle.hr_core.specs.Row.{HasSpec}

-- ---- lists

module _ {X : Type 0} (P : X → Type 0) where
  pub all_at : (xs : List X) (i : ℕ) (x : X) → AllByRecursion P xs → slice_get xs i ≡ Some x → P x
  all_at [] zero x a e = absurd (cc)
  all_at [] (suc i) x a e = absurd (cc)
  all_at (y ∷ ys) zero x a e = let s : y ≡ x = cc in subst P s a.0
  all_at (y ∷ ys) (suc i) x a e = all_at ys i x a.1 e

  pub all_member : (xs : List X) (x : X) → AllByRecursion P xs → Contains xs x → P x
  all_member [] x a c = absurd (omega (arith, c.1))
  all_member (y ∷ ys) x a (zero, l, e) = subst P e a.0
  all_member (y ∷ ys) x a (suc k, l, e) = all_member ys x a.1 (k, omega (arith, l), e)

  pub all_then : (Q : X → Type 0) → ((x : X) → P x → Q x) → (xs : List X) → AllByRecursion P xs → AllByRecursion Q xs
  all_then Q h [] a = tt
  all_then Q h (x ∷ xs) a = (h x a.0, all_then Q h xs a.1)

pub get_within : {X : Type 0} (xs : List X) (i : ℕ) (x : X) → slice_get xs i ≡ Some x → i < length xs
get_within [] zero x e = absurd (cc)
get_within [] (suc i) x e = absurd (cc)
get_within (y ∷ xs) zero x e = omega arith
get_within (y ∷ xs) (suc i) x e = let g = get_within xs i x e in omega (arith, g)

-- ---- jobs

spec_within : (made : List TaskSpec) (job : ℕ) (spec : TaskSpec) → spec_of made job ≡ Some spec → (1 ≤ job) × (job ≤ length made)
spec_within made zero spec e = absurd (cc)
spec_within made (suc at) spec e = (omega arith, (let w = get_within made at spec e in omega (arith, w)))

pub jobs_fit : (s : CoreState) → IsReady s → length s.made ≤ (view_of s.board).jobs
jobs_fit s ready =
    let n = ready.holds.numbered in
    let w = ready.within in
    let f = ready.holds.fits in
    omega (arith, n, w, f)

queued_within : (n : ℕ) (made : List TaskSpec) (a : Queued) → Contains (queued_from n made) a
    → (suc n ≤ a.job.0) × (a.job.0 ≤ n + length made)
queued_within n [] a c = absurd (omega (arith, c.1))
queued_within n (x ∷ made) a (zero, l, e) =
    let j : suc n ≡ a.job.0 = ap (λ (q : Queued). q.job.0) e in (omega (arith, j), omega (arith, j))
queued_within n (x ∷ made) a (suc k, l, e) =
    let w = queued_within (suc n) made a (k, omega (arith, l), e) in
    let low = w.0 in
    let high = w.1 in
    (omega (arith, low), omega (arith, high))

-- a turn that is out is of a revision on the board
pub out_on_board : (s : CoreState) (turn : Turn) → IsReady s → Contains s.turns.out turn → IsTurnOnBoard s turn
out_on_board s turn ready out =
    let is : IsTurn turn = all_member IsTurn s.turns.out turn ready.holds.whole.turns.outs out in
    let known : IsAdded s.turns.added turn = all_member (IsAdded s.turns.added) s.turns.out turn ready.holds.whole.known.outs out in
    let job : Queued = record { job = turn.job; attempts = turn.attempts } in
    let w = queued_within 0 s.made job (subst (λ (qs : List Queued). Contains qs job) ready.holds.added known) in
    let low = w.0 in
    let high = w.1 in
    let fit = jobs_fit s ready in
    let rev = is.rev in
    let few = is.attempts in
    record { job = record { first = omega (arith, low); within = omega (arith, high, fit) }; rev = omega (arith, rev, few) }

-- what a lane holds is on the board
pub held_on_board : (s : CoreState) (job : JobNo) (at : ℕ) → IsReady s → HoldsAt s.lanes job at → job.0 ≤ (view_of s.board).jobs
held_on_board s job at ready holds =
    let out : HoldsOut s.turns.out holds.lane = all_at (HoldsOut s.turns.out) s.lanes at holds.lane ready.holds.held holds.there in
    by (held_at holds.lane.held job.0) (out job.0) holds.holds
  where
    by : (o : Option Held) → IfSome o (λ h. IsTurnOut s.turns.out job.0 h.by.rev) → IsSome o → job.0 ≤ (view_of s.board).jobs
    by None out some = absurd (cc)
    by (Some h) out some =
        let w = (out_on_board s out.turn ready out.there).job.within in
        let j = out.of_job in
        omega (arith, w, j)

-- ---- a turn goes out

abbrev weight : ℕ → Turn → ℕ
weight job t = cond (nat_eq t.job.0 job) 1 0

weight_one : (t : Turn) (job : ℕ) → t.job.0 ≡ job → weight job t ≡ 1
weight_one t job e = ap (λ (b : Bool). cond b 1 0) (eq-eqb t.job.0 job e)

taken_out_is : (now : ℕ) (q r : queue.View) (turn : Turn) → Takes now q (taken.Turn turn) r → r.out ≡ with_turn q.out turn
taken_out_is now q r turn (inl h) = ap (λ (v : queue.View). v.out) h.after
taken_out_is now q r turn (inr h) = ap (λ (v : queue.View). v.out) h.after

counted : (ts : List Turn) (t : Turn) (job : ℕ) → Contains ts t → t.job.0 ≡ job → 1 ≤ sum_by (weight job) ts
counted [] t job c e = absurd (omega (arith, c.1))
counted (u ∷ us) t job (zero, l, same) e =
    let one = weight_one u job (ap (λ (x : Turn). x.job.0) same ∙ e) in
    let more = sum_by-cons (weight job) u us in
    omega (arith, one, more)
counted (u ∷ us) t job (suc k, l, same) e =
    let rest = counted us t job (k, omega (arith, l), same) e in
    let more = sum_by-cons (weight job) u us in
    omega (arith, rest, more)

-- a turn that goes out was not out
not_out : (q r : queue.View) (turn t : Turn) → IsWhole r → r.out ≡ with_turn q.out turn → Contains q.out t → t.job.0 ≡ turn.job.0 → ⊥
not_out q r turn t whole is there same =
    let job = turn.job.0 in
    let out : times_in r.out job ≡ sum_by (weight job) (insert q.out (rank job q.out) turn) = ap (λ (ts : List Turn). times_in ts job) is in
    let one = weight_one turn job refl in
    let more = sum_by-insert (weight job) q.out (rank job q.out) turn in
    let was = counted q.out t job there same in
    let once = whole.once job in
    let few = whole.distinct job in
    omega (arith, out, one, more, was, once, few)

pub goes_free : (s t : CoreState) (turn : Turn) → IsReady s → GoesOut s (taken.Turn turn) t → IsWhole t.turns
    → NoneHolds s.lanes turn.job
goes_free s t turn ready goes whole =
    all_then (HoldsOut s.turns.out) (λ lane. held_at lane.held turn.job.0 ≡ None)
    (λ lane out. by (held_at lane.held turn.job.0) (out turn.job.0)) s.lanes ready.holds.held
  where
    by : (o : Option Held) → IfSome o (λ h. IsTurnOut s.turns.out turn.job.0 h.by.rev) → o ≡ None
    by None out = refl
    by (Some h) out =
        absurd (not_out s.turns t.turns turn out.turn whole (taken_out_is s.now s.turns t.turns turn goes.takes) out.there out.of_job)

inserted_there : {X : Type 0} (xs : List X) (i : ℕ) (x : X) → Contains (insert xs i x) x
inserted_there [] zero x = (0, omega arith, refl)
inserted_there [] (suc i) x = (0, omega arith, refl)
inserted_there (y ∷ ys) zero x = (0, omega arith, refl)
inserted_there (y ∷ ys) (suc i) x = let c = inserted_there ys i x in let l = c.1 in (suc c.0, omega (arith, l), c.2)

pub admissible : (s t : CoreState) (came : Taken) (turn : Turn)
    → ((a b : CoreState) (e : Event) → IsReady a → IsSound a → IsSound b → Cut a e b → IsReady b)
    → IsReady s → IsSound s → IsSound t → GoesOut s came t → came ≡ taken.Turn turn → IsAdmissible t turn
admissible s t came turn stays ready before after goes is =
    let out : GoesOut s (taken.Turn turn) t = subst (λ (c : Taken). GoesOut s c t) is goes in
    record {
      ready = stays s t event.Take ready before after (taken_out s t (turn, out));
      out = subst (λ (ts : List Turn). Contains ts turn) (sym (taken_out_is s.now s.turns t.turns turn out.takes))
          (inserted_there s.turns.out (rank turn.job.0 s.turns.out) turn);
      free = subst (λ (ls : List State). NoneHolds ls turn.job) (sym (ap (λ (x : CoreState). x.lanes) out.after))
          (goes_free s t turn ready out after.whole);
    }

-- ---- an admission

-- the lane of a turn may be asked
pub can_take : (s : CoreState) (turn : Turn) (spec : TaskSpec) (lane : State) → IsAdmissible s turn → HasSpec s turn.job.0 spec
    → slice_get s.lanes 0 ≡ Some lane → CanTake lane (view_of s.board) turn spec
can_take s turn spec lane can has there =
    let on = out_on_board s turn can.ready can.out in
    let made : spec_of s.made turn.job.0 ≡ Some spec =
    can.ready.holds.rows turn.job.0 has.row has.there ∙ ap Some (sym has.copies) in
    let runs : CanRun s.lanes spec = at_spec s.made turn.job.0 spec can.ready.made made in
    let same : runs.lane ≡ lane = (let e : Some runs.lane ≡ Some lane = sym runs.there ∙ there in cc) in
    let serving = all_at (IsServing s.made (view_of s.board)) s.lanes 0 lane can.ready.holds.lanes there in
    record {
      first = on.job.first;
      within = on.job.within;
      rev = on.rev;
      source = subst (λ (l : State). IsSome (link_at l.sources spec.src)) same runs.source;
      dest = subst (λ (l : State). IsSome (link_at l.dests spec.dst)) same runs.dest;
      free = all_at (λ (l : State). held_at l.held turn.job.0 ≡ None) s.lanes 0 lane can.free there;
      noted = serving.noted;
    }
  where
    at_spec : (made : List TaskSpec) (job : ℕ) (spec : TaskSpec) → AllByRecursion (CanRun s.lanes) made → spec_of made job ≡ Some spec
        → CanRun s.lanes spec
    at_spec made zero spec all e = absurd (cc)
    at_spec made (suc at) spec all e = all_at (CanRun s.lanes) made at spec all e
