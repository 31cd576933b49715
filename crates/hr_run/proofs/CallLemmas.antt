-- What single calls of the lanes, the queue, the board and the store ask is there in a core that is
-- ready.
use Rattle.std.proofs.Common.{◌≡◌, refl, sym, ap, subst, ◌∙◌, zero, suc, ℕ, ◌+◌, ◌≤◌, true, cond, ◌&&◌, List, [], ◌∷◌, ◌++◌, length, slice_get, inl, inr, arith}
use Rattle.std.proofs.lemmas.Bool.{cases_lt}
use Rattle.std.proofs.lemmas.Bool.Decides.{nat_tests}
use Rattle.std.proofs.lemmas.List.Sorted.{Contains-permutation, IsPermutation-sym}
use Rattle.std.proofs.lemmas.List.Sums.{sum_by-cons}
use Rattle.std.specs.List.{AllByRecursion, Contains}
use Rattle.std.specs.Prelude.{Option, Some, None, IfSome, IsSome, nat_eq, nat_le, nat_lt}
use Rattle.hr_base.specs.declared.status.Hook.{Hook}
use Rattle.hr_event.specs.declared.task.TaskSpec.{TaskSpec}
use Rattle.hr_event.specs.declared.task.Turn.{Turn}
use Rattle.hr_board.specs.Plain.{Plain, view_of}
use Rattle.hr_line.specs.State.{State, held_at, link_at}
use Rattle.hr_line.specs.declared.held.Held.{Held}
use Rattle.hr_queue.specs.Adding.{IsFit}
use Rattle.hr_queue.specs.Taking.{Takes}
use Rattle.hr_queue.specs.View as queue
use Rattle.hr_queue.specs.View.{job_of, times_added, times_delayed, times_in, turn_of}
use Rattle.hr_queue.specs.Whole.{IsAdded, IsTurn}
use Rattle.hr_queue.specs.declared.answer.Queued.{Queued}
use Rattle.hr_queue.specs.declared.answer.Taken.TheVariants as taken
use Rattle.hr_queue.specs.declared.delayed.Delayed.{Delayed}
use Rattle.hr_store.specs.Creating.{has_room}
use Rattle.hr_store.specs.Row.{RowState}
use Rattle.hr_store.specs.Store.{row_of_job}
use Rattle.hr_run.specs.Holds.{HasAttempts, Holds, HoldsOut, IsEmitted, IsServing, IsTurnOut}
use Rattle.hr_run.specs.Ready.{CanAdd, CanAdmit, CanRun, IsOnBoard, IsReady, IsTurnOnBoard}
use Rattle.hr_run.specs.State.{CoreState, hook_at, lane_of, queued_from, spec_of}
use Rattle.hr_run.specs.Turning.{GoesOut}
use Rattle.hr_run.specs.Weight.{one_if}
use Rattle.hr_run.proofs.DoneLemmas.{queued_made}
use Rattle.hr_run.proofs.ListLemmas.{all_at, all_member, each_within, get_within, there_at, there_first}
use Rattle.hr_run.proofs.MarkLemmas.{attempts_each, hook_all, spec_within}
use Rattle.hr_run.proofs.RowLemmas.{queued_more}

-- ---- jobs on the board

made_on_board : (s : CoreState) → IsReady s → (job : ℕ) → 1 ≤ job → job ≤ length s.made → IsOnBoard s job
made_on_board s ready job some few =
    let n = ready.holds.numbered in
    let w = ready.within in
    let f = ready.holds.fits in
    record { first = some; within = omega (arith, few, n, w, f) }

spec_on_board : (s : CoreState) → IsReady s → (job : ℕ) (spec : TaskSpec) → spec_of s.made job ≡ Some spec → IsOnBoard s job
spec_on_board s ready job spec is = let w = spec_within s.made job spec is in made_on_board s ready job w.0 w.1

added_on_board : (s : CoreState) → IsReady s → (turn : Turn) → IsAdded s.turns.added turn → IsOnBoard s turn.job.0
added_on_board s ready turn added =
    let one : Queued = record { job = turn.job; attempts = turn.attempts } in
    let was = queued_made 0 s.made one (subst (λ (qs : List Queued). Contains qs one) ready.holds.added added) in
    let n = was.number in
    let l = get_within s.made was.place was.spec was.there in
    made_on_board s ready turn.job.0 (omega (arith, n)) (omega (arith, n, l))

turn_on_board : (s : CoreState) → IsReady s → (turn : Turn) → IsTurn turn → IsAdded s.turns.added turn → IsTurnOnBoard s turn
turn_on_board s ready turn is added =
    let r = is.rev in let a = is.attempts in
    record { job = added_on_board s ready turn added; rev = omega (arith, r, a) }

-- a turn that is out
pub out_on_board : (s : CoreState) (turn : Turn) → IsReady s → Contains s.turns.out turn → IsTurnOnBoard s turn
out_on_board s turn ready there =
    let whole = ready.holds.whole in
    turn_on_board s ready turn (all_member IsTurn s.turns.out turn whole.turns.outs there)
    (all_member (IsAdded s.turns.added) s.turns.out turn whole.known.outs there)

-- a job that a lane holds
pub held_on_board : (s : CoreState) (lane : State) (h : Held) (job : ℕ) → IsReady s → Contains s.lanes lane → held_at lane.held job ≡ Some h
    → IsOnBoard s job
held_on_board s lane h job ready there held =
    let has = all_member (HoldsOut s.turns.out) s.lanes lane ready.holds.held there job in
    let out : IsTurnOut s.turns.out job h.by.rev = subst (λ (o : Option Held). IfSome o (λ x. IsTurnOut s.turns.out job x.by.rev)) held has in
    let on = out_on_board s out.turn ready out.there in
    subst (IsOnBoard s) out.of_job on.job

-- a job whose row is kept
pub row_on_board : (s : CoreState) (job : ℕ) (row : RowState) → IsReady s → row_of_job job s.store.kept ≡ Some row
    → IsOnBoard s job × HasAttempts row.spec
row_on_board s job row ready is =
    let copies = ready.holds.rows job row is in
    (spec_on_board s ready job row.spec copies, attempts_each s.made job row.spec ready.holds.few copies)

-- a hook that was emitted
pub hook_on_board : (s : CoreState) (number : ℕ) (hook : Hook) → IsReady s → hook_at s.hooks number ≡ Some hook
    → (IsOnBoard s hook.job.0) × (hook.rev ≤ 3)
hook_on_board s number hook ready is =
    let e = hook_all (IsEmitted s.made s.board.past.notes) s.hooks number hook ready.holds.emitted is in
    let w = e.revision.within in
    let f = e.revision.few in
    (spec_on_board s ready hook.job.0 e.revision.spec e.revision.copies, omega (arith, w, f))

-- ---- a turn that goes out

same_job : (n : ℕ) → 1 ≤ cond (nat_eq n n) 1 0
same_job n = grind (arith, nat_tests)

-- where a turn was before it went out: it is an added job's, and no other turn of the job is out
record WasIn (q : queue.View) (turn : Turn) : Type 0 where
  is : IsTurn turn
  added : IsAdded q.added turn
  there : 1 ≤ times_in q.waiting turn.job.0 + times_delayed q.delayed turn.job.0

was_in : (s : CoreState) → Holds s → (now : ℕ) (turn : Turn) (r : queue.View) → Takes now s.turns (taken.Turn turn) r → WasIn s.turns turn
was_in s o now turn r (inl h) =
    let due = h.due.due in
    let first : Contains (due ∷ r.delayed) due = there_first due r.delayed in
    let there = Contains-permutation (due ∷ r.delayed) s.turns.delayed due (IsPermutation-sym s.turns.delayed (due ∷ r.delayed) h.due.rest) first in
    let is = all_member (λ (d : Delayed). IsTurn (turn_of d)) s.turns.delayed due o.whole.turns.delays there in
    let added = all_member (λ (d : Delayed). IsAdded s.turns.added (turn_of d)) s.turns.delayed due o.whole.known.delays there in
    let w = each_within (λ (d : Delayed). cond (nat_eq (job_of d) (job_of due)) 1 0) s.turns.delayed due there in
    let one = same_job (job_of due) in
    let many : 1 ≤ times_delayed s.turns.delayed (job_of due) = omega (arith, w, one) in
    let T : Turn → Type 0 = λ t. 1 ≤ times_delayed s.turns.delayed t.job.0 in
    let delayed = subst T (sym h.due.is) many in
    record {
      is = subst IsTurn (sym h.due.is) is;
      added = subst (IsAdded s.turns.added) (sym h.due.is) added;
      there = omega (arith, delayed);
    }
was_in s o now turn r (inr h) =
    let there : Contains s.turns.waiting turn = subst (λ (ts : List Turn). Contains ts turn) (sym h.first) (there_first turn r.waiting) in
    let w = each_within (λ (t : Turn). cond (nat_eq t.job.0 turn.job.0) 1 0) s.turns.waiting turn there in
    let one = same_job turn.job.0 in
    record {
      is = all_member IsTurn s.turns.waiting turn o.whole.turns.waits there;
      added = all_member (IsAdded s.turns.added) s.turns.waiting turn o.whole.known.waits there;
      there = omega (arith, w, one);
    }

-- no turn of its job was out
none_out : (s : CoreState) → Holds s → (turn : Turn) → WasIn s.turns turn → times_in s.turns.out turn.job.0 ≡ 0
none_out s o turn was =
    let once = o.whole.once turn.job.0 in
    let distinct = o.whole.distinct turn.job.0 in
    let w = was.there in
    omega (arith, once, distinct, w)

is_held : (s : CoreState) → Holds s → (lane : State) → Contains s.lanes lane → (job : ℕ) → times_in s.turns.out job ≡ 0
    → held_at lane.held job ≡ None
is_held s o lane there job none = by (held_at lane.held job) refl (all_member (HoldsOut s.turns.out) s.lanes lane o.held there job)
  where
    by : (found : Option Held) → held_at lane.held job ≡ found → IfSome found (λ h. IsTurnOut s.turns.out job h.by.rev)
        → held_at lane.held job ≡ None
    by None is out = is
    by (Some h) is out = absurd (
        let w = each_within (λ (t : Turn). cond (nat_eq t.job.0 job) 1 0) s.turns.out out.turn out.there in
        let one = subst (λ (n : ℕ). 1 ≤ cond (nat_eq n job) 1 0) (sym out.of_job) (same_job job) in
        omega (arith, w, one, none))

pub gone_on_board : (s mid : CoreState) (turn : Turn) → IsReady s → GoesOut s (taken.Turn turn) mid → IsTurnOnBoard mid turn
gone_on_board s mid turn ready h =
    let was = was_in s ready.holds s.now turn mid.turns h.takes in
    let on = turn_on_board s ready turn was.is was.added in
    let board : mid.board ≡ s.board = ap (λ (x : CoreState). x.board) h.after in
    record {
      job = record {
        first = on.job.first;
        within = subst (λ (b : Plain). turn.job.0 ≤ (view_of b).jobs) (sym board) on.job.within;
      };
      rev = on.rev;
    }

can_admit_at : (s : CoreState) (q : queue.View) (turn : Turn) (row : RowState) (lane : State) → IsReady s → Takes s.now s.turns (taken.Turn turn) q
    → row_of_job turn.job.0 s.store.kept ≡ Some row → slice_get s.lanes (lane_of s.lanes row.spec) ≡ Some lane
    → CanAdmit (record s { turns = q }) lane turn row.spec
can_admit_at s q turn row lane ready takes is there =
    let was = was_in s ready.holds s.now turn q takes in
    let can = can_run s.made turn.job.0 row.spec ready.made (ready.holds.rows turn.job.0 row is) in
    let both : Some can.lane ≡ Some lane = sym can.there ∙ there in
    let same : can.lane ≡ lane = cc in
    let within = there_at s.lanes (lane_of s.lanes row.spec) lane there in
    record {
      source = subst (λ (l : State). IsSome (link_at l.sources row.spec.src)) same can.source;
      dest = subst (λ (l : State). IsSome (link_at l.dests row.spec.dst)) same can.dest;
      free = is_held s ready.holds lane within turn.job.0 (none_out s ready.holds turn was);
      noted = (all_member (IsServing s.made (view_of s.board)) s.lanes lane ready.holds.lanes within).noted;
    }
  where
    can_run : (made : List TaskSpec) (job : ℕ) (spec : TaskSpec) → AllByRecursion (CanRun s.lanes) made → spec_of made job ≡ Some spec
        → CanRun s.lanes spec
    can_run made zero spec all is = absurd (cc)
    can_run made (suc at) spec all is = all_at (CanRun s.lanes) made at spec all is

pub can_admit : (s mid : CoreState) (turn : Turn) (row : RowState) (lane : State) → IsReady s → GoesOut s (taken.Turn turn) mid
    → row_of_job turn.job.0 mid.store.kept ≡ Some row → slice_get mid.lanes (lane_of mid.lanes row.spec) ≡ Some lane
    → CanAdmit mid lane turn row.spec
can_admit s mid turn row lane ready h is there =
    let store = ap (λ (x : CoreState). x.store.kept) h.after in
    let lanes = ap (λ (x : CoreState). x.lanes) h.after in
    subst (λ (x : CoreState). CanAdmit x lane turn row.spec) (sym h.after)
    (can_admit_at s mid.turns turn row lane ready h.takes (sym (ap (row_of_job turn.job.0) store) ∙ is)
    (sym (ap (λ (ls : List State). slice_get ls (lane_of ls row.spec)) lanes) ∙ there))

-- ---- new jobs

fits_from : (jobs n : ℕ) (specs : List TaskSpec) → n + length specs ≤ jobs → AllByRecursion HasAttempts specs
    → AllByRecursion (IsFit jobs) (queued_from n specs)
fits_from jobs n [] less few = tt
fits_from jobs n (spec ∷ specs) less few =
    ((omega arith, omega (arith, less), few.0.0, few.0.1), fits_from jobs (suc n) specs (omega (arith, less)) few.1)

room_fits : (sum limit made : ℕ) → (nat_le sum limit && nat_lt made 4294967295) ≡ true → sum ≤ limit
room_fits sum limit made e = grind (arith, nat_tests)

-- how often a job stands among jobs that are numbered on from a number
record Times (n job : ℕ) (specs : List TaskSpec) : Type 0 where
  once : times_added (queued_from n specs) job ≤ 1
  none : job ≤ n → times_added (queued_from n specs) job ≡ 0

apart : (m job : ℕ) → (m ≡ job → ⊥) → one_if (nat_eq m job) ≡ 0
apart m job other = grind (arith, nat_tests)

one_or_none : (m job : ℕ) → cond (nat_eq m job) 1 0 ≤ 1
one_or_none m job = grind (arith, nat_tests)

times_from : (n job : ℕ) (specs : List TaskSpec) → Times n job specs
times_from n job [] = record { once = omega arith; none = λ less. refl }
times_from n job (spec ∷ specs) =
    let first : Queued = record { job = record { 0 = suc n }; attempts = spec.attempts } in
    let c = sum_by-cons (λ (a : Queued). cond (nat_eq a.job.0 job) 1 0) first (queued_from (suc n) specs) in
    let later = times_from (suc n) job specs in
    let o = one_or_none (suc n) job in
    let z = later.none in
    let l = later.once in
    record {
      once = elim (cases_lt (suc n) job) [
        | inl more ↦ (let w = apart (suc n) job (λ e. omega (arith, e, more)) in omega (arith, c, w, l))
        | inr less ↦ (let y = z (omega (arith, less)) in let w = o in omega (arith, c, w, y))
      ];
      none = λ less. (let y = z (omega (arith, less)) in let w = apart (suc n) job (λ e. omega (arith, e, less)) in omega (arith, c, w, y));
    }

pub can_add : (s : CoreState) (specs : List TaskSpec) → IsReady s → s.plan ≡ Some specs → has_room s.store (length specs) ≡ true → CanAdd s specs
can_add s specs ready planned room =
    let o = ready.holds in
    let few : AllByRecursion HasAttempts specs = subst (λ (p : Option (List TaskSpec)). IfSome p (AllByRecursion HasAttempts)) planned o.planned in
    let r = room_fits (s.store.jobs + length specs) s.store.limit s.store.made room in
    let n = o.numbered in
    let f = o.fits in
    let all : s.turns.added ++ queued_from (length s.made) specs ≡ queued_from 0 (s.made ++ specs) =
    ap (λ (qs : List Queued). qs ++ queued_from (length s.made) specs) o.added ∙ sym (queued_more 0 (length s.made) s.made specs (omega arith)) in
    record {
      fit = fits_from (view_of s.board).jobs (length s.made) specs (omega (arith, r, n, f)) few;
      new = λ job. subst (λ (qs : List Queued). times_added qs job ≤ 1) (sym all) (times_from 0 job (s.made ++ specs)).once;
    }
