-- What each event does is made of parts.
use Rattle.std.proofs.Common.{◌≡◌, inl, inr, refl, sym, ap, subst, ◌∙◌, zero, suc, ℕ, ◌+◌, ◌≤◌, Bool, true, List, [], ◌∷◌, ◌++◌, length, slice_get, arith}
use Rattle.std.proofs.lemmas.Bool.Decides.{nat_tests}
use Rattle.std.proofs.lemmas.List.{append-nil}
use Rattle.std.specs.Prelude.{Option, Some, None, IfSome, nat_le, nat_lt, ◌&&◌}
use Rattle.std.specs.List.{AllByRecursion, Contains, insert, remove}
use Rattle.hr_base.specs.declared.number.JobNo.{JobNo}
use Rattle.hr_base.specs.declared.number.PolicyNo.{PolicyNo}
use Rattle.hr_base.specs.declared.status.Hook.{Hook}
use Rattle.hr_base.specs.Status.{word_of}
use Rattle.hr_event.specs.declared.event.Event.{Event}
use Rattle.hr_event.specs.declared.event.Event.TheVariants as event
use Rattle.hr_event.specs.declared.task.TaskSpec.{TaskSpec}
use Rattle.hr_event.specs.declared.task.Turn.{Turn}
use Rattle.hr_event.specs.declared.told.Told.{Told}
use Rattle.hr_event.specs.declared.view.Trigger.TheVariants.{Manual}
use Rattle.hr_board.specs.Plain.{Plain, view_of}
use Rattle.hr_board.specs.View as board
use Rattle.hr_board.specs.View.{place_of}
use Rattle.hr_queue.specs.Adding.{Adds, IsFit}
use Rattle.hr_queue.specs.ByJob.{rank, with_turn, without_job}
use Rattle.hr_line.specs.State.{State, held_at}
use Rattle.hr_line.specs.declared.held.Held.{Held}
use Rattle.hr_queue.specs.Gains.{Gains}
use Rattle.hr_queue.specs.Settling.{Settles, SettlesHeld}
use Rattle.hr_queue.specs.Taking.{Takes}
use Rattle.hr_queue.specs.View as queue
use Rattle.hr_queue.specs.Whole.{IsAdded, IsTurn, IsWhole}
use Rattle.hr_queue.specs.declared.answer.Queued.{Queued}
use Rattle.hr_queue.specs.declared.answer.Settled.{Settled}
use Rattle.hr_queue.specs.declared.answer.Taken.{Taken}
use Rattle.hr_queue.specs.declared.answer.Taken.TheVariants as taken
use Rattle.hr_lane.specs.Admission.{by_turn}
use Rattle.hr_store.specs.Creating.{IsCreated}
use Rattle.hr_store.specs.Execution.{ExecState}
use Rattle.hr_store.specs.Laws.{RowStays}
use Rattle.hr_store.specs.Row.{RowState}
use Rattle.hr_store.specs.Store.{AreOrdered, FailsBare, StoreState, execs_failing, first_row, row_among, row_of_job}
use Rattle.hr_store.specs.Sweeping.{kept_by}
use Rattle.hr_run.specs.Does.{DeliversNumber, DoesOne}
use Rattle.hr_run.specs.Holds.{HoldsOut, IsTurnOut, HasAttempts, Holds, IsEmitted, IsTask}
use Rattle.hr_run.specs.Part.{KeepsOut, Acts, Part, Parts}
use Rattle.hr_run.specs.Part.LaneDoes.{admits, steps}
use Rattle.hr_run.specs.Part.Part.{makes, passes, receives, stops, turns, works}
use Rattle.hr_run.specs.Part.Parts.{next, none}
use Rattle.hr_run.specs.Sound.{IsSound}
use Rattle.hr_run.specs.State.{CoreState, queued_from}
use Rattle.hr_run.specs.Triggering.{Creates, FailsToPlan, Reserves, Triggers}
use Rattle.hr_run.specs.Turning.{NoneHolds, GoesOut, SettlesOut, StepsJob, TakesTurn}
use Rattle.hr_run.specs.Stopping.{FindsFinal, LooksAt, StopsJob}
use Rattle.hr_run.specs.Delivering.{Delivers, Forges, Sweeps}
use Rattle.hr_run.specs.Triggering.Triggers.{creates, fails, is_full, no_policy}
use Rattle.hr_run.proofs.DoneLemmas.{queued_made, made_spec}
use Rattle.hr_run.proofs.KeepsLemmas.{OtherLaws, keeps_parts}
use Rattle.hr_run.proofs.LaneLemmas.{LaneLaws, quiet_acts, still_acts}
use Rattle.hr_run.proofs.ListLemmas.{all_both, all_then, inserted_keeps, inserted_there, removed_keeps}
use Rattle.hr_run.proofs.MarkLemmas.{hook_all}

-- a turn that is given back goes, and no other
abbrev pub OneGoes : Type 0
OneGoes = (now : ℕ) (q r : queue.View) (b c : board.View) (turn : Turn) (came : Settled) → SettlesHeld now q b turn came r c
    → r.out ≡ without_job q.out turn.job.0

-- the laws of the queue and of the store that are used
pub record CallLaws : Type 0 where
  pub take : (now : ℕ) (q r : queue.View) (b : board.View) (answer : Taken) → Takes now q answer r → Gains q b [] r b
  pub add : (q r : queue.View) (b c : board.View) (jobs : List Queued) → AllByRecursion (IsFit b.jobs) jobs → Adds q b jobs r c
      → Gains q b jobs r c
  pub settle : (now : ℕ) (q r : queue.View) (b c : board.View) (turn : Turn) (answer : Settled) → IsWhole q
      → Settles now q b turn answer r c → Gains q b [] r c
  pub none : (q : queue.View) (b : board.View) → Gains q b [] q b
  pub goes : OneGoes
  pub sweeps : (keep job : ℕ) (execs : List ExecState) → AreOrdered 0 0 execs → AllByRecursion FailsBare execs → RowStays keep job execs

-- ---- parts one after the other

pub after_parts : (s m t : CoreState) → Parts s m → Parts m t → Parts s t
after_parts s _ t (none _) q = q
after_parts s m t (next _ n _ p ps) q = next s n t p (after_parts n m t ps q)

pub one_part : (s t : CoreState) → Part s t → Parts s t
one_part s t p = next s t t p (none t)

pub no_part : (s t : CoreState) → t ≡ s → Parts s t
no_part s t same = subst (λ (x : CoreState). Parts s x) (sym same) (none s)

-- ---- what leaves all but the board

board_only : (s t : CoreState) → Acts s.board t.board [] → t ≡ record s { board = t.board } → Part s t
board_only s t acts after = passes (record {
  acts = acts;
  jobs = ap (λ (x : CoreState). x.store.jobs) after;
  limit = ap (λ (x : CoreState). x.store.limit) after;
  rows = λ job row e. sym (ap (λ (x : CoreState). row_of_job job x.store.kept) after) ∙ e;
  after = after ∙ ap (λ (y : StoreState). record s { board = t.board; store = y }) (sym (ap (λ (x : CoreState). x.store) after))
      ∙ ap (λ (n : ℕ). record s { board = t.board; store = t.store; now = n }) (sym (ap (λ (x : CoreState). x.now) after));
})

-- the store changes, and the board stays
store_only : (s t : CoreState) → IsSound t → t.store.jobs ≡ s.store.jobs → t.store.limit ≡ s.store.limit
    → ((job : ℕ) (row : RowState) → row_of_job job t.store.kept ≡ Some row → row_of_job job s.store.kept ≡ Some row)
    → t ≡ record s { store = t.store } → Part s t
store_only s t sound jobs limit rows after =
    let b : t.board ≡ s.board = ap (λ (x : CoreState). x.board) after in
    passes (record {
      acts = still_acts s.board t.board sound.lawful (ap view_of b);
      jobs = jobs;
      limit = limit;
      rows = rows;
      after = after ∙ ap (λ (y : Plain). record s { board = y; store = t.store }) (sym b)
          ∙ ap (λ (n : ℕ). record s { board = t.board; store = t.store; now = n }) (sym (ap (λ (x : CoreState). x.now) after));
    })

-- the queue changes, and the board stays
queue_only : (s t : CoreState) → IsSound t → Gains s.turns (view_of s.board) [] t.turns (view_of s.board)
    → KeepsOut s.lanes s.turns.out t.turns.out → t ≡ record s { turns = t.turns } → Part s t
queue_only s t sound gains held after =
    let b : t.board ≡ s.board = ap (λ (x : CoreState). x.board) after in
    turns (record {
      lawful = sound.lawful;
      whole = sound.whole;
      gains = subst (λ (y : Plain). Gains s.turns (view_of s.board) [] t.turns (view_of y)) (sym b) gains;
      held = held;
      after = after ∙ ap (λ (y : Plain). record s { board = y; turns = t.turns }) (sym b);
    })

-- ---- a turn that is out

all_inserted : {X : Type 0} (P : X → Type 0) (xs : List X) (i : ℕ) (x : X) → AllByRecursion P (insert xs i x) → P x
all_inserted P [] zero x a = a.0
all_inserted P [] (suc i) x a = a.0
all_inserted P (y ∷ ys) zero x a = a.0
all_inserted P (y ∷ ys) (suc i) x a = all_inserted P ys i x a.1

taken_out : (now : ℕ) (q r : queue.View) (turn : Turn) → Takes now q (taken.Turn turn) r → r.out ≡ with_turn q.out turn
taken_out now q r turn (inl h) = ap (λ (v : queue.View). v.out) h.after
taken_out now q r turn (inr h) = ap (λ (v : queue.View). v.out) h.after

out_same : (lanes : List State) (before after : List Turn) → after ≡ before → KeepsOut lanes before after
out_same lanes before after same are = subst (λ (ts : List Turn). AllByRecursion (HoldsOut ts) lanes) (sym same) are

some_then : (o : Option Held) (P Q : Held → Type 0) → ((h : Held) → P h → Q h) → IfSome o P → IfSome o Q
some_then None P Q f is = tt
some_then (Some h) P Q f is = f h is

turn_more : (out : List Turn) (i : ℕ) (turn : Turn) (job rev : ℕ) → IsTurnOut out job rev → IsTurnOut (insert out i turn) job rev
turn_more out i turn job rev is =
    record { turn = is.turn; there = inserted_keeps out i turn is.turn is.there; of_job = is.of_job; of_rev = is.of_rev }

out_more : (lanes : List State) (before after : List Turn) (turn : Turn) → after ≡ with_turn before turn → KeepsOut lanes before after
out_more lanes before after turn is are =
    subst (λ (ts : List Turn). AllByRecursion (HoldsOut ts) lanes) (sym is)
    (all_then (HoldsOut before) (HoldsOut (with_turn before turn)) (λ lane has job. some_then (held_at lane.held job)
    (λ h. IsTurnOut before job h.by.rev) (λ h. IsTurnOut (with_turn before turn) job h.by.rev)
    (λ h. turn_more before (rank turn.job.0 before) turn job h.by.rev) (has job)) lanes are)

-- where no lane holds a job, its turn may go
turn_less : (out : List Turn) (i : ℕ) (gone : Turn) (lane : State) (gone_job : ℕ) → slice_get out i ≡ Some gone → gone.job.0 ≡ gone_job
    → HoldsOut out lane → held_at lane.held gone_job ≡ None → HoldsOut (remove out i) lane
turn_less out i gone lane gone_job there of_job has free job = by (held_at lane.held job) refl (has job)
  where
    by : (o : Option Held) → held_at lane.held job ≡ o → IfSome o (λ h. IsTurnOut out job h.by.rev)
        → IfSome o (λ h. IsTurnOut (remove out i) job h.by.rev)
    by None e is = tt
    by (Some h) e is = record {
      turn = is.turn;
      there = removed_keeps out i gone is.turn there is.there (λ same.
          (let j : gone_job ≡ job = sym of_job ∙ ap (λ (t : Turn). t.job.0) same ∙ is.of_job in
          let k = sym free ∙ ap (held_at lane.held) j ∙ e in cc));
      of_job = is.of_job;
      of_rev = is.of_rev;
    }

takes_keep : (lanes : List State) (now : ℕ) (q r : queue.View) (came : Taken) → Takes now q came r → KeepsOut lanes q.out r.out
takes_keep lanes now q r (taken.Turn turn) h = out_more lanes q.out r.out turn (taken_out now q r turn h)
takes_keep lanes now q r (taken.Later due) h = out_same lanes q.out r.out (ap (λ (v : queue.View). v.out) h.0)
takes_keep lanes now q r (taken.Busy out) h = out_same lanes q.out r.out (ap (λ (v : queue.View). v.out) h.0)
takes_keep lanes now q r taken.Idle h = out_same lanes q.out r.out (ap (λ (v : queue.View). v.out) h.0)

settles_keep : OneGoes → (lanes : List State) (job : JobNo) (now : ℕ) (q r : queue.View) (b c : board.View) (turn : Turn) (came : Settled)
    → turn.job ≡ job → NoneHolds lanes job → SettlesHeld now q b turn came r c → KeepsOut lanes q.out r.out
settles_keep goes lanes job now q r b c turn came of_job free h are =
    let held = h.held in
    let job_is : held.job.0 ≡ job.0 = ap (λ (j : JobNo). j.0) (h.out.job ∙ of_job) in
    let at = rank turn.job.0 q.out in
    subst (λ (ts : List Turn). AllByRecursion (HoldsOut ts) lanes) (sym (goes now q r b c turn came h))
    (all_both (HoldsOut q.out) (λ lane. held_at lane.held job.0 ≡ None) (HoldsOut (without_job q.out turn.job.0))
    (λ lane. turn_less q.out at held lane job.0 h.out.there job_is) lanes are free)

adds_out : (q : queue.View) (b : board.View) (jobs : List Queued) (r : queue.View) (c : board.View) → Adds q b jobs r c → r.out ≡ q.out
adds_out q b _ _ _ Adds.none_yet = refl
adds_out q b _ r c (Adds.one_more jobs job m _ d _ adds one) =
    ap (λ (v : queue.View). v.out) one.after ∙ adds_out q b jobs m d adds

-- a revision of a job whose row is kept, by a turn of the queue
turn_task : (m : CoreState) → Holds m → (turn : Turn) (row : RowState) → IsTurn turn → IsAdded m.turns.added turn
    → row_of_job turn.job.0 m.store.kept ≡ Some row → IsTask m.made (by_turn turn row.spec)
turn_task m o turn row good known there =
    let added = o.added in
    let one : Queued = record { job = turn.job; attempts = turn.attempts } in
    let w = queued_made 0 m.made one (subst (λ (qs : List Queued). Contains qs one) added known) in
    let copies = o.rows turn.job.0 row there in
    let both : Some w.spec ≡ Some row.spec = sym (made_spec m.made turn.job.0 w.place w.spec w.number w.there) ∙ copies in
    let same : w.spec ≡ row.spec = cc in
    let n = ap (λ (x : TaskSpec). x.attempts) same in
    let a = w.attempts in
    let rev = good.rev in
    let few = good.attempts in
    record { copies = copies; within = omega (arith, n, a, rev); few = omega (arith, n, a, few) }

-- ---- a job that is added fits the board

fits_from : (jobs n : ℕ) (specs : List TaskSpec) → n + length specs ≤ jobs → AllByRecursion HasAttempts specs
    → AllByRecursion (IsFit jobs) (queued_from n specs)
fits_from jobs n [] less few = tt
fits_from jobs n (spec ∷ specs) less few =
    ((omega arith, omega (arith, less), few.0.0, few.0.1), fits_from jobs (suc n) specs (omega (arith, less)) few.1)

room_fits : (sum limit made : ℕ) → (nat_le sum limit && nat_lt made 4294967295) ≡ true → sum ≤ limit
room_fits sum limit made e = grind (arith, nat_tests)

-- a plan that failed leaves the rows
failing_rows : (number job : ℕ) (execs : List ExecState) → row_of_job job (execs_failing number execs) ≡ row_of_job job execs
failing_rows number job [] = refl
failing_rows number job (exec ∷ execs) = ap (first_row (row_among job exec.rows)) (failing_rows number job execs)

-- what a sweep keeps
swept_row : (keep job : ℕ) (execs : List ExecState) (row : RowState) → RowStays keep job execs → row_of_job job (kept_by keep execs) ≡ Some row
    → row_of_job job execs ≡ Some row
swept_row keep job execs row (inl same) e = sym same ∙ e
swept_row keep job execs row (inr gone) e = absurd (let k = sym gone.0 ∙ e in cc)

-- ---- each event

module _ (lane_laws : LaneLaws) (laws : OtherLaws) (calls : CallLaws) where
  pub reserve_part : (s t : CoreState) → IsSound t → Reserves s t → Part s t
  reserve_part s t sound h =
      let room = h.room in
      queue_only s t sound (subst (λ (q : queue.View). Gains s.turns (view_of s.board) [] q (view_of s.board)) (sym room)
      (let g = calls.none s.turns (view_of s.board) in
      record {
        added = g.added;
        kept = g.kept;
        finals = g.finals;
        places = g.places;
        opens = g.opens;
        may = g.may;
        ended = g.ended;
        done = g.done;
        over = g.over;
      })) (out_same s.lanes s.turns.out t.turns.out (ap (λ (q : queue.View). q.out) room)) h.after

  pub out_part : (s t : CoreState) (came : Taken) → IsSound t → GoesOut s came t → Part s t
  out_part s t came sound h =
      queue_only s t sound (calls.take s.now s.turns t.turns (view_of s.board) came h.takes)
      (takes_keep s.lanes s.now s.turns t.turns came h.takes) h.after

  pub take_parts : (s t : CoreState) (answer : Told) → Holds s → IsSound t → TakesTurn s answer t → Parts s t
  take_parts s t answer o sound h =
      let first = out_part s h.mid (taken.Turn h.turn) h.sound h.out in
      let m = keeps_parts lane_laws laws s h.mid o (one_part s h.mid first) in
      let out = taken_out s.now s.turns h.mid.turns h.turn h.out.takes in
      let T : List Turn → Type 0 = λ ts. AllByRecursion IsTurn ts in
      let A : List Turn → Type 0 = λ ts. AllByRecursion (IsAdded h.mid.turns.added) ts in
      let at = rank h.turn.job.0 s.turns.out in
      let good = all_inserted IsTurn s.turns.out at h.turn (subst T out m.whole.turns.outs) in
      let known = all_inserted (IsAdded h.mid.turns.added) s.turns.out at h.turn (subst A out m.whole.known.outs) in
      let is_out : IsTurnOut h.mid.turns.out (h.turn).job.0 (h.turn).rev = record {
        turn = h.turn;
        there = subst (λ (ts : List Turn). Contains ts h.turn) (sym out) (inserted_there s.turns.out at h.turn);
        of_job = refl;
        of_rev = refl;
      } in
      next s h.mid t first (elim h.admits [
        | inl a ↦ one_part h.mid t (works (record {
          at = _;
          lane = a.lane;
          worked = a.worked;
          calls = a.calls;
          lawful = sound.lawful;
          does = admits (by_turn h.turn a.row.spec) a.came (turn_task h.mid m h.turn a.row good known a.there) is_out a.admits;
        }))
        | inr b ↦ one_part h.mid t (board_only h.mid t
            (quiet_acts h.mid.board t.board sound.lawful ((place_of h.turn.job.0 h.turn.rev, word_of b.mark) ∷ []) b.finds.noted) b.after)
      ])

  pub step_part : (s t : CoreState) (job : JobNo) (answer : Told) → IsSound t → StepsJob s job answer t → Part s t
  step_part s t job answer sound h = works (record {
    at = h.at;
    lane = h.lane;
    worked = h.worked;
    calls = h.calls;
    lawful = sound.lawful;
    does = steps job h.came h.steps;
  })

  pub settle_part : (s t : CoreState) (job : JobNo) (answer : Told) → Holds s → IsSound t → SettlesOut s job answer t → Part s t
  settle_part s t job answer o sound h = turns (record {
    lawful = sound.lawful;
    whole = sound.whole;
    gains = calls.settle s.now s.turns t.turns (view_of s.board) (view_of t.board) h.turn h.came o.whole (inr h.settles);
    held = settles_keep calls.goes s.lanes job s.now s.turns t.turns (view_of s.board) (view_of t.board) h.turn h.came h.of_job h.none h.settles;
    after = h.after;
  })

  stop_part : (s t : CoreState) (job : JobNo) (answer : Told) → Holds s → IsSound t → StopsJob s job answer t → Part s t
  stop_part s t job answer o sound h = stops (record {
    job = job;
    spec = h.row.spec;
    copies = o.rows job.0 h.row h.there;
    rev = h.rev;
    stopped = h.stops;
    lawful = sound.lawful;
    hooks = h.hooks;
    after = h.after;
  })

  final_part : (s t : CoreState) (job : JobNo) (answer : Told) → IsSound t → FindsFinal s job answer t → Part s t
  final_part s t job answer sound h =
      board_only s t (quiet_acts s.board t.board sound.lawful h.stops.0 h.stops.2.same) h.after

  pub deliver_part : (s t : CoreState) (place : ℕ) (answer : Told) → Holds s → IsSound t → Delivers s place answer t → Part s t
  deliver_part s t place answer o sound h =
      let e = hook_all (IsEmitted s.made s.board.past.notes) s.hooks (suc place) h.hook o.emitted h.there in
      let within = e.revision.within in
      let few = e.revision.few in
      receives (record {
        hook = h.hook;
        small = omega (arith, within, few);
        place = Some place;
        came = h.came;
        receives = h.receives;
        lawful = sound.lawful;
        marks = (h.there, h.marks);
        after = h.after;
      })

  forge_part : (s t : CoreState) (hook : Hook) (answer : Told) → IsSound t → Forges s hook answer t → Part s t
  forge_part s t hook answer sound h = receives (record {
    hook = hook;
    small = h.small;
    place = None;
    came = h.came;
    receives = h.receives;
    lawful = sound.lawful;
    marks = ap (λ (x : CoreState). x.delivered) h.after;
    after = h.after ∙ ap (λ (ms : List Bool). record s { board = t.board; store = t.store; delivered = ms })
        (sym (ap (λ (x : CoreState). x.delivered) h.after));
  })

  -- the moment moves, and nothing else
  pub now_part : (s t : CoreState) → IsSound t → t ≡ record s { now = t.now } → Part s t
  now_part s t sound after =
      let b : t.board ≡ s.board = ap (λ (x : CoreState). x.board) after in
      let st : t.store ≡ s.store = ap (λ (x : CoreState). x.store) after in
      passes (record {
        acts = still_acts s.board t.board sound.lawful (ap view_of b);
        jobs = ap (λ (x : StoreState). x.jobs) st;
        limit = ap (λ (x : StoreState). x.limit) st;
        rows = λ job row e. sym (ap (λ (x : StoreState). row_of_job job x.kept) st) ∙ e;
        after = after ∙ ap (λ (y : Plain). record s { board = y; now = t.now }) (sym b)
            ∙ ap (λ (y : StoreState). record s { board = t.board; store = y; now = t.now }) (sym st);
      })

  sweep_part : (s t : CoreState) (keep : ℕ) (answer : Told) → IsSound s → IsSound t → Sweeps s keep answer t → Part s t
  sweep_part s t keep answer sound_before sound h =
      let is = h.sweeps.after_is in
      let kept = ap (λ (x : StoreState). x.kept) is in
      store_only s t sound (ap (λ (x : StoreState). x.jobs) is) (ap (λ (x : StoreState). x.limit) is)
      (λ job row e. swept_row keep job s.store.kept row (calls.sweeps keep job s.store.kept sound_before.ordered sound_before.no_rows)
      (sym (ap (row_of_job job) kept) ∙ e)) h.after

  look_part : (s t : CoreState) (job : JobNo) (rev : ℕ) (answer : Told) → IsSound t → LooksAt s job rev answer t → Part s t
  look_part s t job rev answer sound h =
      board_only s t (quiet_acts s.board t.board sound.lawful ((place_of job.0 rev, word_of h.mark) ∷ []) h.finds.noted) h.after

  -- ---- triggers

  create_parts : (s t : CoreState) (specs : List TaskSpec) (answer : Told) → Holds s → IsSound t → Creates s specs answer t → Parts s t
  create_parts s t specs answer o sound h =
      let mid = h.mid in
      let m = keeps_parts lane_laws laws s mid o (one_part s mid (reserve_part s mid h.sound h.reserved)) in
      let board_is : mid.board ≡ s.board = ap (λ (x : CoreState). x.board) h.reserved.after in
      let store_is : mid.store ≡ s.store = ap (λ (x : CoreState). x.store) h.reserved.after in
      let made_is : mid.made ≡ s.made = ap (λ (x : CoreState). x.made) h.reserved.after in
      let few : AllByRecursion HasAttempts specs =
      subst (λ (p : Option (List TaskSpec)). IfSome p (AllByRecursion HasAttempts)) h.planned o.planned in
      let room = room_fits (s.store.jobs + length specs) s.store.limit s.store.made h.created.room in
      let number = o.numbered in
      let fits = o.fits in
      let fit = fits_from (view_of s.board).jobs (length s.made) specs (omega (arith, room, number, fits)) few in
      let gains = calls.add mid.turns t.turns (view_of s.board) (view_of t.board) (queued_from (length s.made) specs) fit h.adds in
      let B : Plain → Type 0 = λ b. Gains mid.turns (view_of b) (queued_from (length s.made) specs) t.turns (view_of t.board) in
      let M : List TaskSpec → Type 0 = λ made. Gains mid.turns (view_of mid.board) (queued_from (length made) specs) t.turns (view_of t.board) in
      let P : StoreState → Type 0 = λ st. IsCreated st (record { 0 = 1 }) Manual specs (record { 0 = s.now }) h.exec t.store in
      next s mid t (reserve_part s mid h.sound h.reserved) (one_part mid t (makes (record {
        policy = record { 0 = 1 };
        trigger = Manual;
        specs = specs;
        now = record { 0 = s.now };
        exec = h.exec;
        few = few;
        created = subst P (sym store_is) h.created;
        lawful = sound.lawful;
        whole = sound.whole;
        gains = subst M (sym made_is) (subst B (sym board_is) gains);
        out = adds_out mid.turns (view_of s.board) (queued_from (length s.made) specs) t.turns (view_of t.board) h.adds;
        made = h.made ∙ ap (λ (made : List TaskSpec). made ++ specs) (sym made_is);
        after = h.after;
      })))

  fail_parts : (s t : CoreState) (answer : Told) → Holds s → IsSound s → IsSound t → FailsToPlan s answer t → Parts s t
  fail_parts s t answer o before sound h =
      let mid : CoreState = record s { store = h.store } in
      let kept = ap (λ (x : StoreState). x.kept) h.marked in
      next s mid t (makes (record {
        policy = record { 0 = 1 };
        trigger = Manual;
        specs = [];
        now = record { 0 = s.now };
        exec = h.exec;
        few = tt;
        created = h.created;
        lawful = before.lawful;
        whole = before.whole;
        gains = calls.none s.turns (view_of s.board);
        out = refl;
        made = sym (append-nil s.made);
        after = refl;
      }))
      (one_part mid t (store_only mid t sound (ap (λ (x : StoreState). x.jobs) h.marked) (ap (λ (x : StoreState). x.limit) h.marked)
      (λ job row e. sym (failing_rows (h.exec).0 job h.store.kept) ∙ sym (ap (row_of_job job) kept) ∙ e) h.after))

  trigger_parts : (s t : CoreState) (answer : Told) (policy : PolicyNo) → Holds s → IsSound s → IsSound t → Triggers s policy answer t
      → Parts s t
  trigger_parts s t answer policy o before sound (no_policy other tells same) = no_part s t same
  trigger_parts s t answer policy o before sound (fails one h) = fail_parts s t answer o before sound h
  trigger_parts s t answer policy o before sound (creates specs one h) = create_parts s t specs answer o sound h
  trigger_parts s t answer policy o before sound (is_full one h) = one_part s t (reserve_part s t sound h.after)

  number_parts : (s t : CoreState) (number : ℕ) (answer : Told) → Holds s → IsSound t → DeliversNumber s number answer t → Parts s t
  number_parts s t zero answer o sound h = no_part s t h.same
  number_parts s t (suc place) answer o sound (inl h) = one_part s t (deliver_part s t place answer o sound h)
  number_parts s t (suc place) answer o sound (inr h) = no_part s t h.same

  pub one_parts : (s t : CoreState) (e : Event) (answers : List Told) → Holds s → IsSound s → IsSound t → DoesOne s e answers t → Parts s t
  one_parts s t (event.Trigger policy) answers o before sound (answer, is, h) = trigger_parts s t answer policy o before sound h
  one_parts s t event.Due answers o before sound h = absurd (h)
  one_parts s t event.Take answers o before sound (answer, is, inl h) = take_parts s t answer o sound h
  one_parts s t event.Take answers o before sound (answer, is, inr h) = one_part s t (out_part s t h.came sound h.rests)
  one_parts s t (event.Step job) answers o before sound (answer, is, inl h) = one_part s t (step_part s t job answer sound h)
  one_parts s t (event.Step job) answers o before sound (answer, is, inr h) = no_part s t h.same
  one_parts s t (event.Settle job) answers o before sound (answer, is, inl h) = one_part s t (settle_part s t job answer o sound h)
  one_parts s t (event.Settle job) answers o before sound (answer, is, inr (inl h)) = no_part s t h.same
  one_parts s t (event.Settle job) answers o before sound (answer, is, inr (inr h)) = no_part s t h.same
  one_parts s t (event.Stop job) answers o before sound (answer, is, inl h) = one_part s t (stop_part s t job answer o sound h)
  one_parts s t (event.Stop job) answers o before sound (answer, is, inr (inl h)) = one_part s t (final_part s t job answer sound h)
  one_parts s t (event.Stop job) answers o before sound (answer, is, inr (inr h)) = no_part s t h.same
  one_parts s t (event.Deliver number) answers o before sound (answer, is, h) = number_parts s t number answer o sound h
  one_parts s t (event.Forge hook) answers o before sound (answer, is, h) = one_part s t (forge_part s t hook answer sound h)
  one_parts s t (event.Wait seconds) answers o before sound (answer, is, h) = one_part s t (now_part s t sound h.after)
  one_parts s t (event.Sweep keep) answers o before sound (answer, is, h) = one_part s t (sweep_part s t keep answer before sound h)
  one_parts s t event.Finish answers o before sound h = absurd (h)
  one_parts s t (event.Tags reg) answers o before sound h = no_part s t h.0
  one_parts s t (event.Row job) answers o before sound h = no_part s t h.0
  one_parts s t (event.Exec exec) answers o before sound h = no_part s t h.0
  one_parts s t (event.Word job rev) answers o before sound (answer, is, inl h) = one_part s t (look_part s t job rev answer sound h)
  one_parts s t (event.Word job rev) answers o before sound (answer, is, inr h) = no_part s t h.same
  one_parts s t (event.CauseOf job) answers o before sound h = no_part s t h.0
