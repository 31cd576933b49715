-- Each part keeps what holds of the core.
use Rattle.std.proofs.Common.{◌≡◌, ◌⊎◌, inl, inr, refl, sym, ap, subst, ◌∙◌, suc, ℕ, ◌+◌, ◌<◌, ◌≤◌, Bool, true, false, ◌&&◌, List, [], ◌∷◌, ◌++◌, length, arith, length-append}
use Rattle.std.proofs.lemmas.Bool.Decides.{eqb_tells, nat_tests}
use Rattle.std.proofs.lemmas.List.{append-nil}
use Rattle.std.proofs.lemmas.List.Sums.{sum_by-append, sum_by_push}
use Rattle.std.specs.Prelude.{Option, Some, None, nat_le, nat_lt, IsTrue, slice_index}
use Rattle.std.specs.Option.{option_map}
use Rattle.std.specs.List.{AllByRecursion, Contains, sum_by}
use Rattle.hr_base.specs.Status.{word_of}
use Rattle.hr_base.specs.declared.status.Hook.{Hook}
use Rattle.hr_base.specs.declared.status.Mark.{Mark}
use Rattle.hr_event.specs.declared.task.TaskSpec.{TaskSpec}
use Rattle.hr_event.specs.declared.task.Turn.{Turn}
use Rattle.hr_event.specs.declared.view.Received.{Received}
use Rattle.hr_event.specs.declared.view.Received.TheVariants as received
use Rattle.hr_board.specs.Plain.{IsLawful, Plain, view_of}
use Rattle.hr_board.specs.View as board
use Rattle.hr_board.specs.View.{Keeps, Noted, Notes, Place, Word}
use Rattle.hr_line.specs.State.{State}
use Rattle.hr_queue.specs.Gains.{Agrees, Gains}
use Rattle.hr_queue.specs.View as queue
use Rattle.hr_queue.specs.declared.answer.Queued.{Queued}
use Rattle.hr_store.specs.Creating.{next_exec}
use Rattle.hr_store.specs.Execution.{ExecState}
use Rattle.hr_store.specs.Laws.{TakenIsPut, hooks_of_job}
use Rattle.hr_store.specs.Receiving.{FindsWord, ReceivesHook, TakesHook, was_made}
use Rattle.hr_store.specs.Row.{RowState, is_among, with_hook}
use Rattle.hr_store.specs.Store.{StoreState, execs_hearing, row_hearing, row_of_job}
use Rattle.hr_run.specs.Holds.{CoveredBy, HasAttempts, Holds, HoldsOut, IsCovered, IsEmitted, IsReceived, IsServing}
use Rattle.hr_run.specs.Part.{Acts, Makes, Marks, Part, Parts, Passes, Receives, Stops, Turns, Works, stop_hook}
use Rattle.hr_run.specs.Part.Part.{makes, passes, receives, stops, turns, works}
use Rattle.hr_run.specs.Part.Parts.{next, none}
use Rattle.hr_run.specs.State.{CoreState, hook_at, hook_place, queued_from, spec_of, status_word, was_delivered}
use Rattle.hr_run.specs.Weight.{final_weight, lane_weight, stop_weight}
use Rattle.hr_run.proofs.LaneLemmas.{LaneLaws, held_so, noted_on, quiet_acts, still_acts, stopping_acts, worked_so}
use Rattle.hr_run.proofs.ListLemmas.{all_append, all_at, all_set, all_then, sum_set}
use Rattle.hr_run.proofs.MarkLemmas.{covered_still, covers_itself, covers_later, covers_mark, emitted_more, emitted_still, few_each, hook_all, hook_more, last_noted, mark_covers, marked, noted_more, spec_more, spec_within, sum_finals, task_more}
use Rattle.hr_run.proofs.RowLemmas.{hearing_row, heard_row, hears, new_row, new_spec, queued_more, row_heard, row_pushed}

-- the laws of the queue and of the store that are used
pub record OtherLaws : Type 0 where
  pub calls : (q r : queue.View) (b c : board.View) (jobs : List Queued) → Agrees q b → Gains q b jobs r c → Agrees r c
  pub others : (q : queue.View) (b c : board.View) → Agrees q b → Keeps b c → c.opens ≡ b.opens → Agrees q c
  pub reach : (hook : Hook) (job : ℕ) (execs : List ExecState)
      → row_of_job job (execs_hearing hook execs) ≡ option_map (row_hearing hook) (row_of_job job execs)
  pub put : (store after : StoreState) (b c : board.View) (hook : Hook) (raised : Bool) → TakenIsPut store b hook raised after c
  pub among : (hooks : List Hook) (hook : Hook) → IsTrue (is_among hooks hook) → Contains hooks hook

-- ---- what stays

serving_still : (made : List TaskSpec) (b c : Plain) → Keeps (view_of b) (view_of c) → (lane : State)
    → IsServing made (view_of b) lane → IsServing made (view_of c) lane
serving_still made b c kept lane was = record {
  orderly = was.orderly;
  ends = was.ends;
  hooks = was.hooks;
  tasks = was.tasks;
  noted = noted_on lane.admitted (view_of b) (view_of c) kept was.noted;
}

serving_more : (made more : List TaskSpec) (b c : Plain) → Keeps (view_of b) (view_of c) → (lane : State)
    → IsServing made (view_of b) lane → IsServing (made ++ more) (view_of c) lane
serving_more made more b c kept lane was = record {
  orderly = was.orderly;
  ends = was.ends;
  hooks = was.hooks;
  tasks = all_then _ _ (task_more made more) lane.admitted was.tasks;
  noted = noted_on lane.admitted (view_of b) (view_of c) kept was.noted;
}

module _ (s t : CoreState) (o : Holds s) (kept : Keeps (view_of s.board) (view_of t.board)) where
  fits_same : s.store.limit ≤ (view_of t.board).jobs
  fits_same = let was = o.fits in let jobs = kept.jobs in omega (arith, was, jobs)

  fits_still : t.store.limit ≡ s.store.limit → t.store.limit ≤ (view_of t.board).jobs
  fits_still same = let was = o.fits in let jobs = kept.jobs in omega (arith, was, jobs, same)

  lanes_still : AllByRecursion (IsServing s.made (view_of t.board)) s.lanes
  lanes_still = all_then (IsServing s.made (view_of s.board)) (IsServing s.made (view_of t.board))
      (serving_still s.made s.board t.board kept) s.lanes o.lanes

  emitted_all : AllByRecursion (IsEmitted s.made t.board.past.notes) s.hooks
  emitted_all = all_then (IsEmitted s.made s.board.past.notes) (IsEmitted s.made t.board.past.notes)
      (emitted_still s.board t.board kept s.made) s.hooks o.emitted

  covered_all : (job : ℕ) (heard : List Hook) → AllByRecursion (IsCovered s.board.past.notes job) heard
      → AllByRecursion (IsCovered t.board.past.notes job) heard
  covered_all job heard a = all_then (IsCovered s.board.past.notes job) (IsCovered t.board.past.notes job)
      (covered_still s.board t.board kept job) heard a

delivered_more : (hooks more : List Hook) (store : StoreState) (k : ℕ) → IsReceived hooks store k → IsReceived (hooks ++ more) store k
delivered_more hooks more store k d = record { hook = d.hook; is = hook_more hooks more k d.hook d.is; received = d.received }

module _ (laws : OtherLaws) (s t : CoreState) (o : Holds s) where
  pub keeps_turns : Turns s t → Holds t
  keeps_turns h =
      let kept = h.gains.kept in
      let same : t.board.past.finals ≡ s.board.past.finals = h.gains.finals in
      subst (λ (u : CoreState). Holds u) (sym h.after) (record {
        lawful = h.lawful;
        whole = h.whole;
        agrees = laws.calls s.turns t.turns (view_of s.board) (view_of t.board) [] o.agrees h.gains;
        added = h.gains.added ∙ append-nil s.turns.added ∙ o.added;
        numbered = o.numbered;
        fits = fits_same s t o kept;
        few = o.few;
        planned = o.planned;
        rows = o.rows;
        lanes = lanes_still s t o kept;
        held = h.held o.held;
        shares = o.shares;
        finals = λ f. ap (sum_by f) same ∙ o.finals f;
        emitted = emitted_all s t o kept;
        received = λ job heard e. covered_all s t o kept job heard (o.received job heard e);
        delivered = o.delivered;
      })

  pub keeps_stops : Stops s t → Holds t
  keeps_stops h =
      let place = hook_place (stop_hook h.job h.rev) in
      let hook = stop_hook h.job h.rev in
      let E : List Hook → Type 0 = λ hs. AllByRecursion (IsEmitted s.made t.board.past.notes) hs in
      let R : List Hook → ℕ → Type 0 = λ hs k. IsReceived hs s.store k in
      let at = h.stopped.2 in
      let acts = stopping_acts s.board t.board h.lawful h.stopped.0 place at.word at.moved in
      let more : (g : Hook → ℕ) → sum_by g t.hooks ≡ sum_by g s.hooks + g hook =
      λ g. ap (sum_by g) h.hooks ∙ sum_by_push g s.hooks hook in
      let is_new : IsEmitted s.made t.board.past.notes hook = record {
        revision = record { spec = h.spec; copies = h.copies; within = h.stopped.1.within; few = few_each s.made h.job.0 h.spec o.few h.copies };
        noted = last_noted t.board.past.notes (s.board.past.notes ++ h.stopped.0) place 4 (ap (λ (v : board.View). v.notes) at.moved);
      } in
      subst (λ (u : CoreState). Holds u) (sym h.after) (record {
        lawful = h.lawful;
        whole = o.whole;
        agrees = laws.others s.turns (view_of s.board) (view_of t.board) o.agrees acts.kept acts.opens;
        added = o.added;
        numbered = o.numbered;
        fits = fits_same s t o acts.kept;
        few = o.few;
        planned = o.planned;
        rows = o.rows;
        lanes = lanes_still s t o acts.kept;
        held = o.held;
        shares = λ g. let a = more g in let b = more (stop_weight g) in let c = o.shares g in omega (arith, a, b, c);
        finals = λ f.
            let a = more (final_weight f) in
            let b = sum_finals s.board t.board ((place, 4) ∷ []) acts.finals f in
            let c = o.finals f in
            omega (arith, a, b, c);
        emitted = subst E (sym h.hooks) (all_append (IsEmitted s.made t.board.past.notes) s.hooks (hook ∷ []) (emitted_all s t o acts.kept) (is_new, tt));
        received = λ job heard e. covered_all s t o acts.kept job heard (o.received job heard e);
        delivered = λ k e. subst (λ (hs : List Hook). R hs k) (sym h.hooks) (delivered_more s.hooks (hook ∷ []) s.store k (o.delivered k e));
      })

  pub keeps_passes : Passes s t → Holds t
  keeps_passes h =
      let kept = h.acts.kept in
      let heard_before : (job : ℕ) (heard : List Hook) → hooks_of_job job t.store.kept ≡ Some heard → hooks_of_job job s.store.kept ≡ Some heard =
      λ job heard e. (let r = heard_row (row_of_job job t.store.kept) heard e in
      row_heard job s.store.kept r.0 (h.rows job r.0 r.1) ∙ ap Some r.2) in
      subst (λ (u : CoreState). Holds u) (sym h.after) (record {
        lawful = h.acts.lawful;
        whole = o.whole;
        agrees = laws.others s.turns (view_of s.board) (view_of t.board) o.agrees kept h.acts.opens;
        added = o.added;
        numbered = h.jobs ∙ o.numbered;
        fits = fits_still s t o kept h.limit;
        few = o.few;
        planned = o.planned;
        rows = λ job row e. o.rows job row (h.rows job row e);
        lanes = lanes_still s t o kept;
        held = o.held;
        shares = o.shares;
        finals = λ f. let b = sum_finals s.board t.board [] h.acts.finals f in let c = o.finals f in omega (arith, b, c);
        emitted = emitted_all s t o kept;
        received = λ job heard e. covered_all s t o kept job heard (o.received job heard (heard_before job heard e));
        delivered = λ k e. (let d = o.delivered k e in
            record { hook = d.hook; is = d.is; received = λ heard q. d.received heard (heard_before d.hook.job.0 heard q) });
      })

  pub keeps_works : LaneLaws → Works s t → Holds t
  keeps_works lane_laws h =
      let was = all_at (IsServing s.made (view_of s.board)) s.lanes h.at h.lane o.lanes h.calls.there in
      let w = worked_so lane_laws s.made s.board t.board h.lane h.worked h.calls.more h.lawful was h.calls.gave s.turns.out h.does in
      let kept = w.acts.kept in
      let L : List State → Type 0 = λ ls. AllByRecursion (IsServing s.made (view_of t.board)) ls in
      let H : List State → Type 0 = λ ls. AllByRecursion (HoldsOut s.turns.out) ls in
      let E : List Hook → Type 0 = λ hs. AllByRecursion (IsEmitted s.made t.board.past.notes) hs in
      let R : List Hook → ℕ → Type 0 = λ hs k. IsReceived hs s.store k in
      let more : (g : Hook → ℕ) → sum_by g t.hooks ≡ sum_by g s.hooks + sum_by g h.calls.more =
      λ g. ap (sum_by g) h.calls.hooks ∙ sum_by-append g s.hooks h.calls.more in
      subst (λ (u : CoreState). Holds u) (sym h.calls.after) (record {
        lawful = h.lawful;
        whole = o.whole;
        agrees = laws.others s.turns (view_of s.board) (view_of t.board) o.agrees kept w.acts.opens;
        added = o.added;
        numbered = o.numbered;
        fits = fits_same s t o kept;
        few = o.few;
        planned = o.planned;
        rows = o.rows;
        lanes = subst L (sym h.calls.lanes)
            (all_set (IsServing s.made (view_of t.board)) s.lanes h.at h.worked (lanes_still s t o kept) w.serving);
        held = subst H (sym h.calls.lanes) (all_set (HoldsOut s.turns.out) s.lanes h.at h.worked o.held
            (held_so s.made s.turns.out h.lane h.worked (view_of s.board) (view_of t.board) h.does
            (all_at (HoldsOut s.turns.out) s.lanes h.at h.lane o.held h.calls.there)));
        shares = λ g.
            let a = more g in
            let b = more (stop_weight g) in
            let c = o.shares g in
            let l = ap (sum_by (lane_weight g)) h.calls.lanes in
            let m = sum_set (lane_weight g) s.lanes h.at h.lane h.worked h.calls.there in
            let n = ap (sum_by g) h.calls.gave ∙ sum_by-append g h.calls.more h.lane.hooks in
            let u = w.unstopped g in
            omega (arith, a, b, c, l, m, n, u);
        finals = λ f.
            let a = more (final_weight f) in
            let b = sum_finals s.board t.board w.ended w.acts.finals f in
            let c = o.finals f in
            let d = w.weights f in
            omega (arith, a, b, c, d);
        emitted = subst E (sym h.calls.hooks)
            (all_append (IsEmitted s.made t.board.past.notes) s.hooks h.calls.more (emitted_all s t o kept) w.emitted);
        received = λ job heard e. covered_all s t o kept job heard (o.received job heard e);
        delivered = λ k e. subst (λ (hs : List Hook). R hs k) (sym h.calls.hooks) (delivered_more s.hooks h.calls.more s.store k (o.delivered k e));
      })

  -- ---- an execution is made

  module _ (h : Makes s t) where
    kept_is : t.store.kept ≡ s.store.kept ++ next_exec s.store h.policy h.trigger h.specs h.now ∷ []
    kept_is = ap (λ (x : StoreState). x.kept) h.created.after_is

    jobs_is : t.store.jobs ≡ s.store.jobs + length h.specs
    jobs_is = ap (λ (x : StoreState). x.jobs) h.created.after_is

    -- a row of an old job, or of a new one
    made_row : (job : ℕ) (row : RowState) → row_of_job job t.store.kept ≡ Some row
        → (row_of_job job s.store.kept ≡ Some row)
        ⊎ ((spec_of (s.made ++ h.specs) job ≡ Some row.spec) × (length s.made < job) × (row.received ≡ []))
    made_row job row e =
        let R : List ExecState → Type 0 = λ es. row_of_job job es ≡ Some row in
        elim (row_pushed job s.store.kept (next_exec s.store h.policy h.trigger h.specs h.now) row (subst R kept_is e)) [
          | inl old ↦ inl old
          | inr new ↦
              (let n = new_row s.store.jobs job h.specs row new in
              let at = n.numbered in
              let number = o.numbered in
              inr (
                new_spec s.made h.specs job row (record {
                  place = n.place;
                  numbered = omega (arith, at, number);
                  copies = n.copies;
                  none = n.none;
                }),
                omega (arith, at, number),
                n.none,
              ))
        ]

    pub keeps_makes : Holds t
    keeps_makes =
        let kept = h.gains.kept in
        let same : t.board.past.finals ≡ s.board.past.finals = h.gains.finals in
        let M : List TaskSpec → Type 0 = λ made. AllByRecursion (IsServing made (view_of t.board)) s.lanes in
        let E : List TaskSpec → Type 0 = λ made. AllByRecursion (IsEmitted made t.board.past.notes) s.hooks in
        let F : List TaskSpec → Type 0 = λ made. AllByRecursion HasAttempts made in
        let S : List TaskSpec → ℕ → TaskSpec → Type 0 = λ made job spec. spec_of made job ≡ Some spec in
        let N : List Hook → ℕ → Type 0 = λ heard job. AllByRecursion (IsCovered t.board.past.notes job) heard in
        subst (λ (u : CoreState). Holds u) (sym h.after) (record {
          lawful = h.lawful;
          whole = h.whole;
          agrees = laws.calls s.turns t.turns (view_of s.board) (view_of t.board) (queued_from (length s.made) h.specs) o.agrees h.gains;
          added = h.gains.added ∙ ap (λ (q : List Queued). q ++ queued_from (length s.made) h.specs) o.added
              ∙ sym (queued_more 0 (length s.made) s.made h.specs (omega arith)) ∙ ap (queued_from 0) (sym h.made);
          numbered = jobs_is ∙ ap (λ (n : ℕ). n + length h.specs) o.numbered ∙ sym (length-append s.made h.specs)
              ∙ ap (λ (made : List TaskSpec). length made) (sym h.made);
          fits = fits_still s t o kept (ap (λ (x : StoreState). x.limit) h.created.after_is);
          few = subst F (sym h.made) (all_append HasAttempts s.made h.specs o.few h.few);
          planned = o.planned;
          rows = λ job row e. subst (λ (made : List TaskSpec). S made job row.spec) (sym h.made) (elim (made_row job row e) [
            | inl old ↦ spec_more s.made h.specs job row.spec (o.rows job row old)
            | inr new ↦ new.0
          ]);
          lanes = subst M (sym h.made) (all_then (IsServing s.made (view_of s.board)) (IsServing (s.made ++ h.specs) (view_of t.board))
              (serving_more s.made h.specs s.board t.board kept) s.lanes o.lanes);
          held = subst (λ (ts : List Turn). AllByRecursion (HoldsOut ts) s.lanes) (sym h.out) o.held;
          shares = o.shares;
          finals = λ f. ap (sum_by f) same ∙ o.finals f;
          emitted = subst E (sym h.made) (all_then (IsEmitted s.made s.board.past.notes) (IsEmitted (s.made ++ h.specs) t.board.past.notes)
              (emitted_more s.board t.board kept s.made h.specs) s.hooks o.emitted);
          received = λ job heard e. (let r = heard_row (row_of_job job t.store.kept) heard e in
              elim (made_row job r.0 r.1) [
                | inl old ↦ covered_all s t o kept job heard (o.received job heard (row_heard job s.store.kept r.0 old ∙ ap Some r.2))
                | inr new ↦ subst (λ (hs : List Hook). N hs job) (sym (sym r.2 ∙ new.2)) tt
              ]);
          delivered = λ k e. (let d = o.delivered k e in
              let m = hook_all (IsEmitted s.made s.board.past.notes) s.hooks k d.hook o.emitted d.is in
              let w = spec_within s.made d.hook.job.0 m.revision.spec m.revision.copies in
              record {
                hook = d.hook;
                is = d.is;
                received = λ heard q.
                    (let r = heard_row (row_of_job d.hook.job.0 t.store.kept) heard q in
                    elim (made_row d.hook.job.0 r.0 r.1) [
                      | inl old ↦ d.received heard (row_heard d.hook.job.0 s.store.kept r.0 old ∙ ap Some r.2)
                      | inr new ↦ absurd (omega (arith, new.1, w.1))
                    ]);
              });
        })

-- ---- the store is given a hook

-- what it comes to
record Heard (s t : CoreState) (hook : Hook) : Type 0 where
  acts : Acts s.board t.board []
  jobs : t.store.jobs ≡ s.store.jobs
  limit : t.store.limit ≡ s.store.limit
  rows : (job : ℕ) (row : RowState) → row_of_job job t.store.kept ≡ Some row → spec_of s.made job ≡ Some row.spec
  covered : (job : ℕ) (heard : List Hook) → hooks_of_job job t.store.kept ≡ Some heard
      → AllByRecursion (IsCovered t.board.past.notes job) heard
  stay : (job : ℕ) (x : Hook) (heard : List Hook) → hooks_of_job job t.store.kept ≡ Some heard
      → ((old : List Hook) → hooks_of_job job s.store.kept ≡ Some old → Contains old x) → Contains heard x
  there : CoveredBy hook.status (slice_index t.board.words (hook_place hook)) → (heard : List Hook)
      → hooks_of_job hook.job.0 t.store.kept ≡ Some heard → Contains heard hook

module _ (laws : OtherLaws) (s t : CoreState) (o : Holds s) (hook : Hook) (lawful : IsLawful t.board.words t.board.past)
    (small : hook.rev ≤ 3) where
  -- the store stays
  heard_none : Acts s.board t.board [] → t.store ≡ s.store
      → (CoveredBy hook.status (slice_index t.board.words (hook_place hook)) → (row : RowState) → row_of_job hook.job.0 s.store.kept ≡ Some row → ⊥)
      → Heard s t hook
  heard_none acts same never =
      let kept : t.store.kept ≡ s.store.kept = ap (λ (x : StoreState). x.kept) same in
      let H : (job : ℕ) → hooks_of_job job t.store.kept ≡ hooks_of_job job s.store.kept = λ job. ap (hooks_of_job job) kept in
      record {
        acts = acts;
        jobs = ap (λ (x : StoreState). x.jobs) same;
        limit = ap (λ (x : StoreState). x.limit) same;
        rows = λ job row e. o.rows job row (sym (ap (row_of_job job) kept) ∙ e);
        covered = λ job heard e. covered_all s t o acts.kept job heard (o.received job heard (sym (H job) ∙ e));
        stay = λ job x heard e has. has heard (sym (H job) ∙ e);
        there = λ covers heard e. absurd (let r = heard_row (row_of_job hook.job.0 s.store.kept) heard (sym (H hook.job.0) ∙ e) in never covers r.0 r.1);
      }

  word_found : (mark : Mark) → FindsWord (view_of s.board) hook mark (view_of t.board) → slice_index t.board.words (hook_place hook) ≡ word_of mark
  word_found mark found =
      let e : Some t.board.words ≡ Some s.board.words = ap (λ (v : board.View). v.words) found.after_is in
      let same : t.board.words ≡ s.board.words = cc in
      ap (λ (ws : List Word). slice_index ws (hook_place hook)) same ∙ found.finds.told

  heard_put : (raised : Bool) → TakesHook s.store (view_of s.board) hook raised t.store (view_of t.board) → Heard s t hook
  heard_put raised h =
      let acts = quiet_acts s.board t.board lawful ((hook_place hook, word_of h.mark) ∷ []) h.found.after_is in
      let put = laws.put s.store t.store (view_of s.board) (view_of t.board) hook raised h in
      let k = hears put.old hook (laws.among put.old hook) in
      let kept : t.store.kept ≡ execs_hearing hook s.store.kept = ap (λ (x : StoreState). x.kept) h.after_is in
      let now = last_noted t.board.past.notes s.board.past.notes (hook_place hook) (word_of h.mark)
      (ap (λ (v : board.View). v.notes) h.found.after_is) in
      let one : IsCovered t.board.past.notes hook.job.0 hook =
      record { of_job = refl; small = small; word = word_of h.mark; noted = now; covers = covers_mark h.mark hook.status h.covered } in
      let A : List Hook → Type 0 = λ hs. AllByRecursion (IsCovered t.board.past.notes hook.job.0) hs in
      let old_covered = covered_all s t o acts.kept hook.job.0 put.old (o.received hook.job.0 put.old put.before) in
      let all : A (with_hook put.old hook) = elim k.put [
        | inl same ↦ subst A (sym same) old_covered
        | inr more ↦ subst A (sym more) (all_append (IsCovered t.board.past.notes hook.job.0) put.old (hook ∷ []) old_covered (one, tt))
      ] in
      let here_is : (heard : List Hook) → hooks_of_job hook.job.0 t.store.kept ≡ Some heard → with_hook put.old hook ≡ heard =
      λ heard e. (let q = sym put.here ∙ e in cc) in
      record {
        acts = acts;
        jobs = ap (λ (x : StoreState). x.jobs) h.after_is;
        limit = ap (λ (x : StoreState). x.limit) h.after_is;
        rows = λ job row e. (let r = hearing_row hook (row_of_job job s.store.kept) row
            (sym (laws.reach hook job s.store.kept) ∙ sym (ap (row_of_job job) kept) ∙ e) in
            o.rows job r.0 r.1 ∙ ap Some r.2);
        covered = λ job heard e. elim (eqb_tells job hook.job.0) [
          | inl q ↦ (let C : ℕ → Type 0 = λ j. hooks_of_job j t.store.kept ≡ Some heard → AllByRecursion (IsCovered t.board.past.notes j) heard in
              subst C (sym q.1) (λ e2. subst A (here_is heard e2) all) e)
          | inr q ↦ covered_all s t o acts.kept job heard (o.received job heard (sym (put.elsewhere job q.1) ∙ e))
        ];
        stay = λ job x heard e has. elim (eqb_tells job hook.job.0) [
          | inl q ↦ (let C : ℕ → Type 0 = λ j. hooks_of_job j t.store.kept ≡ Some heard
              → ((old : List Hook) → hooks_of_job j s.store.kept ≡ Some old → Contains old x) → Contains heard x in
              subst C (sym q.1) (λ e2 has2. subst (λ (hs : List Hook). Contains hs x) (here_is heard e2) (k.stay x (has2 put.old put.before))) e has)
          | inr q ↦ has heard (sym (put.elsewhere job q.1) ∙ e)
        ];
        there = λ covers heard e. subst (λ (hs : List Hook). Contains hs hook) (here_is heard e) k.there;
      }

  made_when : (row : RowState) → row_of_job hook.job.0 s.store.kept ≡ Some row → was_made s.store hook.job.0 ≡ true
  made_when row e =
      let w = spec_within s.made hook.job.0 row.spec (o.rows hook.job.0 row e) in
      let n = o.numbered in
      both hook.job.0 s.store.jobs (omega (arith, w.0)) (omega (arith, w.1, n))
    where
      both : (job jobs : ℕ) → 0 < job → job ≤ jobs → (nat_lt 0 job && nat_le job jobs) ≡ true
      both job jobs a b = grind (arith, nat_tests)

  heard_so : (came : Received) → ReceivesHook s.store (view_of s.board) hook came t.store (view_of t.board) → Heard s t hook
  heard_so received.Unknown h =
      heard_none (still_acts s.board t.board lawful h.2) h.1 (λ covers row e. (let k = sym h.0 ∙ made_when row e in cc))
  heard_so received.Swept h =
      heard_none (still_acts s.board t.board lawful h.3) h.2 (λ covers row e. (let k = sym h.1 ∙ e in cc))
  heard_so (received.Unconfirmed mark) h =
      heard_none (quiet_acts s.board t.board lawful ((hook_place hook, word_of mark) ∷ []) h.found.after_is) h.after_is
      (λ covers row e. h.uncovered (mark_covers mark hook.status
      (subst (λ (w : ℕ). CoveredBy hook.status w) (word_found mark h.found) covers)))
  heard_so received.Raised h = heard_put true h
  heard_so received.Known h = heard_put false h

-- an emitted hook is covered by its word
pub emitted_covered : (s t : CoreState) (hook : Hook) → Keeps (view_of s.board) (view_of t.board) → IsLawful t.board.words t.board.past
    → IsEmitted s.made s.board.past.notes hook → CoveredBy hook.status (slice_index t.board.words (hook_place hook))
emitted_covered s t hook kept lawful e =
    let n = noted_more (view_of s.board) (view_of t.board) kept (hook_place hook) (status_word hook.status) e.noted in
    covers_later hook.status (status_word hook.status) (slice_index t.board.words (hook_place hook)) (covers_itself hook.status)
    (lawful.notes_below (hook_place hook) (status_word hook.status) n)

still_received : (s t : CoreState) (hook : Hook) → Heard s t hook → (k : ℕ) → IsReceived s.hooks s.store k → IsReceived s.hooks t.store k
still_received s t hook h k d = record {
  hook = d.hook;
  is = d.is;
  received = λ heard e. h.stay d.hook.job.0 d.hook heard e d.received;
}

delivered_after : (s t : CoreState) (hook : Hook) (place : Option ℕ) → Holds s → Heard s t hook → IsLawful t.board.words t.board.past
    → Marks s hook place t → (k : ℕ) → was_delivered t.delivered k ≡ true → IsReceived s.hooks t.store k
delivered_after s t hook None o h lawful marks k e =
    still_received s t hook h k (o.delivered k (sym (ap (λ (ms : List Bool). was_delivered ms k) marks) ∙ e))
delivered_after s t hook (Some place) o h lawful marks k e =
    elim (marked s.delivered place k (sym (ap (λ (ms : List Bool). was_delivered ms k) marks.1) ∙ e)) [
      | inl now ↦
          (let is = hook_all (IsEmitted s.made s.board.past.notes) s.hooks (suc place) hook o.emitted marks.0 in
          record {
            hook = hook;
            is = ap (hook_at s.hooks) now ∙ marks.0;
            received = h.there (emitted_covered s t hook h.acts.kept lawful is);
          })
      | inr before ↦ still_received s t hook h k (o.delivered k before)
    ]

pub keeps_receives : (laws : OtherLaws) (s t : CoreState) → Holds s → Receives s t → Holds t
keeps_receives laws s t o r =
    let h = heard_so laws s t o r.hook r.lawful r.small r.came r.receives in
    let kept = h.acts.kept in
    subst (λ (u : CoreState). Holds u) (sym r.after) (record {
      lawful = r.lawful;
      whole = o.whole;
      agrees = laws.others s.turns (view_of s.board) (view_of t.board) o.agrees kept h.acts.opens;
      added = o.added;
      numbered = h.jobs ∙ o.numbered;
      fits = fits_still s t o kept h.limit;
      few = o.few;
      planned = o.planned;
      rows = h.rows;
      lanes = lanes_still s t o kept;
      held = o.held;
      shares = o.shares;
      finals = λ f. let b = sum_finals s.board t.board [] h.acts.finals f in let c = o.finals f in omega (arith, b, c);
      emitted = emitted_all s t o kept;
      received = h.covered;
      delivered = delivered_after s t r.hook r.place o h r.lawful r.marks;
    })

-- ---- all parts

module _ (lane_laws : LaneLaws) (laws : OtherLaws) where
  pub keeps_part : (s t : CoreState) → Holds s → Part s t → Holds t
  keeps_part s t o (makes h) = keeps_makes laws s t o h
  keeps_part s t o (turns h) = keeps_turns laws s t o h
  keeps_part s t o (works h) = keeps_works laws s t o lane_laws h
  keeps_part s t o (stops h) = keeps_stops laws s t o h
  keeps_part s t o (receives h) = keeps_receives laws s t o h
  keeps_part s t o (passes h) = keeps_passes laws s t o h

  pub keeps_parts : (s t : CoreState) → Holds s → Parts s t → Holds t
  keeps_parts s _ o (none _) = o
  keeps_parts s t o (next _ m _ p ps) = keeps_parts m t (keeps_part s m o p) ps
