-- Lemmas on the words of specs/Whole.antt: each move of a turn keeps every job in one list.
use Rattle.std.proofs.Common.{◌≡◌, ℕ, ◌+◌, ◌<◌, ◌≤◌, Bool, true, false, cond, List, [], ◌∷◌, ◌++◌, length, refl, sym, ap, ◌∙◌, subst, arith, eq-eqb, inl, inr}
use Rattle.std.proofs.lemmas.Bool.Decides.{eqb_tells}
use Rattle.std.proofs.lemmas.List.Elements.{All-from_recursion, Contains-append_left, Contains-push}
use Rattle.std.proofs.lemmas.List.Sorted.{sum_by_popped, sum_by_pushed}
use Rattle.std.proofs.lemmas.List.Sums.{sum_by-insert, sum_by-remove, sum_by-cons, sum_by_push}
use Rattle.std.specs.List.{AllByRecursion, remove}
use Rattle.std.specs.List.Sorted.{IsPermutation}
use Rattle.std.specs.Prelude.{nat_eq}
use Rattle.hr_base.specs.declared.status.Status.{Status}
use Rattle.hr_event.specs.declared.task.Turn.{Turn}
use Rattle.hr_queue.specs.declared.answer.DoneJob.{DoneJob}
use Rattle.hr_queue.specs.declared.answer.Queued.{Queued}
use Rattle.hr_queue.specs.declared.delayed.Delayed.{Delayed}
use Rattle.hr_queue.specs.Adding.{first_turn}
use Rattle.hr_queue.specs.ByJob.{rank, with_turn, without_job}
use Rattle.hr_queue.specs.declared.rows.Row.{Row}
use Rattle.hr_queue.specs.Room.{HasRows}
use Rattle.hr_queue.specs.Rows.{SameJobs, times_row}
use Rattle.hr_queue.specs.Settling.{back_of, done_of}
use Rattle.hr_queue.specs.Taking.{IsDue}
use Rattle.hr_queue.specs.View.{View, turn_of, job_of, times_in, times_delayed, times_added}
use Rattle.hr_queue.specs.Whole.{IsTurn, IsAdded, HoldEach}
use Rattle.hr_queue.proofs.ByJobLemmas.{StandsAt, rising-insert, rising-remove}
use Rattle.hr_queue.proofs.ListLemmas.{all-insert, all-remove, all-push, all-weaker, all-permuted, once}

-- how much a turn, a delayed one, a done job and an added one add to the count of a job
abbrev weight : ℕ → Turn → ℕ
weight job t = cond (nat_eq t.job.0 job) 1 0

abbrev weight_delayed : ℕ → Delayed → ℕ
weight_delayed job d = cond (nat_eq (job_of d) job) 1 0

abbrev weight_done : ℕ → DoneJob → ℕ
weight_done job d = cond (nat_eq d.job.0 job) 1 0

abbrev weight_added : ℕ → Queued → ℕ
weight_added job a = cond (nat_eq a.job.0 job) 1 0

abbrev one_if : Bool → ℕ
one_if b = cond b 1 0

one_at_most : (b : Bool) → one_if b ≤ 1
one_at_most true = omega arith
one_at_most false = omega arith

weight-self : (t : Turn) → weight t.job.0 t ≡ 1
weight-self t = ap one_if (eq-eqb t.job.0 t.job.0 refl)

-- what holds of all delayed turns holds of the one that is due, and of those that are left
due_all : (P : Turn → Type 0) (now : ℕ) (delayed left : List Delayed) (t : Turn)
    → AllByRecursion (λ d. P (turn_of d)) delayed → IsDue now delayed t left
    → P t × AllByRecursion (λ d. P (turn_of d)) left
due_all P now delayed left t all due =
    let Q : Delayed → Type 0 = λ d. P (turn_of d) in
    let both : AllByRecursion Q (due.due ∷ left) =
    all-permuted Q delayed (due.due ∷ left) due.rest all in
    (subst P (sym due.is) both.0, both.1)

first_all : (P : Turn → Type 0) (waiting left : List Turn) (t : Turn) → AllByRecursion P waiting
    → waiting ≡ t ∷ left → P t × AllByRecursion P left
first_all P waiting left t all is =
    let Q : List Turn → Type 0 = λ ts. AllByRecursion P ts in
    let both : AllByRecursion P (t ∷ left) = subst Q is all in
    (both.0, both.1)

module _ (waiting : List Turn) (delayed : List Delayed) (out : List Turn) (done : List DoneJob)
    (added : List Queued) where
  due_count : (now : ℕ) (left : List Delayed) (t : Turn) (job : ℕ) → IsDue now delayed t left
      → times_delayed left job + weight job t ≡ times_delayed delayed job
  due_count now left t job due =
      let counts = sum_by_popped (weight_delayed job) due.due delayed left due.rest in
      let here = ap (weight job) due.is in
      omega (arith, counts, here)

  -- the turn that is due is one that a queue may hold
  pub due_turn : (now : ℕ) (left : List Delayed) (t : Turn)
      → HoldEach waiting delayed out done added → IsDue now delayed t left → IsTurn t
  due_turn now left t whole due = (due_all IsTurn now delayed left t whole.turns.delays due).0

  -- and no turn of its job is out
  pub due_new : (now : ℕ) (t : Turn) (left : List Delayed)
      → HoldEach waiting delayed out done added → IsDue now delayed t left
      → times_in out t.job.0 ≡ 0
  due_new now t left whole due =
      let counts = due_count now left t t.job.0 due in
      let one = weight-self t in
      let all = whole.once t.job.0 in
      let few = whole.distinct t.job.0 in
      omega (arith, counts, one, all, few)

  -- and its job has a row
  pub due_known : (now : ℕ) (t : Turn) (left : List Delayed) (rows : List Row) (jobs : ℕ)
      → HoldEach waiting delayed out done added → IsDue now delayed t left
      → HasRows rows added jobs → 1 ≤ times_row rows t.job.0
  due_known now t left rows jobs whole due has =
      let known = (due_all (IsAdded added) now delayed left t whole.known.delays due).0 in
      let one = once added (record { job = t.job; attempts = t.attempts }) whole.distinct known in
      let rows_of = has.each t.job.0 in omega (arith, one, rows_of)

  pub whole_due : (now : ℕ) (t : Turn) (left : List Delayed) (outs : List Turn)
      → HoldEach waiting delayed out done added → IsDue now delayed t left
      → outs ≡ with_turn out t → HoldEach waiting left outs done added
  whole_due now t left outs whole due is =
      let new = due_new now t left whole due in
      let turns = due_all IsTurn now delayed left t whole.turns.delays due in
      let known = due_all (IsAdded added) now delayed left t whole.known.delays due in
      rw is (record {
        turns = record {
          waits = whole.turns.waits;
          delays = turns.1;
          outs = all-insert IsTurn out (rank t.job.0 out) t whole.turns.outs turns.0;
          rising = rising-insert t out whole.turns.rising new;
        };
        known = record {
          waits = whole.known.waits;
          delays = known.1;
          outs = all-insert (IsAdded added) out (rank t.job.0 out) t whole.known.outs known.0;
        };
        once = λ job.
            let all = whole.once job in
            let counts = due_count now left t job due in
            let more = sum_by-insert (weight job) out (rank t.job.0 out) t in
            omega (arith, all, counts, more);
        distinct = whole.distinct;
      })

  first_count : (t : Turn) (left : List Turn) (job : ℕ) → waiting ≡ t ∷ left
      → times_in left job + weight job t ≡ times_in waiting job
  first_count t left job is =
      let counts = sum_by-cons (weight job) t left in
      let C : List Turn → ℕ = λ ts. times_in ts job in
      let same = ap C is in
      omega (arith, counts, same)

  -- the first waiting turn is one that a queue may hold
  pub first_sound : (t : Turn) (left : List Turn) → HoldEach waiting delayed out done added
      → waiting ≡ t ∷ left → IsTurn t
  first_sound t left whole is = (first_all IsTurn waiting left t whole.turns.waits is).0

  -- and no turn of its job is out
  pub first_new : (t : Turn) (left : List Turn) → HoldEach waiting delayed out done added
      → waiting ≡ t ∷ left → times_in out t.job.0 ≡ 0
  first_new t left whole is =
      let counts = first_count t left t.job.0 is in
      let one = weight-self t in
      let all = whole.once t.job.0 in
      let few = whole.distinct t.job.0 in
      omega (arith, counts, one, all, few)

  -- and its job has a row
  pub first_known : (t : Turn) (left : List Turn) (rows : List Row) (jobs : ℕ)
      → HoldEach waiting delayed out done added → waiting ≡ t ∷ left → HasRows rows added jobs
      → 1 ≤ times_row rows t.job.0
  first_known t left rows jobs whole is has =
      let known = (first_all (IsAdded added) waiting left t whole.known.waits is).0 in
      let one = once added (record { job = t.job; attempts = t.attempts }) whole.distinct known in
      let rows_of = has.each t.job.0 in omega (arith, one, rows_of)

  pub whole_first : (t : Turn) (left outs : List Turn) → HoldEach waiting delayed out done added
      → waiting ≡ t ∷ left → outs ≡ with_turn out t → HoldEach left delayed outs done added
  whole_first t left outs whole first is =
      let new = first_new t left whole first in
      let turns = first_all IsTurn waiting left t whole.turns.waits first in
      let known = first_all (IsAdded added) waiting left t whole.known.waits first in
      rw is (record {
        turns = record {
          waits = turns.1;
          delays = whole.turns.delays;
          outs = all-insert IsTurn out (rank t.job.0 out) t whole.turns.outs turns.0;
          rising = rising-insert t out whole.turns.rising new;
        };
        known = record {
          waits = known.1;
          delays = whole.known.delays;
          outs = all-insert (IsAdded added) out (rank t.job.0 out) t whole.known.outs known.0;
        };
        once = λ job.
            let all = whole.once job in
            let counts = first_count t left job first in
            let more = sum_by-insert (weight job) out (rank t.job.0 out) t in
            omega (arith, all, counts, more);
        distinct = whole.distinct;
      })

  -- a turn that is out is one that a queue may hold, of an added job
  pub out_turn : (at : ℕ) (t : Turn) → HoldEach waiting delayed out done added
      → StandsAt out t at → IsTurn t
  out_turn at t whole stands =
      subst IsTurn (sym stands.is) (All-from_recursion IsTurn out whole.turns.outs at t stands.within)

  pub out_added : (at : ℕ) (t : Turn) → HoldEach waiting delayed out done added
      → StandsAt out t at → IsAdded added t
  out_added at t whole stands = subst (IsAdded added) (sym stands.is)
      (All-from_recursion (IsAdded added) out whole.known.outs at t stands.within)

  left_count : (at : ℕ) (t : Turn) (job : ℕ) → StandsAt out t at
      → times_in (remove out at) job + weight job t ≡ times_in out job
  left_count at t job stands =
      let counts = sum_by-remove (weight job) out at t stands.within in
      let here = ap (weight job) stands.is in
      omega (arith, counts, here)

  pub whole_back : (at : ℕ) (t : Turn) (waits outs : List Turn)
      → HoldEach waiting delayed out done added → StandsAt out t at → outs ≡ remove out at
      → waits ≡ waiting ++ t ∷ [] → HoldEach waits delayed outs done added
  whole_back at t waits outs whole stands is more = rw (is, more) (record {
    turns = record {
      waits = all-push IsTurn waiting t whole.turns.waits (out_turn at t whole stands);
      delays = whole.turns.delays;
      outs = all-remove IsTurn out at whole.turns.outs;
      rising = rising-remove out at whole.turns.rising;
    };
    known = record {
      waits = all-push (IsAdded added) waiting t whole.known.waits (out_added at t whole stands);
      delays = whole.known.delays;
      outs = all-remove (IsAdded added) out at whole.known.outs;
    };
    once = λ job.
        let all = whole.once job in
        let left = left_count at t job stands in
        let back = sum_by_push (weight job) waiting t in
        omega (arith, all, left, back);
    distinct = whole.distinct;
  })

  pub whole_done : (at : ℕ) (t : Turn) (rev : ℕ) (status : Status) (ends : List DoneJob)
      (outs : List Turn) → HoldEach waiting delayed out done added → StandsAt out t at
      → outs ≡ remove out at → ends ≡ done ++ record { job = t.job; rev = rev; status = status } ∷ []
      → HoldEach waiting delayed outs ends added
  whole_done at t rev status ends outs whole stands is more = rw (is, more) (record {
    turns = record {
      waits = whole.turns.waits;
      delays = whole.turns.delays;
      outs = all-remove IsTurn out at whole.turns.outs;
      rising = rising-remove out at whole.turns.rising;
    };
    known = record {
      waits = whole.known.waits;
      delays = whole.known.delays;
      outs = all-remove (IsAdded added) out at whole.known.outs;
    };
    once = λ job.
        let all = whole.once job in
        let left = left_count at t job stands in
        let over =
        sum_by_push (weight_done job) done (record { job = t.job; rev = rev; status = status }) in
        omega (arith, all, left, over);
    distinct = whole.distinct;
  })

  pub whole_again : (at : ℕ) (t : Turn) (one : Delayed) (delays : List Delayed) (outs : List Turn)
      → HoldEach waiting delayed out done added → StandsAt out t at → t.rev + 1 < t.attempts
      → turn_of one ≡ record t { rev = t.rev + 1 } → outs ≡ remove out at
      → IsPermutation (one ∷ delayed) delays → HoldEach waiting delays outs done added
  whole_again at t one delays outs whole stands left same is more =
      let good = out_turn at t whole stands in
      let turn : IsTurn (turn_of one) =
      subst IsTurn (sym same) (record { job = good.job; rev = left; attempts = good.attempts }) in
      let known : IsAdded added (turn_of one) =
      subst (IsAdded added) (sym same) (out_added at t whole stands) in
      rw is (record {
        turns = record {
          waits = whole.turns.waits;
          delays = all-permuted (λ d. IsTurn (turn_of d)) (one ∷ delayed) delays more
              (turn, whole.turns.delays);
          outs = all-remove IsTurn out at whole.turns.outs;
          rising = rising-remove out at whole.turns.rising;
        };
        known = record {
          waits = whole.known.waits;
          delays = all-permuted (λ d. IsAdded added (turn_of d)) (one ∷ delayed) delays more
              (known, whole.known.delays);
          outs = all-remove (IsAdded added) out at whole.known.outs;
        };
        once = λ job.
            let all = whole.once job in
            let gone = left_count at t job stands in
            let again = sum_by_pushed (weight_delayed job) one delayed delays more in
            let here = ap (weight job) same in
            omega (arith, all, gone, again, here);
        distinct = whole.distinct;
      })

  -- a new job goes to the end of the waiting ones
  pub whole_add : (job : Queued) (waits : List Turn) (adds : List Queued)
      → HoldEach waiting delayed out done added → times_added added job.job.0 ≡ 0
      → IsTurn (first_turn job) → waits ≡ waiting ++ first_turn job ∷ [] → adds ≡ added ++ job ∷ []
      → HoldEach waits delayed out done adds
  whole_add job waits adds whole new good is more = rw (is, more) (
      let all_added = added ++ job ∷ [] in
      let still : (t : Turn) → IsAdded added t → IsAdded all_added t = λ t known.
      Contains-append_left added (job ∷ []) (record { job = t.job; attempts = t.attempts }) known in
      record {
        turns = record {
          waits = all-push IsTurn waiting (first_turn job) whole.turns.waits good;
          delays = whole.turns.delays;
          outs = whole.turns.outs;
          rising = whole.turns.rising;
        };
        known = record {
          waits = all-push (IsAdded all_added) waiting (first_turn job)
              (all-weaker (IsAdded added) (IsAdded all_added) still waiting whole.known.waits)
              (Contains-push added job);
          delays = all-weaker (λ d. IsAdded added (turn_of d)) (λ d. IsAdded all_added (turn_of d))
              (λ d known. still (turn_of d) known) delayed whole.known.delays;
          outs = all-weaker (IsAdded added) (IsAdded all_added) still out whole.known.outs;
        };
        once = λ number.
            let all = whole.once number in
            let waits_more = sum_by_push (weight number) waiting (first_turn job) in
            let added_more = sum_by_push (weight_added number) added job in
            omega (arith, all, waits_more, added_more);
        distinct = λ number.
            let added_more = sum_by_push (weight_added number) added job in
            let few = whole.distinct number in
            elim (eqb_tells job.job.0 number) [
              | inl same ↦ (
                  let count : ℕ → ℕ = times_added added in
                  let none = ap count same.1 in
                  let one = one_at_most (nat_eq job.job.0 number) in
                  omega (arith, added_more, none, new, one))
              | inr other ↦ (let zero_here = ap one_if other.0 in omega (arith, added_more, few, zero_here))
            ];
      })

-- rows of the same jobs are those of the added jobs still
pub rows_same : (rows after : List Row) (added : List Queued) (jobs : ℕ) → SameJobs rows after
    → HasRows rows added jobs → HasRows after added jobs
rows_same rows after added jobs same has = record {
  count = same.len ∙ has.count;
  each = λ job. same.each job ∙ has.each job;
}

-- and with a row for one more
pub rows_add : (rows after : List Row) (added adds : List Queued) (jobs : ℕ) (job : Queued)
    → HasRows rows added jobs → adds ≡ added ++ job ∷ [] → length after ≡ length rows + 1
    → ((n : ℕ) → times_row after n ≡ times_row rows n + cond (nat_eq job.job.0 n) 1 0)
    → HasRows after adds (jobs + 1)
rows_add rows after added adds jobs job has is len each = rw is (record {
  count = (let count = has.count in omega (arith, len, count));
  each = λ n.
      let more = sum_by_push (weight_added n) added job in
      let old = has.each n in
      let now = each n in
      omega (arith, more, old, now);
})

-- the queue after each way in which a turn comes back
pub back_is : (q : View) (t : Turn) (at : ℕ) (waits outs : List Turn) → StandsAt q.out t at
    → outs ≡ remove q.out at → waits ≡ q.waiting ++ t ∷ []
    → record q { waiting = waits; out = outs } ≡ back_of q t
back_is q t at waits outs stands is more =
    let V : List Turn → List Turn → View = λ a b. record q { waiting = a; out = b } in
    let R : ℕ → List Turn = λ i. remove q.out i in
    ap (λ (a : List Turn). V a outs) more
    ∙ ap (λ (b : List Turn). V (q.waiting ++ t ∷ []) b) (is ∙ ap R stands.place)

pub done_is : (q : View) (t : Turn) (at rev : ℕ) (status : Status) (ends : List DoneJob)
    (outs : List Turn) → StandsAt q.out t at → outs ≡ remove q.out at
    → ends ≡ q.done ++ record { job = t.job; rev = rev; status = status } ∷ []
    → record q { done = ends; out = outs } ≡ done_of q t rev status
done_is q t at rev status ends outs stands is more =
    let V : List DoneJob → List Turn → View = λ a b. record q { done = a; out = b } in
    let R : ℕ → List Turn = λ i. remove q.out i in
    let over : DoneJob = record { job = t.job; rev = rev; status = status } in
    ap (λ (a : List DoneJob). V a outs) more
    ∙ ap (λ (b : List Turn). V (q.done ++ over ∷ []) b) (is ∙ ap R stands.place)

abbrev view_with : List Turn → List Delayed → List DoneJob → List Queued → ℕ → List Turn → View
view_with waiting delayed done added spare out = record {
  waiting = waiting;
  delayed = delayed;
  out = out;
  done = done;
  added = added;
  spare = spare;
}

pub again_is : (waiting out : List Turn) (done : List DoneJob) (added : List Queued) (spare : ℕ)
    (t : Turn) (at : ℕ) (delays : List Delayed) (outs : List Turn) → StandsAt out t at
    → outs ≡ remove out at → view_with waiting delays done added spare outs
    ≡ view_with waiting delays done added spare (without_job out t.job.0)
again_is waiting out done added spare t at delays outs stands is =
    let R : ℕ → List Turn = λ i. remove out i in
    ap (view_with waiting delays done added spare) (is ∙ ap R stands.place)
