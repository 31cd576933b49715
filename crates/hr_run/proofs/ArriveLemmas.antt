-- What can be copied arrives: after events that stop nothing, all is over, nothing was stopped, and an
-- error is want of memory.
use Rattle.std.proofs.Common.{◌≡◌, ◌≢◌, ◌⊎◌, inl, inr, refl, sym, ap, subst, ◌∙◌, zero, suc, ℕ, ◌+◌, ◌<◌, ◌≤◌, List, [], ◌∷◌, length, slice_get, arith}
use Rattle.std.proofs.lemmas.Bool.{cases_lt}
use Rattle.std.specs.List.{AllByRecursion, Contains}
use Rattle.std.specs.Prelude.{Option, Some, None}
use Rattle.hr_base.specs.Merge.{joined}
use Rattle.hr_base.specs.declared.status.Status.{Status}
use Rattle.hr_base.specs.declared.status.Status.TheVariants as status
use Rattle.hr_event.specs.declared.cause.Cause.{Cause}
use Rattle.hr_event.specs.declared.entry.Entry.{Entry}
use Rattle.hr_event.specs.declared.entry.What.TheVariants as what
use Rattle.hr_event.specs.declared.task.TaskSpec.{TaskSpec}
use Rattle.hr_board.specs.Current.{IsCurrent}
use Rattle.hr_board.specs.View.{place_of}
use Rattle.hr_line.specs.State.{State}
use Rattle.hr_line.specs.declared.held.Admitted.{Admitted}
use Rattle.hr_store.specs.Row.{RowState, row_status}
use Rattle.hr_store.specs.Store.{row_of_job}
use Rattle.hr_whole.specs.Copied.{EndsWell}
use Rattle.hr_promise.specs.Arrives.{TaskCanArrive}
use Rattle.hr_run.specs.Arrives.{AllArrived, Arrives, LanesCanCopy, LanesHaveSource, WantedMemory}
use Rattle.hr_run.specs.Claims.{AllDone, LanesHold, OneEach, word_at}
use Rattle.hr_run.specs.State.{CoreState, spec_of, status_word}
use Rattle.hr_run.proofs.CopiedLemmas.{end_of, ended_at}
use Rattle.hr_run.proofs.DoneLemmas.{final_hook, over_at}
use Rattle.hr_run.proofs.JoinLemmas.{word_status}
use Rattle.hr_run.proofs.ListLemmas.{all_at, all_member, all_then, get_at, get_within}
use Rattle.hr_run.proofs.MarkLemmas.{attempts_each}
use Rattle.hr_run.proofs.RowLemmas.{row_heard}
use Rattle.hr_run.proofs.SourceLemmas.{any_copied, any_unfailing, lanes_source, sources_in, spec_has}
use Rattle.hr_run.proofs.WellLemmas.{IsUnstopped}
use Rattle.hr_run.proofs.EndedLemmas.{Ended}
use Rattle.hr_run.proofs.SuccessLemmas.{execs_each, row_found}

-- ---- each job succeeded at once, or memory was wanting

wanting_by : (a : Admitted) (lane : State) (lanes : List State) → Contains lanes lane → (e : Entry) → Contains lane.log e → (st : Status)
    (why : Option Cause) → e.what ≡ what.Ended st why → status_word st ≡ 5 → EndsWell a lane.log st why → WantedMemory lanes
wanting_by a lane lanes there e logged st None says five well = absurd (let k = ap status_word well.0 in omega (arith, five, k))
wanting_by a lane lanes there e logged st (Some why) says five well = record {
  lane = lane;
  there = there;
  ran_out = record { entry = e; logged = logged; status = st; says = says ∙ ap (λ (c : Cause). what.Ended st (Some c)) well.1 };
}

module _ (opened : List State) (specs : List TaskSpec) (each : AllByRecursion (LanesCanCopy opened) specs) (t : CoreState)
    (end : Ended (LanesCanCopy opened) specs each t) (done : AllDone t) (one_each : OneEach t) (keep : LanesHold opened t.lanes)
    (count : length t.lanes ≡ length opened) where
  made_source : AllByRecursion (LanesHaveSource opened) t.made
  made_source = all_then (LanesCanCopy opened) (LanesHaveSource opened) (lanes_source opened) t.made end.well.made

  -- the lane that was opened at the place of one
  opened_at : (place : ℕ) (xs ys : List State) → length ys ≡ length xs → place < length ys → (lane : State) × (slice_get xs place ≡ Some lane)
  opened_at place [] ys same less = absurd (omega (arith, same, less))
  opened_at zero (x ∷ xs) ys same less = (x, refl)
  opened_at (suc place) (x ∷ xs) [] same less = absurd (omega (arith, less))
  opened_at (suc place) (x ∷ xs) (y ∷ ys) same less = opened_at place xs ys (omega (arith, same)) (omega (arith, less))

  -- an error is want of memory
  wanting : (place : ℕ) → word_at t.board place ≡ 5 → WantedMemory t.lanes
  wanting place five =
      let w = word_at t.board place in
      let e = ended_at t one_each place (omega (arith, five)) in
      let of = end_of t end.holds place w e in
      let at = (e.there).0 in
      let here = get_at t.lanes at e.lane (e.there).1 (e.there).2 in
      let first = opened_at at opened t.lanes count (e.there).1 in
      let can = all_at (λ (l : State). TaskCanArrive l (of.by).spec) opened at first.0
      (spec_has (LanesCanCopy opened) t.made (of.by).job.0 (of.by).spec end.well.made of.task.copies) first.1 in
      let word = e.at_word in
      wanting_by of.by e.lane t.lanes e.there e.entry e.logged e.status e.why e.says (omega (arith, word, five))
      ((keep at first.0 e.lane first.1 here).copied e.entry of.by can.from can.to e.status e.why
      (any_copied first.0 of.by can.from can.to can.copied) (any_unfailing first.0 of.by can.unfailing) can.one_text
      (sources_in opened t end.holds made_source at first.0 e.lane first.1 here)
      (record { logged = e.logged; by = of.admitted; says = e.says }))

  -- nothing was stopped
  unstopped : (place : ℕ) → word_at t.board place ≡ 4 → ⊥
  unstopped place four =
      let k = final_hook t end.holds place (omega (arith, four)) in
      let ok = all_member IsUnstopped t.hooks k.hook end.well.hooks k.there in
      ok (k.at_word ∙ four)

  -- where a later revision is open, the first one ended with an error
  first_error : (job n : ℕ) → n < 3 → word_at t.board (place_of job (n + 1)) ≢ 0 → word_at t.board (place_of job 0) ≡ 5
  first_error job zero less open_ = end.holds.lawful.opened_after_error job 0 less open_
  first_error job (suc n) less open_ =
      let before = end.holds.lawful.opened_after_error job (suc n) less open_ in
      let next : word_at t.board (place_of job (n + 1)) ≡ 5 =
      ap (λ (k : ℕ). word_at t.board (place_of job k)) (let e : n + 1 ≡ suc n = omega arith in e) ∙ before in
      first_error job n (omega (arith, less)) (λ z. omega (arith, z, next))

  abbrev Came : ℕ → Type 0
  Came job = (word_at t.board (place_of job 0) ≡ 6) ⊎ WantedMemory t.lanes

  came_final : (word : ℕ) → 4 ≤ word → word ≤ 6 → (word ≡ 4) ⊎ ((word ≡ 5) ⊎ (word ≡ 6))
  came_final word low high = elim (cases_lt word 5) [
    | inl four ↦ inl (omega (arith, four, low))
    | inr more ↦ elim (cases_lt word 6) [
      | inl five ↦ inr (inl (omega (arith, five, more)))
      | inr six ↦ inr (inr (omega (arith, six, high)))
    ]
  ]

  came_at : (job rev word : ℕ) → rev < 4 → word_at t.board (place_of job rev) ≡ word → 4 ≤ word → word ≤ 6 → Came job
  came_at job zero word small is low high = elim (came_final word low high) [
    | inl four ↦ absurd (unstopped (place_of job 0) (is ∙ four))
    | inr (inl five) ↦ inr (wanting (place_of job 0) (is ∙ five))
    | inr (inr six) ↦ inl (is ∙ six)
  ]
  came_at job (suc n) word small is low high =
      let at : word_at t.board (place_of job (n + 1)) ≡ word =
      ap (λ (k : ℕ). word_at t.board (place_of job k)) (let e : n + 1 ≡ suc n = omega arith in e) ∙ is in
      inr (wanting (place_of job 0) (first_error job n (omega (arith, small)) (λ z. omega (arith, z, at, low))))

  came : (job : ℕ) (spec : TaskSpec) → spec_of t.made job ≡ Some spec → Came job
  came job spec is =
      let over = done.over job spec is in
      let at = over_at t end.holds job spec is over.row over.current over.ends in
      let valid = end.holds.lawful.valid_word (place_of job (over.row).0) in
      came_at job (over.row).0 (word_at t.board (place_of job (over.row).0)) at.within refl
      (let w = at.word in let f = at.final in omega (arith, w, f)) valid

  abbrev All : List TaskSpec → ℕ → Type 0
  All made before = (place : ℕ) (spec : TaskSpec) → slice_get made place ≡ Some spec
      → word_at t.board (place_of (before + place + 1) 0) ≡ 6

  -- all of them, or one that memory was wanting for
  all_or_one : (made : List TaskSpec) (before : ℕ)
      → ((place : ℕ) (spec : TaskSpec) → slice_get made place ≡ Some spec → Came (before + place + 1)) → All made before ⊎ WantedMemory t.lanes
  all_or_one [] before has = inl (λ place spec is. absurd (let l = get_within [] place spec is in omega (arith, l)))
  all_or_one (x ∷ made) before has = elim (has 0 x refl) [
    | inr short ↦ inr short
    | inl first ↦ elim (all_or_one made (suc before) (λ place spec is.
        subst Came (let e : before + suc place + 1 ≡ suc before + place + 1 = omega arith in e) (has (suc place) spec is))) [
          | inr short ↦ inr short
          | inl rest ↦ inl (by first rest)
        ]
  ]
    where
      by : word_at t.board (place_of (before + 0 + 1) 0) ≡ 6 → All made (suc before) → All (x ∷ made) before
      by first rest zero spec is = first
      by first rest (suc place) spec is =
          ap (λ (k : ℕ). word_at t.board (place_of k 0)) (let e : before + suc place + 1 ≡ suc before + place + 1 = omega arith in e)
          ∙ rest place spec is

  -- ---- each execution succeeded

  module _ (words : (job : ℕ) (spec : TaskSpec) → spec_of t.made job ≡ Some spec → word_at t.board (place_of job 0) ≡ 6) where
    current_success : (job count : ℕ) (row : ℕ × Status) → word_at t.board (place_of job 0) ≡ 6 → 1 ≤ count → count ≤ 4
        → IsCurrent t.board.words job count row → row.1 ≡ status.Success
    current_success job count row six some few (inr none) = absurd (let z = none.0 0 (omega arith) some in omega (arith, z, six))
    current_success job count row six some few (inl last) = by row.0 refl
      where
        by : (rev : ℕ) → row.0 ≡ rev → row.1 ≡ status.Success
        by zero is =
            let w : word_at t.board (place_of job 0) ≡ status_word row.1 =
            ap (λ (k : ℕ). word_at t.board (place_of job k)) (sym is) ∙ last.word in
            word_status row.1 status.Success (omega (arith, w, six)) (sym w ∙ six)
        by (suc n) is = absurd (
            let within = last.within in
            let w = last.word in
            let at : word_at t.board (place_of job (n + 1)) ≡ status_word row.1 =
            ap (λ (k : ℕ). word_at t.board (place_of job k)) (let e : n + 1 ≡ row.0 = omega (arith, is) in e) ∙ w in
            let open_ = word_open row.1 in
            let five = first_error job n (omega (arith, within, few, is)) (λ z. omega (arith, z, at, open_)) in
            omega (arith, five, six))
          where
            word_open : (st : Status) → 1 ≤ status_word st
            word_open status.Pending = omega arith
            word_open status.Scheduled = omega arith
            word_open status.Running = omega arith
            word_open status.Stopped = omega arith
            word_open status.Error = omega arith
            word_open status.Success = omega arith

    row_success : (job : ℕ) (row : RowState) → row_of_job job t.store.kept ≡ Some row → row_status row ≡ status.Success
    row_success job row is =
        let copies = end.holds.rows job row is in
        let few = attempts_each t.made job row.spec end.holds.few copies in
        current_success job row.spec.attempts (joined row.received) (words job row.spec copies) few.0 few.1
        (done.current job row.spec row.received copies (row_heard job t.store.kept row is))

-- ---- all together

pub arrived : (opened : List State) (specs : List TaskSpec) (each : AllByRecursion (LanesCanCopy opened) specs) (t : CoreState)
    → Ended (LanesCanCopy opened) specs each t → AllDone t → OneEach t → LanesHold opened t.lanes → length t.lanes ≡ length opened → Arrives t
arrived opened specs each t end done one_each keep count =
    elim (all_or_one opened specs each t end done one_each keep count t.made 0 (λ place spec is.
    came opened specs each t end done one_each keep count (0 + place + 1) spec
    (ap (λ (k : ℕ). spec_of t.made k) (let e : 0 + place + 1 ≡ suc place = omega arith in e) ∙ is))) [
      | inr short ↦ inr short
      | inl all ↦ inl (by (λ job spec is. word job spec is all))
    ]
  where
    word : (job : ℕ) (spec : TaskSpec) → spec_of t.made job ≡ Some spec
        → ((place : ℕ) (spec : TaskSpec) → slice_get t.made place ≡ Some spec → word_at t.board (place_of (0 + place + 1) 0) ≡ 6)
        → word_at t.board (place_of job 0) ≡ 6
    word zero spec is all = absurd (cc)
    word (suc place) spec is all =
        ap (λ (k : ℕ). word_at t.board (place_of k 0)) (let e : suc place ≡ 0 + place + 1 = omega arith in e) ∙ all place spec is

    by : ((job : ℕ) (spec : TaskSpec) → spec_of t.made job ≡ Some spec → word_at t.board (place_of job 0) ≡ 6) → AllArrived t
    by words = record {
      words = words;
      execs = execs_each t.store.kept end.well.execs (λ exec c row there.
          row_success opened specs each t end done one_each keep count words row.job row
          (row_found 0 0 t.store.kept exec row end.sound.ordered c there));
    }
