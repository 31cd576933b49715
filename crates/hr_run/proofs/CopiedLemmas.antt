-- What succeeded was copied: a row at Success has its word, its word an entry of a lane, and the entry
-- the tags that were finished.
use Rattle.std.proofs.Common.{◌≡◌, inl, inr, refl, sym, ap, subst, ◌∙◌, zero, suc, ℕ, ◌≤◌, Bool, true, false, cond, ◌&&◌, ◌||◌, List, [], ◌∷◌, arith}
use Rattle.std.proofs.lemmas.Bool.Decides.{nat_tests}
use Rattle.std.specs.List.{AllByRecursion, Contains, list_any}
use Rattle.std.specs.Prelude.{Option, Some, None, IfSome, IsSome, if◌then◌else◌, nat_eq, nat_le}
use Rattle.hr_base.specs.Merge.{joined}
use Rattle.hr_base.specs.declared.status.Status.{Status}
use Rattle.hr_base.specs.declared.status.Status.TheVariants as status
use Rattle.hr_event.specs.declared.cause.Cause.{Cause}
use Rattle.hr_event.specs.declared.entry.Entry.{Entry}
use Rattle.hr_event.specs.declared.entry.What.{What}
use Rattle.hr_event.specs.declared.entry.What.TheVariants as what
use Rattle.hr_event.specs.declared.task.TaskSpec.{TaskSpec}
use Rattle.hr_event.specs.declared.view.ExecStatus.TheVariants as stands
use Rattle.hr_board.specs.Plain.{view_of}
use Rattle.hr_board.specs.View.{Place, Word, place_of}
use Rattle.hr_line.specs.Finals.{EndHolds, IsFinished, SaysEnd}
use Rattle.hr_line.specs.Hooks.{hook_from}
use Rattle.hr_line.specs.Orderly.{admitted_at}
use Rattle.hr_line.specs.State.{State}
use Rattle.hr_line.specs.declared.held.Admitted.{Admitted}
use Rattle.hr_store.specs.Execution.{ExecState, any_at, is_error, is_stopped, is_unfinished, status_by}
use Rattle.hr_store.specs.Row.{RowState, row_status}
use Rattle.hr_store.specs.Store.{row_among, row_of_job}
use Rattle.hr_run.specs.Arrives.{ExecsSucceed, IsTaskCopied, Succeeds}
use Rattle.hr_run.specs.Claims.{OneEach, ends_at, word_at}
use Rattle.hr_run.specs.Holds.{Holds, IsServing, IsTask}
use Rattle.hr_run.specs.State.{CoreState, spec_of, status_word}
use Rattle.hr_run.specs.Weight.{at, entry_weight, final_weight, one_if, some_weight}
use Rattle.hr_run.proofs.DoneLemmas.{same_place}
use Rattle.hr_run.proofs.LaneLemmas.{admitted_has}
use Rattle.hr_run.proofs.ListLemmas.{all_member, sum_some, there_first, there_later}
use Rattle.hr_run.proofs.MarkLemmas.{spec_within}
use Rattle.hr_run.proofs.RowLemmas.{first_cases}
use Rattle.hr_run.proofs.SourceLemmas.{admitted_own}
use Rattle.hr_run.proofs.TellLemmas.{row_told}

-- ---- an execution that succeeded

-- the plan was made, and no row is at anything but Success
pub record AtSuccess (failed : Bool) (rows : List RowState) : Type 0 where
  pub planned : failed ≡ false
  pub finished : any_at is_unfinished rows ≡ false
  pub no_error : any_at is_error rows ≡ false
  pub no_stop : any_at is_stopped rows ≡ false

pub at_success : (failed : Bool) (rows : List RowState) → status_by failed rows ≡ stands.Succeed → AtSuccess failed rows
at_success true rows is = absurd (cc)
at_success false rows is = by (any_at is_unfinished rows) (any_at is_error rows) (any_at is_stopped rows) refl refl refl is
  where
    by : (a b c : Bool) → any_at is_unfinished rows ≡ a → any_at is_error rows ≡ b → any_at is_stopped rows ≡ c
        → (if a then stands.InProgress else (if b then stands.Failed else (if c then stands.Stopped else stands.Succeed))) ≡ stands.Succeed
        → AtSuccess false rows
    by true b c d e f is = absurd (cc)
    by false true c d e f is = absurd (cc)
    by false false true d e f is = absurd (cc)
    by false false false d e f is = record { planned = refl; finished = d; no_error = e; no_stop = f }

or_none : (b c : Bool) → (b || c) ≡ false → (b ≡ false) × (c ≡ false)
or_none true c is = absurd (cc)
or_none false c is = (refl, is)

none_of : (p : RowState → Bool) (rows : List RowState) (row : RowState) → list_any p rows ≡ false → Contains rows row → p row ≡ false
none_of p [] row is c = absurd (omega (arith, c.1))
none_of p (x ∷ rows) row is (zero, l, e) = ap p (sym e) ∙ (or_none (p x) (list_any p rows) is).0
none_of p (x ∷ rows) row is (suc k, l, e) = none_of p rows row (or_none (p x) (list_any p rows) is).1 (k, omega (arith, l), e)

only_success : (st : Status) → is_unfinished st ≡ false → is_error st ≡ false → is_stopped st ≡ false → st ≡ status.Success
only_success status.Success a b c = refl
only_success status.Error a b c = absurd (cc)
only_success status.Stopped a b c = absurd (cc)
only_success status.Pending a b c = absurd (cc)
only_success status.Scheduled a b c = absurd (cc)
only_success status.Running a b c = absurd (cc)

pub row_succeeded : (failed : Bool) (rows : List RowState) (row : RowState) → AtSuccess failed rows → Contains rows row
    → row_status row ≡ status.Success
row_succeeded failed rows row o c =
    only_success (row_status row) (none_of (λ (r : RowState). is_unfinished (row_status r)) rows row o.finished c)
    (none_of (λ (r : RowState). is_error (row_status r)) rows row o.no_error c)
    (none_of (λ (r : RowState). is_stopped (row_status r)) rows row o.no_stop c)

among_if : (job : ℕ) (x row : RowState) (rows : List RowState) (b : Bool) → (row_among job rows ≡ Some row → Contains rows row)
    → (if b then Some x else row_among job rows) ≡ Some row → Contains (x ∷ rows) row
among_if job x row rows true later is =
    let same : x ≡ row = cc in subst (λ (r : RowState). Contains (x ∷ rows) r) same (there_first x rows)
among_if job x row rows false later is = there_later x row rows (later is)

among_there : (job : ℕ) (rows : List RowState) (row : RowState) → row_among job rows ≡ Some row → Contains rows row
among_there job [] row is = absurd (cc)
among_there job (x ∷ rows) row is = among_if job x row rows (nat_eq x.job job) (among_there job rows row) is

-- the row of a job, where each execution succeeded, is at Success
row_at : (execs : List ExecState) (job : ℕ) (row : RowState) → AllByRecursion Succeeds execs → row_of_job job execs ≡ Some row
    → row_status row ≡ status.Success
row_at [] job row all is = absurd (cc)
row_at (exec ∷ execs) job row all is = elim (first_cases (row_among job exec.rows) (row_of_job job execs) row is) [
  | inl here ↦ row_succeeded exec.plan_failed exec.rows row (at_success exec.plan_failed exec.rows all.0) (among_there job exec.rows row here)
  | inr later ↦ row_at execs job row all.1 later.1
]

-- ---- the entry of a final word

-- an entry of a lane says that the revision at a place ended with the status of a word
pub record EndedAt (s : CoreState) (place : Place) (word : Word) : Type 0 where
  pub lane : State
  pub there : Contains s.lanes lane
  pub entry : Entry
  pub logged : Contains lane.log entry
  pub status : Status
  pub why : Option Cause
  pub says : entry.what ≡ what.Ended status why
  pub at_place : place_of entry.job.0 entry.rev ≡ place
  pub at_word : status_word status ≡ word

heavy_hook : (v p place w : ℕ) → 1 ≤ cond (nat_le 4 v) (one_if (nat_eq p place && nat_eq v w)) 0 → (p ≡ place) × (v ≡ w)
heavy_hook v p place w h = (grind (arith, nat_tests), grind (arith, nat_tests))

no_weight : (p place w : ℕ) → 1 ≤ cond (nat_le 4 3) (one_if (nat_eq p place && nat_eq 3 w)) 0 → ⊥
no_weight p place w h = omega (arith, h)

heavy_entry : (s : CoreState) (place : Place) (w : Word) (lane : State) → Contains s.lanes lane → (e : Entry) → Contains lane.log e
    → (said : What) → e.what ≡ said → 1 ≤ some_weight (final_weight (at place w)) (hook_from e.job e.rev said) → EndedAt s place w
heavy_entry s place w lane there e logged what.Began is heavy = absurd (no_weight (place_of e.job.0 e.rev) place w heavy)
heavy_entry s place w lane there e logged (what.Ended st why) is heavy =
    let both = heavy_hook (status_word st) (place_of e.job.0 e.rev) place w heavy in record {
      lane = lane;
      there = there;
      entry = e;
      logged = logged;
      status = st;
      why = why;
      says = is;
      at_place = both.0;
      at_word = both.1;
    }
heavy_entry s place w lane there e logged _ is heavy = absurd (omega (arith, heavy))

pub ended_at : (s : CoreState) → OneEach s → (place : Place) → 5 ≤ word_at s.board place → EndedAt s place (word_at s.board place)
ended_at s each place final =
    let w = word_at s.board place in
    let one = each.ended place final in
    let l = sum_some (ends_at place w) s.lanes (omega (arith, one)) in
    let e = sum_some (entry_weight (final_weight (at place w))) (l.0).log l.2 in
    heavy_entry s place w l.0 l.1 e.0 e.1 (e.0).what refl e.2

-- the revision of the entry, with how it ended
pub record EndOf (s : CoreState) (place : Place) (word : Word) (end : EndedAt s place word) : Type 0 where
  pub by : Admitted
  pub admitted : admitted_at end.lane.admitted end.entry.job.0 end.entry.rev ≡ Some by
  pub task : IsTask s.made by
  pub holds : EndHolds by end.lane.log end.status end.why

pub end_of : (s : CoreState) → Holds s → (place : Place) (word : Word) (end : EndedAt s place word) → EndOf s place word end
end_of s o place word end =
    by (admitted_at end.lane.admitted end.entry.job.0 end.entry.rev) refl
    (all_member (λ (x : Entry). IsSome (admitted_at end.lane.admitted x.job.0 x.rev)) end.lane.log end.entry was.orderly.logged end.logged)
    (all_member (λ (x : Entry). IfSome (admitted_at end.lane.admitted x.job.0 x.rev) (λ a. SaysEnd a end.lane.log x.what)) end.lane.log
    end.entry was.ends.logged end.logged)
  where
    was : IsServing s.made (view_of s.board) end.lane
    was = all_member (IsServing s.made (view_of s.board)) s.lanes end.lane o.lanes end.there

    by : (found : Option Admitted) → admitted_at end.lane.admitted end.entry.job.0 end.entry.rev ≡ found → IsSome found
        → IfSome found (λ a. SaysEnd a end.lane.log end.entry.what) → EndOf s place word end
    by None is some ends = absurd (cc)
    by (Some a) is some ends = record {
      by = a;
      admitted = is;
      task = admitted_has (IsTask s.made) end.lane.admitted end.entry.job.0 end.entry.rev a was.tasks is;
      holds = subst (λ (x : What). SaysEnd a end.lane.log x) end.says ends;
    }

-- ---- what was copied

tags_of : (a : Admitted) (log : List Entry) (st : Status) (why : Option Cause) → status_word st ≡ 6 → EndHolds a log st why
    → AllByRecursion (IsFinished a log) a.spec.tags
tags_of a log st None is holds = holds.1
tags_of a log st (Some why) is holds = absurd (let e = ap status_word holds in omega (arith, is, e))

success_word : (st : Status) → st ≡ status.Success → status_word st ≡ 6
success_word st is = ap status_word is

pub copied : (s : CoreState) (job : ℕ) (row : RowState) → Holds s → OneEach s → ExecsSucceed s → row_of_job job s.store.kept ≡ Some row
    → IsTaskCopied s job row.spec
copied s job row o each execs there =
    let st = row_at s.store.kept job row execs there in
    let six = success_word (joined row.received).1 st in
    let told = row_told s o job row there (omega (arith, six)) in
    let place = place_of job (joined row.received).0 in
    let w = told.word in
    let end = ended_at s each place (omega (arith, w, six)) in
    let of = end_of s o place (word_at s.board place) end in
    let own = admitted_own end.lane.admitted end.entry.job.0 end.entry.rev of.by of.admitted in
    let copies = o.rows job row there in
    let small = told.small in
    let within = of.task.within in
    let few = of.task.few in
    let rev_is = own.1 in
    let job_is = own.0 in
    let one = (spec_within s.made job row.spec copies).0 in
    let two = (spec_within s.made (of.by).job.0 (of.by).spec of.task.copies).0 in
    let same = same_place end.entry.job.0 end.entry.rev job (joined row.received).0 (omega (arith, two, job_is)) one
    (omega (arith, within, few, rev_is)) (omega (arith, small)) end.at_place in
    let jobs : (of.by).job.0 ≡ job = job_is ∙ same.0 in
    let both : Some (of.by).spec ≡ Some row.spec = sym of.task.copies ∙ ap (spec_of s.made) jobs ∙ copies in
    let spec : (of.by).spec ≡ row.spec = cc in
    let word = end.at_word in
    record {
      lane = end.lane;
      there = end.there;
      rev = end.entry.rev;
      by = of.by;
      admitted = ap (λ (j : ℕ). admitted_at end.lane.admitted j end.entry.rev) (sym same.0) ∙ of.admitted;
      for = spec;
      tags = subst (λ (x : TaskSpec). AllByRecursion (IsFinished of.by end.lane.log) x.tags) spec
          (tags_of of.by end.lane.log end.status end.why (omega (arith, word, w, six)) of.holds);
    }
