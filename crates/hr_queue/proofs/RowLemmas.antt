-- Lemmas on the words of specs/Rows.antt: which turns are out after a row is written.
use Rattle.std.proofs.Common.{◌≡◌, ℕ, zero, suc, ◌+◌, ◌<◌, ◌≤◌, Bool, true, false, List, [], ◌∷◌, length, Some, refl, sym, ap, ◌∙◌, subst, inl, inr, arith}
use Rattle.std.proofs.lemmas.Bool.{cases_Bool}
use Rattle.std.proofs.lemmas.Bool.Decides.{leb_tells, eqb_tells}
use Rattle.std.proofs.lemmas.List.Sums.{sum_by-cons, sum_by-set}
use Rattle.std.specs.List.{insert, remove}
use Rattle.std.specs.Prelude.{nat_eq, nat_lt, slice_get, slice_set}
use Rattle.hr_base.specs.declared.number.JobNo.{JobNo}
use Rattle.hr_event.specs.declared.task.Turn.{Turn}
use Rattle.hr_queue.specs.declared.rows.Row.{Row}
use Rattle.hr_queue.specs.declared.rows.Side.TheVariants as side
use Rattle.hr_queue.specs.ByJob.{rank, with_turn, without_job, AllAbove, IsOut, NotOut, NoneOut}
use Rattle.hr_queue.specs.Rows.{is_out, outs, row_rank, times_row, RowsAbove, AreByJob, IsRow, SameJobs}
use Rattle.hr_queue.specs.View.{times_in}
use Rattle.hr_queue.proofs.FindLemmas.{none_above}
use Rattle.hr_queue.proofs.ListLemmas.{one_if, some_is, stands_at, length-set, counted}

-- how much a row and a turn add to the count of a job
abbrev pub weight_row : ℕ → Row → ℕ
weight_row job r = one_if (nat_eq r.turn.job.0 job)

abbrev weight : ℕ → Turn → ℕ
weight job t = one_if (nat_eq t.job.0 job)

abbrev number : Row → ℕ
number r = r.turn.job.0

abbrev out_at : Row → Bool
out_at r = is_out r.side

-- the row of a job whose turn is out
abbrev pub out_row : Turn → Row
out_row t = record { turn = t; side = side.Out }

lt_is : (a b : ℕ) → a < b → nat_lt a b ≡ true
lt_is a b h = elim (leb_tells (suc a) b) [ inl e ↦ e.0 | inr e ↦ absurd (omega (arith, e.1, h)) ]

not_lt_is : (a b : ℕ) → b ≤ a → nat_lt a b ≡ false
not_lt_is a b h = elim (leb_tells (suc a) b) [
  | inl e ↦ absurd (omega (arith, e.1, h))
  | inr e ↦ e.0
]

pub row_above : (low i : ℕ) (rows : List Row) (row : Row) → RowsAbove low rows
    → slice_get rows i ≡ Some row → low < row.turn.job.0
row_above low zero [] row above e = absurd (cc)
row_above low (suc i) [] row above e = absurd (cc)
row_above low zero (r ∷ rs) row above e = omega (arith, above.0, ap number (some_is r row e))
row_above low (suc i) (r ∷ rs) row above e = row_above low i rs row above.1 e

above_weaker : (low job : ℕ) (rows : List Row) → RowsAbove low rows → job ≤ low → RowsAbove job rows
above_weaker low job [] above h = tt
above_weaker low job (r ∷ rs) above h = (omega (arith, above.0, h), above_weaker low job rs above.1 h)

outs_above : (low : ℕ) (rows : List Row) → RowsAbove low rows → AllAbove low (outs rows)
outs_above low [] above = tt
outs_above low (r ∷ rs) above = elim (cases_Bool (is_out r.side)) [
  | inl e ↦ rw e (above.0, outs_above low rs above.1)
  | inr e ↦ rw e (outs_above low rs above.1)
]

rank_zero : (low job : ℕ) (ts : List Turn) → AllAbove low ts → job ≤ low → rank job ts ≡ 0
rank_zero low job [] above h = refl
rank_zero low job (t ∷ ts) above h = rw (not_lt_is t.job.0 job (omega (arith, above.0, h))) refl

insert_zero : (ts : List Turn) (t : Turn) → insert ts 0 t ≡ t ∷ ts
insert_zero [] t = refl
insert_zero (u ∷ us) t = refl

remove_zero : (ts : List Turn) (t : Turn) → remove (t ∷ ts) 0 ≡ ts
remove_zero [] t = refl
remove_zero (u ∷ us) t = refl

-- a row that comes to be out is one turn more
pub out_with : (t : Turn) (row : Row) (i : ℕ) (rows : List Row) → AreByJob rows
    → slice_get rows i ≡ Some row → row.turn.job.0 ≡ t.job.0 → is_out row.side ≡ false
    → outs (slice_set rows i (out_row t)) ≡ with_turn (outs rows) t
out_with t row zero [] by_job e same inside = absurd (cc)
out_with t row (suc i) [] by_job e same inside = absurd (cc)
out_with t row zero (r ∷ rs) by_job e same inside =
    let it = some_is r row e in
    let quiet : is_out r.side ≡ false = ap out_at it ∙ inside in
    let above = outs_above r.turn.job.0 rs by_job.0 in
    let first =
    rank_zero r.turn.job.0 t.job.0 (outs rs) above (omega (arith, ap number it, same)) in
    rw (quiet, first) (sym (insert_zero (outs rs) t))
out_with t row (suc i) (r ∷ rs) by_job e same inside =
    let above = row_above r.turn.job.0 i rs row by_job.0 e in
    let lower = lt_is r.turn.job.0 t.job.0 (omega (arith, above, same)) in
    let rest = out_with t row i rs by_job.1 e same inside in
    elim (cases_Bool (is_out r.side)) [
      | inl out ↦ rw (out, lower) (ap (λ (ts : List Turn). r.turn ∷ ts) rest)
      | inr quiet ↦ rw quiet rest
    ]

-- a row that is out no more is one turn less
pub out_without : (y row : Row) (i : ℕ) (rows : List Row) → AreByJob rows
    → slice_get rows i ≡ Some row → is_out row.side ≡ true → is_out y.side ≡ false
    → outs (slice_set rows i y) ≡ without_job (outs rows) row.turn.job.0
out_without y row zero [] by_job e out quiet = absurd (cc)
out_without y row (suc i) [] by_job e out quiet = absurd (cc)
out_without y row zero (r ∷ rs) by_job e out quiet =
    let it = some_is r row e in
    let was : is_out r.side ≡ true = ap out_at it ∙ out in
    let first = not_lt_is r.turn.job.0 row.turn.job.0 (omega (arith, ap number it)) in
    rw (quiet, was, first) (sym (remove_zero (outs rs) r.turn))
out_without y row (suc i) (r ∷ rs) by_job e out quiet =
    let lower = lt_is r.turn.job.0 row.turn.job.0 (row_above r.turn.job.0 i rs row by_job.0 e) in
    let rest = out_without y row i rs by_job.1 e out quiet in
    elim (cases_Bool (is_out r.side)) [
      | inl was ↦ rw (was, lower) (ap (λ (ts : List Turn). r.turn ∷ ts) rest)
      | inr inside ↦ rw inside rest
    ]

-- a row that is out neither before nor after changes nothing
pub outs_quiet : (y row : Row) (i : ℕ) (rows : List Row) → slice_get rows i ≡ Some row
    → is_out row.side ≡ false → is_out y.side ≡ false → outs (slice_set rows i y) ≡ outs rows
outs_quiet y row zero [] e inside quiet = absurd (cc)
outs_quiet y row (suc i) [] e inside quiet = absurd (cc)
outs_quiet y row zero (r ∷ rs) e inside quiet =
    let was : is_out r.side ≡ false = ap out_at (some_is r row e) ∙ inside in rw (quiet, was) refl
outs_quiet y row (suc i) (r ∷ rs) e inside quiet =
    let rest = outs_quiet y row i rs e inside quiet in
    elim (cases_Bool (is_out r.side)) [
      | inl out ↦ rw out (ap (λ (ts : List Turn). r.turn ∷ ts) rest)
      | inr was ↦ rw was rest
    ]

-- nor does a new row that is not out
pub outs_insert : (y : Row) (i : ℕ) (rows : List Row) → is_out y.side ≡ false
    → outs (insert rows i y) ≡ outs rows
outs_insert y zero [] quiet = rw quiet refl
outs_insert y (suc i) [] quiet = rw quiet refl
outs_insert y zero (r ∷ rs) quiet = rw quiet refl
outs_insert y (suc i) (r ∷ rs) quiet =
    let rest = outs_insert y i rs quiet in
    elim (cases_Bool (is_out r.side)) [
      | inl out ↦ rw out (ap (λ (ts : List Turn). r.turn ∷ ts) rest)
      | inr was ↦ rw was rest
    ]

-- the turn of a row that is out stands at the place of its job
pub out_stands : (row : Row) (i : ℕ) (rows : List Row) → AreByJob rows
    → slice_get rows i ≡ Some row → is_out row.side ≡ true
    → slice_get (outs rows) (rank row.turn.job.0 (outs rows)) ≡ Some row.turn
out_stands row zero [] by_job e out = absurd (cc)
out_stands row (suc i) [] by_job e out = absurd (cc)
out_stands row zero (r ∷ rs) by_job e out =
    let it = some_is r row e in
    let was : is_out r.side ≡ true = ap out_at it ∙ out in
    let first = not_lt_is r.turn.job.0 row.turn.job.0 (omega (arith, ap number it)) in
    rw (was, first) (ap (λ (v : Row). Some v.turn) it)
out_stands row (suc i) (r ∷ rs) by_job e out =
    let lower = lt_is r.turn.job.0 row.turn.job.0 (row_above r.turn.job.0 i rs row by_job.0 e) in
    let rest = out_stands row i rs by_job.1 e out in
    elim (cases_Bool (is_out r.side)) [
      | inl was ↦ rw (was, lower) rest
      | inr inside ↦ rw inside rest
    ]

pub times_out_le : (rows : List Row) (job : ℕ) → times_in (outs rows) job ≤ times_row rows job
times_out_le [] job = omega arith
times_out_le (r ∷ rs) job =
    let counts = sum_by-cons (weight_row job) r rs in
    let rest = times_out_le rs job in
    elim (cases_Bool (is_out r.side)) [
      | inl e ↦ rw e (let more = sum_by-cons (weight job) r.turn (outs rs) in omega (arith, counts, more, rest))
      | inr e ↦ rw e (omega (arith, counts, rest))
    ]

-- no turn is out of a job whose row says so
none_out : (row : Row) (i : ℕ) (rows : List Row) → AreByJob rows → slice_get rows i ≡ Some row
    → is_out row.side ≡ false → times_in (outs rows) row.turn.job.0 ≡ 0
none_out row zero [] by_job e inside = absurd (cc)
none_out row (suc i) [] by_job e inside = absurd (cc)
none_out row zero (r ∷ rs) by_job e inside =
    let it = some_is r row e in
    let was : is_out r.side ≡ false = ap out_at it ∙ inside in
    let none = none_above r.turn.job.0 row.turn.job.0 rs by_job.0 (omega (arith, ap number it)) in
    let few = times_out_le rs row.turn.job.0 in
    rw was (omega (arith, none, few))
none_out row (suc i) (r ∷ rs) by_job e inside =
    let above = row_above r.turn.job.0 i rs row by_job.0 e in
    let rest = none_out row i rs by_job.1 e inside in
    elim (cases_Bool (is_out r.side)) [
      | inl out ↦ rw out (
          let more = sum_by-cons (weight row.turn.job.0) r.turn (outs rs) in
          elim (eqb_tells r.turn.job.0 row.turn.job.0) [
            | inl same ↦ absurd (omega (arith, same.1, above))
            | inr other ↦ (let here = ap one_if other.0 in omega (arith, more, here, rest))
          ])
      | inr was ↦ rw was rest
    ]

-- where none is counted, none is out
pub none_counted : (out : List Turn) (job : JobNo) → times_in out job.0 ≡ 0 → NoneOut out job
none_counted out job none t there is =
    let plain : JobNo → ℕ = λ j. j.0 in
    let same = ap plain is in
    elim (eqb_tells t.job.0 job.0) [
      | inl e ↦
          let some = counted (λ (u : Turn). nat_eq u.job.0 job.0) out t there e.0 in
          omega (arith, none, some)
      | inr e ↦ e.1 same
    ]

-- no turn is out of a job without a row, or whose row says so
pub no_row : (rows : List Row) (job : JobNo) → times_row rows job.0 ≡ 0 → NoneOut (outs rows) job
no_row rows job none =
    let few = times_out_le rows job.0 in none_counted (outs rows) job (omega (arith, none, few))

pub number_is : (rows : List Row) (at : ℕ) (job : JobNo) (row : Row) → IsRow rows at job row
    → row.turn.job.0 ≡ job.0
number_is rows at job row is = let plain : JobNo → ℕ = λ j. j.0 in ap plain is.is

pub row_inside : (rows : List Row) (at : ℕ) (job : JobNo) (row : Row) → AreByJob rows
    → IsRow rows at job row → is_out row.side ≡ false → NoneOut (outs rows) job
row_inside rows at job row by_job is inside =
    let C : ℕ → Type 0 = λ n. times_in (outs rows) n ≡ 0 in
    none_counted (outs rows) job (subst C (number_is rows at job row is) (none_out row at rows by_job is.there inside))

-- a job of which a turn is out has a row that says so
pub row_out : (rows : List Row) (at : ℕ) (job : JobNo) (row : Row) → AreByJob rows
    → IsRow rows at job row → 1 ≤ times_in (outs rows) job.0 → is_out row.side ≡ true
row_out rows at job row by_job is some = elim (cases_Bool (is_out row.side)) [
  | inl e ↦ e
  | inr e ↦
      let none = none_out row at rows by_job is.there e in
      let C : ℕ → ℕ = times_in (outs rows) in
      let same = ap C (number_is rows at job row is) in
      absurd (omega (arith, none, same, some))
]

-- one that may go out has a row that says so too
pub row_not_out : (rows : List Row) (at : ℕ) (job : JobNo) (row : Row) → AreByJob rows
    → IsRow rows at job row → times_in (outs rows) job.0 ≡ 0 → is_out row.side ≡ false
row_not_out rows at job row by_job is none = elim (cases_Bool (is_out row.side)) [
  | inl e ↦
      let there = stands_at (outs rows) (rank row.turn.job.0 (outs rows)) row.turn
      (out_stands row at rows by_job is.there e) in
      elim (eqb_tells row.turn.job.0 job.0) [
        | inl same ↦
            let some = counted (λ (u : Turn). nat_eq u.job.0 job.0) (outs rows) row.turn
            (rank row.turn.job.0 (outs rows), there.0, sym there.1) same.0 in
            absurd (omega (arith, none, some))
        | inr other ↦ absurd (other.1 (number_is rows at job row is))
      ]
  | inr e ↦ e
]

pub row_is_out : (rows : List Row) (at : ℕ) (job : JobNo) (row : Row) → AreByJob rows
    → IsRow rows at job row → is_out row.side ≡ true → IsOut (outs rows) row.turn row.turn
row_is_out rows at job row by_job is out =
    record { there = out_stands row at rows by_job is.there out; job = refl; rev = refl }

above_set : (low i : ℕ) (y : Row) (rows : List Row) → RowsAbove low rows → low < y.turn.job.0
    → RowsAbove low (slice_set rows i y)
above_set low zero y [] above h = tt
above_set low (suc i) y [] above h = tt
above_set low zero y (r ∷ rs) above h = (h, above.1)
above_set low (suc i) y (r ∷ rs) above h = (above.0, above_set low i y rs above.1 h)

-- a row of the same job keeps the order
pub by_job_set : (y row : Row) (i : ℕ) (rows : List Row) → AreByJob rows
    → slice_get rows i ≡ Some row → y.turn.job.0 ≡ row.turn.job.0 → AreByJob (slice_set rows i y)
by_job_set y row zero [] by_job e same = absurd (cc)
by_job_set y row (suc i) [] by_job e same = absurd (cc)
by_job_set y row zero (r ∷ rs) by_job e same =
    let it = ap number (some_is r row e) in
    (above_weaker r.turn.job.0 y.turn.job.0 rs by_job.0 (omega (arith, it, same)), by_job.1)
by_job_set y row (suc i) (r ∷ rs) by_job e same =
    let above = row_above r.turn.job.0 i rs row by_job.0 e in (
      above_set r.turn.job.0 i y rs by_job.0 (omega (arith, above, same)),
      by_job_set y row i rs by_job.1 e same,
    )

pub same_jobs : (y row : Row) (i : ℕ) (rows : List Row) → slice_get rows i ≡ Some row
    → y.turn.job.0 ≡ row.turn.job.0 → SameJobs rows (slice_set rows i y)
same_jobs y row i rows e same = record {
  len = length-set rows i y;
  each = λ job.
      let stands = stands_at rows i row e in
      let counts = sum_by-set (weight_row job) rows i y row stands.0 in
      let was = ap (weight_row job) stands.1 in
      let W : ℕ → ℕ = λ n. one_if (nat_eq n job) in
      let now = ap W same in
      omega (arith, counts, was, now);
}

above_insert : (low : ℕ) (y : Row) (rows : List Row) → RowsAbove low rows → low < y.turn.job.0
    → RowsAbove low (insert rows (row_rank y.turn.job.0 rows) y)
above_insert low y [] above h = (h, tt)
above_insert low y (r ∷ rs) above h = elim (leb_tells (suc r.turn.job.0) y.turn.job.0) [
  | inl e ↦ rw e.0 (above.0, above_insert low y rs above.1 h)
  | inr e ↦ rw e.0 (h, above)
]

-- so does a row of a new job at its place
pub by_job_insert : (y : Row) (rows : List Row) → AreByJob rows → times_row rows y.turn.job.0 ≡ 0
    → AreByJob (insert rows (row_rank y.turn.job.0 rows) y)
by_job_insert y [] by_job new = (tt, tt)
by_job_insert y (r ∷ rs) by_job new =
    let counts = sum_by-cons (weight_row y.turn.job.0) r rs in
    elim (leb_tells (suc r.turn.job.0) y.turn.job.0) [
      | inl e ↦ rw e.0 (
        above_insert r.turn.job.0 y rs by_job.0 (omega (arith, e.1)),
        by_job_insert y rs by_job.1 (omega (arith, counts, new)),
      )
      | inr e ↦ rw e.0 (elim (eqb_tells r.turn.job.0 y.turn.job.0) [
        | inl is ↦ absurd (let here = ap one_if is.0 in omega (arith, counts, here, new))
        | inr other ↦
            let lower : y.turn.job.0 < r.turn.job.0 = omega (arith, e.1, other.1) in (
              (
                lower,
                above_weaker r.turn.job.0 y.turn.job.0 rs by_job.0 (omega (arith, lower)),
              ),
              by_job,
            )
      ])
    ]

-- rows of the same jobs, in turn
pub same_itself : (rows : List Row) → SameJobs rows rows
same_itself rows = record { len = refl; each = λ job. refl }

pub same_after : (rows mid after : List Row) → SameJobs rows mid → SameJobs mid after
    → SameJobs rows after
same_after rows mid after first second =
    record { len = second.len ∙ first.len; each = λ job. second.each job ∙ first.each job }

-- how many turns are out after one more, and after one less
pub longer : (ts : List Turn) (i : ℕ) (t : Turn) → length (insert ts i t) ≡ length ts + 1
longer [] zero t = refl
longer [] (suc i) t = refl
longer (u ∷ us) zero t = omega arith
longer (u ∷ us) (suc i) t = let rest = longer us i t in omega (arith, rest)

pub shorter : (ts : List Turn) (i : ℕ) → i < length ts → length (remove ts i) + 1 ≡ length ts
shorter [] i within = absurd (omega (arith, within))
shorter (u ∷ us) zero within = omega arith
shorter (u ∷ us) (suc i) within =
    let rest = shorter us i (omega (arith, within)) in omega (arith, rest)

-- where no turn of a job is out, none of a revision of it is
pub none_held : (out : List Turn) (turn : Turn) → NoneOut out turn.job → NotOut out turn
none_held out turn none held is =
    let there = stands_at out (rank turn.job.0 out) held is.there in
    none held (rank turn.job.0 out, there.0, sym there.1) is.job

pub left_len : (row : Row) (i : ℕ) (rows : List Row) (after : List Turn) → AreByJob rows
    → slice_get rows i ≡ Some row → is_out row.side ≡ true
    → after ≡ outs (slice_set rows i (record row { side = side.Back }))
    → length after + 1 ≡ length (outs rows)
left_len row i rows after by_job e out is =
    let left = is ∙ out_without (record row { side = side.Back }) row i rows by_job e out refl in
    let there = stands_at (outs rows) (rank row.turn.job.0 (outs rows)) row.turn
    (out_stands row i rows by_job e out) in
    let one = shorter (outs rows) (rank row.turn.job.0 (outs rows)) there.0 in
    let len : List Turn → ℕ = λ ts. length ts in
    let same = ap len left in
    omega (arith, one, same)
