-- Lemmas on the place of a job among rows by job number.
use Rattle.std.proofs.Common.{◌≡◌, ◌≢◌, ℕ, zero, suc, ◌+◌, ◌<◌, ◌≤◌, Bool, cond, List, [], ◌∷◌, length, get_or, Some, refl, sym, ap, ◌∙◌, subst, inl, inr, arith}
use Rattle.std.proofs.lemmas.Bool.Decides.{leb_tells, eqb_tells}
use Rattle.std.proofs.lemmas.List.Sums.{sum_by-cons}
use Rattle.std.specs.List.{AllByRecursion}
use Rattle.std.specs.Prelude.{nat_eq, slice_get}
use Rattle.hr_base.specs.declared.number.JobNo.{JobNo}
use Rattle.hr_queue.specs.declared.rows.Row.{Row}
use Rattle.hr_queue.specs.Rows.{row_rank, times_row, RowsAbove, AreByJob, IsRow}
use Rattle.hr_queue.proofs.ListLemmas.{one_if}

-- so many rows at the front are of lower jobs
abbrev pub Lower : ℕ → ℕ → List Row → Type 0
Lower zero job ts = Unit {0}
Lower (suc n) job [] = ⊥
Lower (suc n) job (t ∷ ts) = (t.turn.job.0 < job) × Lower n job ts

-- none from this place on is of a lower job
abbrev pub NotLower : ℕ → ℕ → List Row → Type 0
NotLower zero job ts = AllByRecursion (λ t. job ≤ t.turn.job.0) ts
NotLower (suc n) job [] = Unit {0}
NotLower (suc n) job (t ∷ ts) = NotLower n job ts

pub not_lower-end : (n job : ℕ) (ts : List Row) → n ≡ length ts → NotLower n job ts
not_lower-end zero job [] e = tt
not_lower-end zero job (t ∷ ts) e = absurd (omega arith)
not_lower-end (suc n) job [] e = tt
not_lower-end (suc n) job (t ∷ ts) e = not_lower-end n job ts (omega arith)

none_lower : (job least : ℕ) (ts : List Row) → RowsAbove least ts → job ≤ least
    → AllByRecursion (λ t. job ≤ t.turn.job.0) ts
none_lower job least [] above h = tt
none_lower job least (t ∷ ts) above h = (omega (arith, above.0), none_lower job least ts above.1 h)

-- from a row on that is not of a lower job, none is
pub not_lower-from : (n job : ℕ) (t : Row) (ts : List Row) → AreByJob ts → n < length ts
    → t ≡ get_or ts n t → job ≤ t.turn.job.0 → NotLower n job ts
not_lower-from n job t [] rising within is h = absurd (omega arith)
not_lower-from zero job t (u ∷ us) rising within is h =
    let number : Row → ℕ = λ v. v.turn.job.0 in
    let here : job ≤ u.turn.job.0 = omega (arith, h, ap number is) in
    (here, none_lower job u.turn.job.0 us rising.0 here)
not_lower-from (suc n) job t (u ∷ us) rising within is h =
    not_lower-from n job t us rising.1 (omega arith) is h

above_at : (n least : ℕ) (t : Row) (ts : List Row) → RowsAbove least ts → n < length ts
    → t ≡ get_or ts n t → least < t.turn.job.0
above_at n least t [] above within is = absurd (omega arith)
above_at zero least t (u ∷ us) above within is =
    let number : Row → ℕ = λ v. v.turn.job.0 in omega (arith, above.0, ap number is)
above_at (suc n) least t (u ∷ us) above within is = above_at n least t us above.1 (omega arith) is

-- up to a row of a lower job, all are
pub lower-to : (n job : ℕ) (t : Row) (ts : List Row) → AreByJob ts → n < length ts
    → t ≡ get_or ts n t → t.turn.job.0 < job → Lower (n + 1) job ts
lower-to n job t [] rising within is h = absurd (omega arith)
lower-to zero job t (u ∷ us) rising within is h =
    let number : Row → ℕ = λ v. v.turn.job.0 in (omega (arith, h, ap number is), tt)
lower-to (suc n) job t (u ∷ us) rising within is h =
    let above : u.turn.job.0 < t.turn.job.0 = above_at n u.turn.job.0 t us rising.0 (omega arith) is in
    let rest : Lower (n + 1) job us = lower-to n job t us rising.1 (omega arith) is h in
    let P : ℕ → Type 0 = λ m. Lower m job us in
    let Q : ℕ → Type 0 = λ m. Lower m job (u ∷ us) in
    let one : n + 1 ≡ suc n = omega arith in
    let two : suc n + 1 ≡ suc (suc n) = omega arith in
    subst Q (sym two) (omega (arith, above, h), subst P one rest)

-- the place between those of lower jobs and the others is the rank
pub rank_is : (n job : ℕ) (ts : List Row) → Lower n job ts → NotLower n job ts → n ≤ length ts
    → n ≡ row_rank job ts
rank_is zero job [] lower others within = omega arith
rank_is zero job (t ∷ ts) lower others within = elim (leb_tells (suc t.turn.job.0) job) [
  | inl e ↦ absurd (omega (arith, e.1, others.0))
  | inr e ↦ rw e.0 (omega arith)
]
rank_is (suc n) job [] lower others within = absurd (omega arith)
rank_is (suc n) job (t ∷ ts) lower others within = elim (leb_tells (suc t.turn.job.0) job) [
  | inl e ↦ rw e.0 (ap suc (rank_is n job ts lower.1 others (omega arith)))
  | inr e ↦ absurd (omega (arith, lower.0, e.1))
]

abbrev weight : ℕ → Row → ℕ
weight job r = one_if (nat_eq r.turn.job.0 job)

-- a job of a lower number than all rows has none
pub none_above : (low job : ℕ) (rows : List Row) → RowsAbove low rows → job ≤ low
    → times_row rows job ≡ 0
none_above low job [] above h = refl
none_above low job (r ∷ rs) above h =
    let counts = sum_by-cons (weight job) r rs in
    let rest = none_above low job rs above.1 h in
    elim (eqb_tells r.turn.job.0 job) [
      | inl same ↦ absurd (omega (arith, same.1, above.0, h))
      | inr other ↦ (let here = ap one_if other.0 in omega (arith, counts, rest, here))
    ]

lower_counts : (job : ℕ) (r : Row) (rs : List Row) → r.turn.job.0 ≢ job
    → times_row (r ∷ rs) job ≡ times_row rs job
lower_counts job r rs other =
    let counts = sum_by-cons (weight job) r rs in
    elim (eqb_tells r.turn.job.0 job) [
      | inl same ↦ absurd (other same.1)
      | inr e ↦ (let here = ap one_if e.0 in omega (arith, counts, here))
    ]

ends : (job : ℕ) (rows : List Row) → length rows ≤ row_rank job rows → times_row rows job ≡ 0
ends job [] past = refl
ends job (r ∷ rs) past = elim (leb_tells (suc r.turn.job.0) job) [
  | inl e ↦
      let R : Bool → ℕ = λ b. cond b (suc (row_rank job rs)) 0 in
      let place = ap R e.0 in
      lower_counts job r rs (omega (arith, e.1)) ∙ ends job rs (omega (arith, past, place))
  | inr e ↦
      let R : Bool → ℕ = λ b. cond b (suc (row_rank job rs)) 0 in
      let place = ap R e.0 in
      absurd (omega (arith, past, place))
]

-- a job whose place is past the end has no row
pub none_past : (rows : List Row) (at job : ℕ) → at ≡ row_rank job rows → length rows ≤ at
    → times_row rows job ≡ 0
none_past rows at job place past = ends job rows (omega (arith, place, past))

differs : (job : ℕ) (rows : List Row) (u : Row) → AreByJob rows
    → u ≡ get_or rows (row_rank job rows) u → u.turn.job.0 ≢ job → times_row rows job ≡ 0
differs job [] u by_job here other = refl
differs job (r ∷ rs) u by_job here other =
    let G : Bool → Type 0 = λ b. u ≡ get_or (r ∷ rs) (cond b (suc (row_rank job rs)) 0) u in
    elim (leb_tells (suc r.turn.job.0) job) [
      | inl e ↦ lower_counts job r rs (omega (arith, e.1))
          ∙ differs job rs u by_job.1 (subst G e.0 here) other
      | inr e ↦
          let same : u ≡ r = subst G e.0 here in
          let number : Row → ℕ = λ v. v.turn.job.0 in
          let apart : r.turn.job.0 ≢ job = omega (arith, ap number same, other) in
          lower_counts job r rs apart
          ∙ none_above r.turn.job.0 job rs by_job.0 (omega (arith, e.1, apart))
    ]

-- nor has one at whose place another stands
pub none_other : (rows : List Row) (at job : ℕ) (u : Row) → AreByJob rows
    → at ≡ row_rank job rows → u ≡ get_or rows at u → u.turn.job.0 ≢ job → times_row rows job ≡ 0
none_other rows at job u by_job place here other =
    let G : ℕ → Type 0 = λ i. u ≡ get_or rows i u in
    differs job rows u by_job (subst G place here) other

get_is : {X : Type 0} (xs : List X) (i : ℕ) (x : X) → i < length xs → x ≡ get_or xs i x
    → slice_get xs i ≡ Some x
get_is [] i x within is = absurd (omega (arith, within))
get_is (y ∷ ys) zero x within is = let same : y ≡ x = sym is in ap Some same
get_is (y ∷ ys) (suc i) x within is = get_is ys i x (omega (arith, within)) is

-- the row of a job stands at its place
pub row_is : (rows : List Row) (at : ℕ) (job : JobNo) (row : Row) → at < length rows
    → row ≡ get_or rows at row → row.turn.job.0 ≡ job.0 → IsRow rows at job row
row_is rows at job row within is same =
    let J : ℕ → JobNo = λ n. record { 0 = n } in
    record { there = get_is rows at row within is; is = ap J same }
