-- Lemmas on the words of specs/ByJob.antt.
use Rattle.std.proofs.Common.{◌≡◌, ℕ, zero, suc, ◌<◌, ◌≤◌, Bool, true, cond, List, [], ◌∷◌, length, get_or, Some, refl, sym, ap, ◌∙◌, subst, inl, inr, arith, eq-eqb}
use Rattle.std.proofs.lemmas.Bool.Decides.{leb_tells, eqb_tells}
use Rattle.std.proofs.lemmas.List.Sums.{sum_by-cons}
use Rattle.std.specs.List.{count_by, insert, remove}
use Rattle.std.specs.Prelude.{◌==◌, nat_eq, slice_get}
use Rattle.hr_base.specs.declared.number.JobNo.{JobNo}
use Rattle.hr_event.specs.declared.task.Turn.{Turn}
use Rattle.hr_queue.specs.ByJob.{rank, AllAbove, IsRising, IsOut}
use Rattle.hr_queue.specs.View.{times_in}
use Rattle.hr_queue.proofs.ListLemmas.{all-remove, count_by-more, counted, stands_at}

above_lower : (job least : ℕ) (ts : List Turn) → AllAbove least ts → job ≤ least → AllAbove job ts
above_lower job least [] above h = tt
above_lower job least (t ∷ ts) above h = (omega (arith, above.0), above_lower job least ts above.1 h)

above-insert : (least : ℕ) (t : Turn) (ts : List Turn) → AllAbove least ts → least < t.job.0
    → AllAbove least (insert ts (rank t.job.0 ts) t)
above-insert least t [] above h = (h, tt)
above-insert least t (u ∷ us) above h = elim (leb_tells (suc u.job.0) t.job.0) [
  | inl e ↦ rw e.0 (above.0, above-insert least t us above.1 h)
  | inr e ↦ rw e.0 (h, above)
]

-- one more turn, of a job that is not among them, at its rank
pub rising-insert : (t : Turn) (ts : List Turn) → IsRising ts
    → count_by (λ u. u.job.0 == t.job.0) ts ≡ 0 → IsRising (insert ts (rank t.job.0 ts) t)
rising-insert t [] rising new = (tt, tt)
rising-insert t (u ∷ us) rising new =
    let same : Turn → Bool = λ v. v.job.0 == t.job.0 in
    elim (leb_tells (suc u.job.0) t.job.0) [
      | inl e ↦ rw e.0 (
        above-insert u.job.0 t us rising.0 (omega (arith, e.1)),
        rising-insert t us rising.1 (let more = count_by-more same u us in omega (arith, more, new)),
      )
      | inr e ↦ rw e.0 (elim (eqb_tells u.job.0 t.job.0) [
        | inl is ↦ absurd (
            let counts = sum_by-cons (λ (v : Turn). cond (same v) 1 0) u us in
            let one : Bool → ℕ = λ b. cond b 1 0 in
            let here = ap one is.0 in
            omega (arith, counts, here, new))
        | inr other ↦ (
          (
            omega (arith, e.1, other.1),
            above_lower t.job.0 u.job.0 us rising.0 (omega (arith, e.1, other.1)),
          ),
          rising,
        )
      ])
    ]

pub rising-remove : (ts : List Turn) (i : ℕ) → IsRising ts → IsRising (remove ts i)
rising-remove [] zero rising = tt
rising-remove [] (suc i) rising = tt
rising-remove (t ∷ ts) zero rising = rising.1
rising-remove (t ∷ ts) (suc i) rising =
    (all-remove (λ u. t.job.0 < u.job.0) ts i rising.0, rising-remove ts i rising.1)

-- the turn that was asked for stands at this place
pub record StandsAt (out : List Turn) (t : Turn) (at : ℕ) : Type 0 where
  pub within : at < length out
  pub is : t ≡ get_or out at t
  pub place : at ≡ rank t.job.0 out

pub held_at : (out : List Turn) (turn t : Turn) (at : ℕ) → at ≡ rank turn.job.0 out
    → IsOut out turn t → StandsAt out t at
held_at out turn t at place held =
    let P : ℕ → Type 0 = λ i. slice_get out i ≡ Some t in
    let here = stands_at out at t (subst P (sym place) held.there) in
    let R : JobNo → ℕ = λ j. rank j.0 out in
    record { within = here.0; is = here.1; place = place ∙ sym (ap R held.job) }

-- so it stands at that of its own job
pub held_stands : (out : List Turn) (turn t : Turn) → IsOut out turn t
    → StandsAt out t (rank t.job.0 out)
held_stands out turn t held =
    let stands = held_at out turn t (rank turn.job.0 out) refl held in
    let W : ℕ → Type 0 = λ i. i < length out in
    let G : ℕ → Type 0 = λ i. t ≡ get_or out i t in
    record {
      within = subst W stands.place stands.within;
      is = subst G stands.place stands.is;
      place = refl;
    }

-- and its job is counted
pub held_counted : (out : List Turn) (turn t : Turn) → IsOut out turn t
    → 1 ≤ times_in out t.job.0
held_counted out turn t held =
    let stands = held_stands out turn t held in
    let itself : nat_eq t.job.0 t.job.0 ≡ true = eq-eqb t.job.0 t.job.0 refl in
    counted (λ (u : Turn). nat_eq u.job.0 t.job.0) out t
    (rank t.job.0 out, stands.within, sym stands.is) itself
