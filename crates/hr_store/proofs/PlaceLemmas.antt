-- Lemmas on the rows of jobs, and where they stand.
use Rattle.std.proofs.Common.{◌≡◌, ℕ, ◌+◌, ◌-◌, ◌<◌, ◌≤◌, List, [], ◌∷◌, length, map, get_or, set, slice_get, Option, Some, None, sym, ap, ◌∙◌, subst, inl, inr, arith, suc, zero, refl}
use Rattle.std.proofs.lemmas.Bool.Decides.{leb_tells, eqb_tells}
use Rattle.hr_store.specs.Execution.{ExecState, last_job}
use Rattle.hr_store.specs.Places.{RowStands, rank_by}
use Rattle.hr_store.specs.Row.{RowState, row_with}
use Rattle.hr_store.specs.Store.{AreNumbered, AreOrdered, exec_hearing, execs_hearing, first_row, row_among, row_hearing, row_of_job}
use Rattle.hr_board.specs.View as board
use Rattle.hr_event.specs.declared.view.Received.TheVariants as received
use Rattle.hr_base.specs.declared.status.Hook.{Hook}
use Rattle.hr_store.proofs.ListLemmas.{some_or}

-- rows by job
row-low : (n job : ℕ) (rs : List RowState) → AreNumbered n rs → job ≤ n → row_among job rs ≡ None
row-low n job [] a l = refl
row-low n job (r ∷ rs) a l = elim (eqb_tells r.job job) [
  | inl e ↦ absurd (omega (arith, e.1, a.0, l))
  | inr e ↦ rw e.0 (row-low (suc n) job rs a.1 (omega (arith, l)))
]

pub row-high : (n job : ℕ) (rs : List RowState) → AreNumbered n rs → n + length rs < job → row_among job rs ≡ None
row-high n job [] a l = refl
row-high n job (r ∷ rs) a l = elim (eqb_tells r.job job) [
  | inl e ↦ absurd (omega (arith, e.1, a.0, l))
  | inr e ↦ rw e.0 (row-high (suc n) job rs a.1 (omega (arith, l)))
]

row-at : (n job k : ℕ) (r : RowState) (rs : List RowState) → AreNumbered n rs → k < length rs → r ≡ get_or rs k r → job ≡ n + k + 1 → row_among job rs ≡ Some r
row-at n job k r [] a l e j = absurd (omega (arith, l))
row-at n job zero r (s ∷ rs) a l e j = elim (eqb_tells s.job job) [
  | inl q ↦ rw q.0 (ap Some (sym e))
  | inr q ↦ absurd (q.1 (omega (arith, a.0, j)))
]
row-at n job (suc k) r (s ∷ rs) a l e j = elim (eqb_tells s.job job) [
  | inl q ↦ absurd (omega (arith, q.1, a.0, j))
  | inr q ↦ rw q.0 (row-at (suc n) job k r rs a.1 (omega (arith, l)) e (omega (arith, j)))
]

hear-low : (n : ℕ) (h : Hook) (rs : List RowState) → AreNumbered n rs → h.job.0 ≤ n → map (row_hearing h) rs ≡ rs
hear-low n h [] a l = refl
hear-low n h (r ∷ rs) a l = elim (eqb_tells r.job h.job.0) [
  | inl e ↦ absurd (omega (arith, e.1, a.0, l))
  | inr e ↦ rw e.0 (let C : List RowState → List RowState = λ xs. r ∷ xs in ap C (hear-low (suc n) h rs a.1 (omega (arith, l))))
]

hear-high : (n : ℕ) (h : Hook) (rs : List RowState) → AreNumbered n rs → n + length rs < h.job.0 → map (row_hearing h) rs ≡ rs
hear-high n h [] a l = refl
hear-high n h (r ∷ rs) a l = elim (eqb_tells r.job h.job.0) [
  | inl e ↦ absurd (omega (arith, e.1, a.0, l))
  | inr e ↦ rw e.0 (let C : List RowState → List RowState = λ xs. r ∷ xs in ap C (hear-high (suc n) h rs a.1 (omega (arith, l))))
]

hear-at : (n k : ℕ) (h : Hook) (r : RowState) (rs : List RowState) → AreNumbered n rs → k < length rs → r ≡ get_or rs k r → h.job.0 ≡ n + k + 1 → set rs k (row_with r h) ≡ map (row_hearing h) rs
hear-at n k h r [] a l e j = absurd (omega (arith, l))
hear-at n zero h r (s ∷ rs) a l e j = elim (eqb_tells s.job h.job.0) [
  | inl q ↦ rw q.0 (let H : RowState → List RowState = λ x. row_with x h ∷ rs in let C : List RowState → List RowState = λ xs. row_with s h ∷ xs in ap H e ∙ ap C (sym (hear-low (suc n) h rs a.1 (omega (arith, j)))))
  | inr q ↦ absurd (q.1 (omega (arith, a.0, j)))
]
hear-at n (suc k) h r (s ∷ rs) a l e j = elim (eqb_tells s.job h.job.0) [
  | inl q ↦ absurd (omega (arith, q.1, a.0, j))
  | inr q ↦ rw q.0 (let C : List RowState → List RowState = λ xs. s ∷ xs in ap C (hear-at (suc n) k h r rs a.1 (omega (arith, l)) e (omega (arith, j))))
]

pub of-low : (a b job : ℕ) (es : List ExecState) → AreOrdered a b es → job ≤ b → row_of_job job es ≡ None
of-low a b job [] o l = refl
of-low a b job (e ∷ es) o l =
    let n = row-low e.before job e.rows o.2 (omega (arith, o.1, l)) in
    rw n (of-low e.exec (last_job e) job es o.3 (omega (arith, o.1, l)))

rows-same : (h : Hook) (e : ExecState) → map (row_hearing h) e.rows ≡ e.rows → exec_hearing h e ≡ e
rows-same h e q = let R : List RowState → ExecState = λ rs. record e { rows = rs } in ap R q

in-low : (a b : ℕ) (h : Hook) (es : List ExecState) → AreOrdered a b es → h.job.0 ≤ b → execs_hearing h es ≡ es
in-low a b h [] o l = refl
in-low a b h (e ∷ es) o l =
    let n = rows-same h e (hear-low e.before h e.rows o.2 (omega (arith, o.1, l))) in
    let r = in-low e.exec (last_job e) h es o.3 (omega (arith, o.1, l)) in
    let F : ExecState → List ExecState = λ x. x ∷ execs_hearing h es in
    let G : List ExecState → List ExecState = λ xs. e ∷ xs in
    ap F n ∙ ap G r

-- the execution at the rank of a job
pub job-within : (i job : ℕ) (e : ExecState) (es : List ExecState) → i ≡ rank_by last_job job es → i < length es → e ≡ get_or es i e → job ≤ last_job e
job-within i job e [] p l q = absurd (omega (arith, l))
job-within zero job e (u ∷ us) p l q = elim (leb_tells (suc (last_job u)) job) [
  | inl t ↦ absurd (let p2 = rw t.0 at p in omega (arith, p2))
  | inr t ↦ (let k = ap last_job q in omega (arith, k, t.1))
]
job-within (suc i) job e (u ∷ us) p l q = elim (leb_tells (suc (last_job u)) job) [
  | inl t ↦ (let p2 = rw t.0 at p in job-within i job e us (omega (arith, p2)) (omega (arith, l)) q)
  | inr t ↦ absurd (let p2 = rw t.0 at p in omega (arith, p2))
]

-- the row of a job stands in the execution at its rank
pub place-row : (a b i job k : ℕ) (e : ExecState) (r : RowState) (es : List ExecState) → AreOrdered a b es → i ≡ rank_by last_job job es → i < length es → e ≡ get_or es i e
    → k < length e.rows → r ≡ get_or e.rows k r → job ≡ e.before + k + 1 → row_of_job job es ≡ Some r
place-row a b i job k e r [] o p l q m t j = absurd (omega (arith, l))
place-row a b zero job k e r (u ∷ us) o p l q m t j =
    let N : ExecState → Type 0 = λ v. AreNumbered v.before v.rows in
    let n = row-at e.before job k r e.rows (subst N (sym q) o.2) m t j in
    let R : ExecState → Option RowState = λ v. first_row (row_among job v.rows) (row_of_job job us) in
    let F : Option RowState → Option RowState = λ x. first_row x (row_of_job job us) in
    sym (ap R q) ∙ ap F n
place-row a b (suc i) job k e r (u ∷ us) o p l q m t j = elim (leb_tells (suc (last_job u)) job) [
  | inl w ↦ (let p2 = rw w.0 at p in
      let n = row-high u.before job u.rows o.2 (omega (arith, w.1)) in
      rw n (place-row u.exec (last_job u) i job k e r us o.3 (omega (arith, p2)) (omega (arith, l)) q m t j))
  | inr w ↦ absurd (let p2 = rw w.0 at p in omega (arith, p2))
]

pub place-hear : (a b i k : ℕ) (h : Hook) (e : ExecState) (r : RowState) (es : List ExecState) → AreOrdered a b es → i ≡ rank_by last_job h.job.0 es → i < length es → e ≡ get_or es i e
    → k < length e.rows → r ≡ get_or e.rows k r → h.job.0 ≡ e.before + k + 1 → set es i (record e { rows = set e.rows k (row_with r h) }) ≡ execs_hearing h es
place-hear a b i k h e r [] o p l q m t j = absurd (omega (arith, l))
place-hear a b zero k h e r (u ∷ us) o p l q m t j =
    let N : ExecState → Type 0 = λ v. AreNumbered v.before v.rows in
    let n = hear-at e.before k h r e.rows (subst N (sym q) o.2) m t j in
    let R : List RowState → List ExecState = λ rs. record e { rows = rs } ∷ us in
    let H : ExecState → List ExecState = λ v. exec_hearing h v ∷ us in
    let C : List ExecState → List ExecState = λ xs. exec_hearing h u ∷ xs in
    let L : ExecState → ℕ = last_job in
    let x = ap L q in
    let low = in-low u.exec (last_job u) h us o.3 (omega (arith, x, m, j)) in
    ap R n ∙ (ap H q ∙ sym (ap C low))
place-hear a b (suc i) k h e r (u ∷ us) o p l q m t j = elim (leb_tells (suc (last_job u)) h.job.0) [
  | inl w ↦ (let p2 = rw w.0 at p in
      let n = rows-same h u (hear-high u.before h u.rows o.2 (omega (arith, w.1))) in
      let F : ExecState → List ExecState = λ x. x ∷ execs_hearing h us in
      let G : List ExecState → List ExecState = λ xs. u ∷ xs in
      ap G (place-hear u.exec (last_job u) i k h e r us o.3 (omega (arith, p2)) (omega (arith, l)) q m t j) ∙ sym (ap F n))
  | inr w ↦ absurd (let p2 = rw w.0 at p in omega (arith, p2))
]

-- no execution has the job
pub place-past : (a b i job : ℕ) (es : List ExecState) → AreOrdered a b es → i ≡ rank_by last_job job es → length es ≤ i → row_of_job job es ≡ None
place-past a b i job [] o p l = refl
place-past a b i job (u ∷ us) o p l = elim (leb_tells (suc (last_job u)) job) [
  | inl w ↦ (let p2 = rw w.0 at p in
      let s : rank_by last_job job us ≡ i - 1 = omega (arith, p2) in
      rw (row-high u.before job u.rows o.2 (omega (arith, w.1))) (place-past u.exec (last_job u) (i - 1) job us o.3 (sym s) (omega (arith, l))))
  | inr w ↦ absurd (let p2 = rw w.0 at p in omega (arith, p2, l))
]

pub place-between : (a b i job : ℕ) (e : ExecState) (es : List ExecState) → AreOrdered a b es → i ≡ rank_by last_job job es → i < length es → e ≡ get_or es i e → job ≤ e.before → row_of_job job es ≡ None
place-between a b i job e [] o p l q m = refl
place-between a b zero job e (u ∷ us) o p l q m =
    let B : ExecState → ℕ = λ v. v.before in
    let x = ap B q in
    let n = row-low u.before job u.rows o.2 (omega (arith, x, m)) in
    rw n (of-low u.exec (last_job u) job us o.3 (omega (arith, x, m)))
place-between a b (suc i) job e (u ∷ us) o p l q m = elim (leb_tells (suc (last_job u)) job) [
  | inl w ↦ (let p2 = rw w.0 at p in
      rw (row-high u.before job u.rows o.2 (omega (arith, w.1))) (place-between u.exec (last_job u) i job e us o.3 (omega (arith, p2)) (omega (arith, l)) q m))
  | inr w ↦ absurd (let p2 = rw w.0 at p in omega (arith, p2))
]

row-there : (rs : List RowState) (k : ℕ) → k < length rs → (r : RowState) × (r ≡ get_or rs k r)
row-there [] k l = absurd (omega (arith, l))
row-there (r ∷ rs) zero l = (r, refl)
row-there (r ∷ rs) (suc k) l = row-there rs k (omega (arith, l))

pub stands : (i job k : ℕ) (e : ExecState) (es : List ExecState) → AreOrdered 0 0 es → i ≡ rank_by last_job job es → i < length es → e ≡ get_or es i e → e.before < job → k ≡ job - e.before - 1 → RowStands es job i k
stands i job k e es o p l q m d =
    let w = job-within i job e es p l q in
    let row = row-there e.rows k (omega (arith, w, m, d)) in
    record {
      exec = e;
      row = row.0;
      rank = p;
      within = l;
      exec_is = q;
      row_within = omega (arith, w, m, d);
      row_is = row.1;
      job_is = omega (arith, m, d);
      there = place-row 0 0 i job k e row.0 es o p l q (omega (arith, w, m, d)) row.1 (omega (arith, m, d));
    }

pub job-at : (n k : ℕ) (r : RowState) (rs : List RowState) → AreNumbered n rs → slice_get rs k ≡ Some r → r.job ≡ n + k + 1
job-at n zero r [] a e = absurd (cc)
job-at n (suc k) r [] a e = absurd (cc)
job-at n zero r (s ∷ rs) a e = let J : Option RowState → ℕ = λ o. (some_or r o).job in let j = ap J e in omega (arith, j, a.0)
job-at n (suc k) r (s ∷ rs) a e = let j = job-at (suc n) k r rs a.1 e in omega (arith, j)

pub numbered-at : (a b i : ℕ) (e : ExecState) (es : List ExecState) → AreOrdered a b es → i < length es → e ≡ get_or es i e → AreNumbered e.before e.rows
numbered-at a b i e [] o l q = absurd (omega (arith, l))
numbered-at a b zero e (u ∷ us) o l q = let N : ExecState → Type 0 = λ v. AreNumbered v.before v.rows in subst N (sym q) o.2
numbered-at a b (suc i) e (u ∷ us) o l q = numbered-at u.exec (last_job u) i e us o.3 (omega (arith, l)) q
