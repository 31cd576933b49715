-- Lemmas on the words of specs/Rows.antt: which jobs are candidates, and which one comes first.
use Rattle.std.proofs.Common.{◌≡◌, ℕ, zero, suc, ◌+◌, ◌<◌, ◌≤◌, Bool, true, false, cond, List, [], ◌∷◌, length, get_or, Some, refl, sym, ap, ◌∙◌, subst, inl, inr, arith, eq-eqb}
use Rattle.std.proofs.lemmas.Bool.{cases_Bool}
use Rattle.std.proofs.lemmas.Bool.Decides.{eqb_tells, nat_tests}
use Rattle.std.proofs.lemmas.List.Sorted.{sum_by_pushed, sum_by_popped}
use Rattle.std.proofs.lemmas.List.Sums.{sum_by-cons, sum_by-set, sum_by-insert}
use Rattle.std.specs.BinaryHeap.{IsUpperBound}
use Rattle.std.specs.List.{count_by, insert}
use Rattle.std.specs.List.Sorted.{IsPermutation}
use Rattle.std.specs.Ordering.{nat_cmp, is_lt}
use Rattle.std.specs.Prelude.{nat_eq, ◌&&◌, slice_get, slice_set}
use Rattle.std.specs.declared.cmp.Ordering.{Ordering}
use Rattle.std.specs.declared.cmp.Reverse.{Reverse}
use Rattle.hr_base.specs.declared.number.JobNo.{JobNo}
use Rattle.hr_event.specs.declared.task.Turn.{Turn}
use Rattle.hr_queue.specs.declared.rows.Row.{Row}
use Rattle.hr_queue.specs.declared.rows.Side.{Side}
use Rattle.hr_queue.specs.declared.rows.Side.TheVariants as side
use Rattle.hr_queue.specs.Rows.{is_out, is_candidate, outs, row_rank, times_row, times_said, times_candidate, AreByJob, IsRow, Offers, AreCandidates, LeadsBy, LeadsOut}
use Rattle.hr_queue.proofs.FindLemmas.{none_above}
use Rattle.hr_queue.proofs.ListLemmas.{one_if, some_is, stands_at, counted}
use Rattle.hr_queue.proofs.RowLemmas.{weight_row, out_row, number_is, row_above, by_job_set, by_job_insert}

-- how much a row and a candidate add to the count of a job, and a row to that of candidates
abbrev weight_said : ℕ → Row → ℕ
weight_said job r = one_if (is_candidate r.side && nat_eq r.turn.job.0 job)

abbrev weight : ℕ → Reverse JobNo → ℕ
weight job c = one_if (nat_eq c.0.0 job)

abbrev said : Row → ℕ
said r = one_if (is_candidate r.side)

abbrev candidate_at : Row → Bool
candidate_at r = is_candidate r.side

-- how many rows say that their job is a candidate
abbrev pub sum_said : List Row → ℕ
sum_said rows = count_by candidate_at rows

one_at_most : (b : Bool) → one_if b ≤ 1
one_at_most true = omega arith
one_at_most false = omega arith

abbrev number : Row → ℕ
number r = r.turn.job.0

-- what the sides say
out_is_candidate : (s : Side) → is_out s ≡ true → is_candidate s ≡ true
out_is_candidate side.In e = e
out_is_candidate side.Back e = refl
out_is_candidate side.Out e = refl

no_candidate_inside : (s : Side) → is_candidate s ≡ false → is_out s ≡ false
no_candidate_inside side.In e = refl
no_candidate_inside side.Back e = refl
no_candidate_inside side.Out e = e

leads_by : (s : Side) (P Q : Type 0) → (P → Q) → LeadsBy s P → LeadsBy s Q
leads_by side.In P Q then p = then p
leads_by side.Back P Q then p = p
leads_by side.Out P Q then p = tt

leads_at : (s : Side) (P : Type 0) → is_out s ≡ true → LeadsBy s P
leads_at side.In P e = absurd (cc)
leads_at side.Back P e = absurd (cc)
leads_at side.Out P e = tt

leads_over : (s : Side) (P : Type 0) → is_candidate s ≡ false → P → LeadsBy s P
leads_over side.In P e p = p
leads_over side.Back P e p = absurd (cc)
leads_over side.Out P e p = tt

leads_rest : (s : Side) (P : Type 0) → LeadsBy s P → is_candidate s ≡ false → P
leads_rest side.In P p e = p
leads_rest side.Back P p e = absurd p
leads_rest side.Out P p e = absurd (cc)

leads_first : (s : Side) (P : Type 0) → LeadsBy s P → is_candidate s ≡ true → is_out s ≡ true
leads_first side.In P p e = absurd (cc)
leads_first side.Back P p e = absurd p
leads_first side.Out P p e = refl

self_said : (r : Row) → is_candidate r.side ≡ true → weight_said r.turn.job.0 r ≡ 1
self_said r e = rw (e, eq-eqb r.turn.job.0 r.turn.job.0 refl) refl

said_le : (rows : List Row) (job : ℕ) → times_said rows job ≤ times_row rows job
said_le [] job = omega arith
said_le (r ∷ rs) job =
    let counts = sum_by-cons (weight_row job) r rs in
    let more = sum_by-cons (weight_said job) r rs in
    let rest = said_le rs job in
    elim (cases_Bool (is_candidate r.side)) [
      | inl e ↦ (
          let W : Bool → ℕ = λ b. one_if (b && nat_eq r.turn.job.0 job) in
          let here = ap W e in
          omega (arith, counts, more, rest, here))
      | inr e ↦ (
          let W : Bool → ℕ = λ b. one_if (b && nat_eq r.turn.job.0 job) in
          let here = ap W e in
          omega (arith, counts, more, rest, here))
    ]

none_said : (row : Row) (i : ℕ) (rows : List Row) → AreByJob rows → slice_get rows i ≡ Some row
    → is_candidate row.side ≡ false → times_said rows row.turn.job.0 ≡ 0
none_said row zero [] by_job e quiet = absurd (cc)
none_said row (suc i) [] by_job e quiet = absurd (cc)
none_said row zero (r ∷ rs) by_job e quiet =
    let it = some_is r row e in
    let none = none_above r.turn.job.0 row.turn.job.0 rs by_job.0 (omega (arith, ap number it)) in
    let few = said_le rs row.turn.job.0 in
    let more = sum_by-cons (weight_said row.turn.job.0) r rs in
    let W : Bool → ℕ = λ b. one_if (b && nat_eq r.turn.job.0 row.turn.job.0) in
    let here = ap W (ap candidate_at it ∙ quiet) in
    omega (arith, none, few, more, here)
none_said row (suc i) (r ∷ rs) by_job e quiet =
    let above = row_above r.turn.job.0 i rs row by_job.0 e in
    let rest = none_said row i rs by_job.1 e quiet in
    let more = sum_by-cons (weight_said row.turn.job.0) r rs in
    elim (eqb_tells r.turn.job.0 row.turn.job.0) [
      | inl same ↦ absurd (omega (arith, same.1, above))
      | inr other ↦ (
          let W : Bool → ℕ = λ b. one_if (is_candidate r.side && b) in
          let here = ap W other.0 in
          let none = and_false (is_candidate r.side) in
          omega (arith, more, rest, here, none))
    ]
  where
    and_false : (b : Bool) → one_if (b && false) ≡ 0
    and_false true = refl
    and_false false = refl

-- the row of a candidate says so
candidate_there : (rows : List Row) (at : ℕ) (job : JobNo) (row : Row) → AreByJob rows
    → IsRow rows at job row → 1 ≤ times_said rows job.0 → is_candidate row.side ≡ true
candidate_there rows at job row by_job is some = elim (cases_Bool (is_candidate row.side)) [
  | inl e ↦ e
  | inr e ↦
      let none = none_said row at rows by_job is.there e in
      let C : ℕ → ℕ = times_said rows in
      let same = ap C (number_is rows at job row is) in
      absurd (omega (arith, none, same, some))
]

-- a row of the same job that says the same of the candidates changes none
same_candidates : (y row : Row) (i : ℕ) (rows : List Row) (candidates : List (Reverse JobNo))
    (len : ℕ) → AreCandidates rows candidates len → slice_get rows i ≡ Some row
    → y.turn.job.0 ≡ row.turn.job.0 → is_candidate y.side ≡ is_candidate row.side
    → AreCandidates (slice_set rows i y) candidates len
same_candidates y row i rows candidates len are e same sides = record {
  by_job = by_job_set y row i rows are.by_job e same;
  each = λ job.
      let stands = stands_at rows i row e in
      let counts = sum_by-set (weight_said job) rows i y row stands.0 in
      let was = ap (weight_said job) stands.1 in
      let N : ℕ → ℕ = λ n. one_if (is_candidate y.side && nat_eq n job) in
      let S : Bool → ℕ = λ b. one_if (b && nat_eq row.turn.job.0 job) in
      let now = ap N same in
      let said_now = ap S sides in
      let old = are.each job in
      omega (arith, counts, was, now, said_now, old);
  count =
      let stands = stands_at rows i row e in
      let counts = sum_by-set said rows i y row stands.0 in
      let was = ap said stands.1 in
      let now = ap one_if sides in
      let old = are.count in
      omega (arith, counts, was, now, old);
}

-- the turn of a job comes back
pub back_candidates : (rows : List Row) (at : ℕ) (job : JobNo) (row : Row)
    (candidates : List (Reverse JobNo)) (len : ℕ) → AreCandidates rows candidates len
    → IsRow rows at job row → is_out row.side ≡ true
    → AreCandidates (slice_set rows at (record row { side = side.Back })) candidates len
back_candidates rows at job row candidates len are is out =
    same_candidates (record row { side = side.Back }) row at rows candidates len are is.there refl
    (sym (out_is_candidate row.side out))

offered : (s : Side) (job : JobNo) (candidates after : List (Reverse JobNo)) (n : ℕ)
    → Offers s job candidates after → times_candidate after n + one_if (is_candidate s && nat_eq job.0 n)
    ≡ times_candidate candidates n + one_if (nat_eq job.0 n)
offered side.In job candidates after n h =
    let one : Reverse JobNo = record { 0 = job } in
    let more = sum_by_pushed (weight n) one candidates after h in omega (arith, more)
offered side.Back job candidates after n h =
    let C : List (Reverse JobNo) → ℕ = λ cs. times_candidate cs n in
    let same = ap C h in omega (arith, same)
offered side.Out job candidates after n h =
    let C : List (Reverse JobNo) → ℕ = λ cs. times_candidate cs n in
    let same = ap C h in omega (arith, same)

both_ways : (b : Bool) → cond b 0 1 + one_if b ≡ 1
both_ways true = refl
both_ways false = refl

-- a turn goes out, and its job is offered
pub put_candidates : (rows : List Row) (at : ℕ) (t : Turn) (row : Row)
    (candidates after : List (Reverse JobNo)) (len len_after : ℕ)
    → AreCandidates rows candidates len → IsRow rows at t.job row
    → Offers row.side row.turn.job candidates after
    → len_after ≡ len + cond (is_candidate row.side) 0 1
    → AreCandidates (slice_set rows at (out_row t)) after len_after
put_candidates rows at t row candidates after len len_after are is offers lens =
    let same = number_is rows at t.job row is in
    let stands = stands_at rows at row is.there in
    record {
      by_job = by_job_set (out_row t) row at rows are.by_job is.there (sym same);
      each = λ job.
          let counts = sum_by-set (weight_said job) rows at (out_row t) row stands.0 in
          let was = ap (weight_said job) stands.1 in
          let N : ℕ → ℕ = λ n. one_if (nat_eq n job) in
          let now = ap N same in
          let more = offered row.side row.turn.job candidates after job offers in
          let old = are.each job in
          omega (arith, counts, was, now, more, old);
      count =
          let counts = sum_by-set said rows at (out_row t) row stands.0 in
          let was = ap said stands.1 in
          let both = both_ways (is_candidate row.side) in
          let old = are.count in
          omega (arith, counts, was, both, old, lens);
    }

-- where a row is no candidate, there are fewer candidates than rows
pub room_for_one : (rows : List Row) (i : ℕ) (row : Row) → slice_get rows i ≡ Some row
    → is_candidate row.side ≡ false → sum_said rows + 1 ≤ length rows
room_for_one rows i row e quiet = go rows i e
  where
    few : (rs : List Row) → sum_said rs ≤ length rs
    few [] = omega arith
    few (r ∷ rs) =
        let counts = sum_by-cons said r rs in
        let rest = few rs in
        let one = one_at_most (is_candidate r.side) in omega (arith, counts, rest, one)

    go : (rs : List Row) (k : ℕ) → slice_get rs k ≡ Some row → sum_said rs + 1 ≤ length rs
    go [] zero e = absurd (cc)
    go [] (suc k) e = absurd (cc)
    go (r ∷ rs) zero e =
        let counts = sum_by-cons said r rs in
        let here = ap said (some_is r row e) in
        let none = ap one_if quiet in
        let rest = few rs in omega (arith, counts, here, none, rest)
    go (r ∷ rs) (suc k) e =
        let counts = sum_by-cons said r rs in
        let rest = go rs k e in
        let one = one_at_most (is_candidate r.side) in omega (arith, counts, rest, one)

-- the first candidate came back, and is dropped
pub drop_candidates : (rows : List Row) (at : ℕ) (job : JobNo) (row : Row) (c : Reverse JobNo)
    (candidates after : List (Reverse JobNo)) (len len_after : ℕ)
    → AreCandidates rows candidates len → IsRow rows at job row → c.0 ≡ job
    → IsPermutation candidates (c ∷ after) → len_after + 1 ≡ len
    → AreCandidates (slice_set rows at (record row { side = side.In })) after len_after
drop_candidates rows at job row c candidates after len len_after are is first popped lens =
    let left : Row = record row { side = side.In } in
    let same = number_is rows at job row is in
    let plain : JobNo → ℕ = λ j. j.0 in
    let first_is : c.0.0 ≡ row.turn.job.0 = ap plain first ∙ sym same in
    let stands = stands_at rows at row is.there in
    let some : 1 ≤ times_said rows job.0 = (
    let gone = sum_by_popped (weight job.0) c candidates after popped in
    let itself : nat_eq c.0.0 job.0 ≡ true = eq-eqb c.0.0 job.0 (ap plain first) in
    let one = ap one_if itself in
    let old = are.each job.0 in
    omega (arith, gone, one, old)) in
    let candidate = candidate_there rows at job row are.by_job is some in
    record {
      by_job = by_job_set left row at rows are.by_job is.there refl;
      each = λ n.
          let counts = sum_by-set (weight_said n) rows at left row stands.0 in
          let was = ap (weight_said n) stands.1 in
          let S : Bool → ℕ = λ b. one_if (b && nat_eq row.turn.job.0 n) in
          let said_was = ap S candidate in
          let gone = sum_by_popped (weight n) c candidates after popped in
          let N : ℕ → ℕ = λ k. one_if (nat_eq k n) in
          let one = ap N first_is in
          let old = are.each n in
          omega (arith, counts, was, said_was, gone, one, old);
      count =
          let counts = sum_by-set said rows at left row stands.0 in
          let was = ap said stands.1 in
          let one = ap one_if candidate in
          let old = are.count in
          omega (arith, counts, was, one, old, lens);
    }

-- a job that is among the candidates has a row
pub candidate_known : (rows : List Row) (candidates : List (Reverse JobNo)) (len : ℕ)
    (c : Reverse JobNo) → AreCandidates rows candidates len → c ≡ get_or candidates 0 c
    → 0 < length candidates → 1 ≤ times_said rows c.0.0
candidate_known rows candidates len c are first some =
    let itself : nat_eq c.0.0 c.0.0 ≡ true = eq-eqb c.0.0 c.0.0 refl in
    let count = counted (λ (d : Reverse JobNo). nat_eq d.0.0 c.0.0) candidates c (0, some, sym first)
    itself in
    let old = are.each c.0.0 in
    omega (arith, count, old)

pub candidate_has_row : (rows : List Row) (candidates : List (Reverse JobNo)) (len : ℕ)
    (c : Reverse JobNo) → AreCandidates rows candidates len → c ≡ get_or candidates 0 c
    → 0 < length candidates → 1 ≤ times_row rows c.0.0
candidate_has_row rows candidates len c are first some =
    let known = candidate_known rows candidates len c are first some in
    let le = said_le rows c.0.0 in omega (arith, known, le)

-- two that are the first item of a list are one
pub same_top : (candidates : List (Reverse JobNo)) (c d : Reverse JobNo)
    → c ≡ get_or candidates 0 c → d ≡ get_or candidates 0 d → 0 < length candidates → c ≡ d
same_top [] c d is other some = absurd (omega arith)
same_top (x ∷ candidates) c d is other some = is ∙ sym other

-- the order of the heap
abbrev pub heap_cmp : Reverse JobNo → Reverse JobNo → Ordering
heap_cmp c d = nat_cmp d.0.0 c.0.0

not_below : (job other : ℕ) → is_lt (nat_cmp other job) ≡ false → job ≤ other
not_below job other h = grind (arith, nat_tests)

-- the first of the heap is the least
least_of : (c : Reverse JobNo) (candidates : List (Reverse JobNo))
    → IsUpperBound heap_cmp c candidates → (job : ℕ) → 1 ≤ times_candidate candidates job
    → c.0.0 ≤ job
least_of c [] bound job some = absurd (omega (arith, some))
least_of c (d ∷ candidates) bound job some =
    let counts = sum_by-cons (weight job) d candidates in
    elim (eqb_tells d.0.0 job) [
      | inl same ↦ (let le = not_below c.0.0 d.0.0 bound.0 in omega (arith, le, same.1))
      | inr other ↦ (
          let none = ap one_if other.0 in
          least_of c candidates bound.1 job (omega (arith, counts, none, some)))
    ]

-- where no turn was out before, the first candidate is still out
leads_put : (t : Turn) (row : Row) (i : ℕ) (rows : List Row) → LeadsOut rows
    → slice_get rows i ≡ Some row → LeadsOut (slice_set rows i (out_row t))
leads_put t row zero [] leads e = tt
leads_put t row (suc i) [] leads e = tt
leads_put t row zero (r ∷ rs) leads e = tt
leads_put t row (suc i) (r ∷ rs) leads e =
    leads_by r.side (LeadsOut rs) (LeadsOut (slice_set rs i (out_row t)))
    (λ rest. leads_put t row i rs rest e) leads

pub put_leads : (rows : List Row) (at : ℕ) (t : Turn) (row : Row) → LeadsOut rows
    → IsRow rows at t.job row → LeadsOut (slice_set rows at (out_row t))
put_leads rows at t row leads is = leads_put t row at rows leads is.there

pub insert_leads : (t : Turn) (i : ℕ) (rows : List Row) → LeadsOut rows
    → LeadsOut (insert rows i (record { turn = t; side = side.In }))
insert_leads t zero [] leads = tt
insert_leads t (suc i) [] leads = tt
insert_leads t zero (r ∷ rs) leads = leads
insert_leads t (suc i) (r ∷ rs) leads =
    leads_by r.side (LeadsOut rs) (LeadsOut (insert rs i (record { turn = t; side = side.In })))
    (λ rest. insert_leads t i rs rest) leads

-- so is it where the least one is
leads_least : (row : Row) (i : ℕ) (rows : List Row) → AreByJob rows → slice_get rows i ≡ Some row
    → is_out row.side ≡ true
    → ((job : ℕ) → 1 ≤ times_said rows job → row.turn.job.0 ≤ job) → LeadsOut rows
leads_least row zero [] by_job e out least = absurd (cc)
leads_least row (suc i) [] by_job e out least = absurd (cc)
leads_least row zero (r ∷ rs) by_job e out least =
    let S : Row → Bool = λ v. is_out v.side in
    leads_at r.side (LeadsOut rs) (ap S (some_is r row e) ∙ out)
leads_least row (suc i) (r ∷ rs) by_job e out least =
    let above = row_above r.turn.job.0 i rs row by_job.0 e in
    elim (cases_Bool (is_candidate r.side)) [
      | inl says ↦ (
          let more = sum_by-cons (weight_said r.turn.job.0) r rs in
          let one = self_said r says in
          let le = least r.turn.job.0 (omega (arith, more, one)) in
          absurd (omega (arith, le, above)))
      | inr quiet ↦ leads_over r.side (LeadsOut rs) quiet (leads_least row i rs by_job.1 e out (λ job some.
          least job (let more = sum_by-cons (weight_said job) r rs in omega (arith, more, some))))
    ]

pub first_leads : (rows : List Row) (at : ℕ) (row : Row) (c : Reverse JobNo)
    (candidates : List (Reverse JobNo)) (len : ℕ) → AreCandidates rows candidates len
    → IsRow rows at c.0 row → is_out row.side ≡ true → IsUpperBound heap_cmp c candidates
    → LeadsOut rows
first_leads rows at row c candidates len are is out bound =
    let same = number_is rows at c.0 row is in
    leads_least row at rows are.by_job is.there out (λ job some.
    (let old = are.each job in
    let le = least_of c candidates bound job (omega (arith, old, some)) in
    omega (arith, le, same)))

leads_none : (rows : List Row) → ((job : ℕ) → times_said rows job ≡ 0)
    → LeadsOut rows × (outs rows ≡ [])
leads_none [] none = (tt, refl)
leads_none (r ∷ rs) none = elim (cases_Bool (is_candidate r.side)) [
  | inl says ↦ (
      let more = sum_by-cons (weight_said r.turn.job.0) r rs in
      let one = self_said r says in
      let zero_here = none r.turn.job.0 in
      absurd (omega (arith, more, one, zero_here)))
  | inr quiet ↦
      let rest = leads_none rs (λ job.
      (let more = sum_by-cons (weight_said job) r rs in
      let zero_here = none job in omega (arith, more, zero_here))) in
      (leads_over r.side (LeadsOut rs) quiet rest.0, rw (no_candidate_inside r.side quiet) rest.1)
]

-- where there is no candidate, none is out
pub none_leads : (rows : List Row) (candidates : List (Reverse JobNo)) (len : ℕ)
    → AreCandidates rows candidates len → length candidates ≡ 0
    → LeadsOut rows × (outs rows ≡ [])
none_leads rows [] len are none = leads_none rows (λ job. sym (are.each job))
none_leads rows (c ∷ candidates) len are none = absurd (omega (arith, none))

out_first : (row : Row) (i : ℕ) (rows : List Row) → AreByJob rows → LeadsOut rows
    → slice_get rows i ≡ Some row → is_candidate row.side ≡ true
    → ((job : ℕ) → 1 ≤ times_said rows job → row.turn.job.0 ≤ job)
    → slice_get (outs rows) 0 ≡ Some row.turn
out_first row zero [] by_job leads e candidate least = absurd (cc)
out_first row (suc i) [] by_job leads e candidate least = absurd (cc)
out_first row zero (r ∷ rs) by_job leads e candidate least =
    let it = some_is r row e in
    let out = leads_first r.side (LeadsOut rs) leads (ap candidate_at it ∙ candidate) in
    rw out (ap (λ (v : Row). Some v.turn) it)
out_first row (suc i) (r ∷ rs) by_job leads e candidate least =
    let above = row_above r.turn.job.0 i rs row by_job.0 e in
    elim (cases_Bool (is_candidate r.side)) [
      | inl says ↦ (
          let more = sum_by-cons (weight_said r.turn.job.0) r rs in
          let one = self_said r says in
          let le = least r.turn.job.0 (omega (arith, more, one)) in
          absurd (omega (arith, le, above)))
      | inr quiet ↦ rw (no_candidate_inside r.side quiet) (out_first row i rs by_job.1
          (leads_rest r.side (LeadsOut rs) leads quiet) e candidate (λ job some.
          least job (let more = sum_by-cons (weight_said job) r rs in omega (arith, more, some))))
    ]

-- the first candidate is the least job that is out
pub first_out : (rows : List Row) (at : ℕ) (row : Row) (c : Reverse JobNo)
    (candidates : List (Reverse JobNo)) (len : ℕ) → AreCandidates rows candidates len
    → LeadsOut rows → IsRow rows at c.0 row → c ≡ get_or candidates 0 c → 0 < length candidates
    → IsUpperBound heap_cmp c candidates → slice_get (outs rows) 0 ≡ Some row.turn
first_out rows at row c candidates len are leads is first some bound =
    let same = number_is rows at c.0 row is in
    let known = candidate_known rows candidates len c are first some in
    let candidate = candidate_there rows at c.0 row are.by_job is known in
    out_first row at rows are.by_job leads is.there candidate (λ job said_so.
    (let old = are.each job in
    let le = least_of c candidates bound job (omega (arith, old, said_so)) in
    omega (arith, le, same)))

-- a new job is no candidate
pub insert_candidates : (rows : List Row) (at : ℕ) (t : Turn) (candidates : List (Reverse JobNo))
    (len : ℕ) → AreCandidates rows candidates len → at ≡ row_rank t.job.0 rows
    → times_row rows t.job.0 ≡ 0
    → AreCandidates (insert rows at (record { turn = t; side = side.In })) candidates len
insert_candidates rows at t candidates len are place new =
    let y : Row = record { turn = t; side = side.In } in
    let P : ℕ → Type 0 = λ i. AreByJob (insert rows i y) in
    record {
      by_job = subst P (sym place) (by_job_insert y rows are.by_job new);
      each = λ job.
          let more = sum_by-insert (weight_said job) rows at y in
          let old = are.each job in omega (arith, more, old);
      count =
          let more = sum_by-insert said rows at y in
          let old = are.count in omega (arith, more, old);
    }
