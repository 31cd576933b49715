-- Lemmas on the words of specs/Adding.antt: the jobs of a list are added one by one.
use Rattle.std.proofs.Common.{◌≡◌, ℕ, ◌+◌, ◌-◌, ◌<◌, Bool, cond, List, [], ◌∷◌, ◌++◌, length, get_or, take, drop, refl, sym, ap, ◌∙◌, subst, append_assoc, arith, eq-eqb}
use Rattle.std.proofs.lemmas.List.{append-nil, take_more, drop_more}
use Rattle.std.proofs.lemmas.List.Sums.{sum_by-append, sum_by-cons}
use Rattle.std.specs.Prelude.{nat_eq}
use Rattle.hr_board.specs.View as board
use Rattle.hr_board.specs.View.{Keeps, Notes}
use Rattle.hr_queue.specs.Adding.{Adds, AddsOne}
use Rattle.hr_queue.specs.declared.answer.Queued.{Queued}
use Rattle.hr_queue.specs.View.{View, AreDistinct, times_added}

-- how much a job adds to the count of another
abbrev weight : ℕ → Queued → ℕ
weight job a = cond (nat_eq a.job.0 job) 1 0

weight-self : (a : Queued) → weight a.job.0 a ≡ 1
weight-self a = ap (λ (b : Bool). cond b 1 0) (eq-eqb a.job.0 a.job.0 refl)

-- the next job was not added before, where no job stands twice among those added and those left
pub next_new : (added jobs : List Queued) (i : ℕ) (d : Queued) → i < length jobs
    → AreDistinct (added ++ drop i jobs) → times_added added (get_or jobs i d).job.0 ≡ 0
next_new added jobs i d within distinct =
    let next = get_or jobs i d in
    let job = next.job.0 in
    let all = sum_by-append (weight job) added (drop i jobs) in
    let C : List Queued → ℕ = λ js. times_added js job in
    let front = ap C (drop_more jobs i d within) in
    let here = sum_by-cons (weight job) next (drop (i + 1) jobs) in
    let one = weight-self next in
    let once = distinct job in
    omega (arith, all, front, here, one, once)

-- and so it is after the next job was added
pub still_distinct : (added adds jobs : List Queued) (i : ℕ) (d : Queued) → i < length jobs
    → AreDistinct (added ++ drop i jobs) → adds ≡ added ++ get_or jobs i d ∷ []
    → AreDistinct (adds ++ drop (i + 1) jobs)
still_distinct added adds jobs i d within distinct is =
    let next = get_or jobs i d in
    let F : List Queued → List Queued = λ js. added ++ js in
    let G : List Queued → List Queued = λ js. js ++ drop (i + 1) jobs in
    let same : added ++ drop i jobs ≡ adds ++ drop (i + 1) jobs =
    ap F (drop_more jobs i d within) ∙ sym (append_assoc added (next ∷ []) (drop (i + 1) jobs))
    ∙ sym (ap G is) in
    subst AreDistinct same distinct

pub adds_more : (q : View) (b : board.View) (jobs : List Queued) (i : ℕ) (x : Queued) (m r : View)
    (d c : board.View) → i < length jobs → Adds q b (take i jobs) m d
    → AddsOne m d (get_or jobs i x) r c → Adds q b (take (i + 1) jobs) r c
adds_more q b jobs i x m r d c within all one =
    let P : List Queued → Type 0 = λ js. Adds q b js r c in
    subst P (sym (take_more jobs i x within))
    (Adds.one_more (take i jobs) (get_or jobs i x) m r d c all one)

-- what calls keep of a board, none and one after the other
pub keeps_itself : (b : board.View) → Keeps b b
keeps_itself b =
    record { jobs = refl; allows = refl; more = []; notes = sym (append-nil b.notes) }

pub keeps_after : (b c d : board.View) → Keeps b c → Keeps c d → Keeps b d
keeps_after b c d first second = record {
  jobs = second.jobs ∙ first.jobs;
  allows = second.allows ∙ first.allows;
  more = first.more ++ second.more;
  notes = second.notes ∙ ap (λ (notes : Notes). notes ++ second.more) first.notes
      ∙ append_assoc b.notes first.more second.more;
}

-- the jobs that were added, and for how many more there is room, after one job
pub added_one : (q : View) (b : board.View) (job : Queued) (r : View) (c : board.View)
    → AddsOne q b job r c → r.added ≡ q.added ++ job ∷ []
added_one q b job r c one = ap (λ (v : View). v.added) one.after

pub spare_one : (q : View) (b : board.View) (job : Queued) (r : View) (c : board.View)
    → AddsOne q b job r c → r.spare ≡ q.spare - 1
spare_one q b job r c one = ap (λ (v : View). v.spare) one.after
