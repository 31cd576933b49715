-- What a trigger does, by what its calls did.
use Rattle.std.proofs.Common.{◌≡◌, inl, inr, refl, sym, ap, subst, ◌∙◌, zero, suc, ℕ, ◌+◌, ◌<◌, ◌≤◌, Bool, true, false, cond, List, [], ◌∷◌, ◌++◌, length, get_or, take, arith}
use Rattle.std.proofs.lemmas.Bool.Decides.{eqb_tells, nat_tests}
use Rattle.std.proofs.lemmas.List.Sums.{sum_by-cons}
use Rattle.std.specs.List.{AllByRecursion}
use Rattle.std.specs.Prelude.{Option, Some, None, Result, Ok, Err, IfOk, OnErr, IfSome, nat_eq, nat_le, nat_lt, ◌&&◌}
use Rattle.hr_base.specs.declared.memory.Memory.{Memory}
use Rattle.hr_base.specs.declared.number.ExecNo.{ExecNo}
use Rattle.hr_base.specs.declared.number.PolicyNo.{PolicyNo}
use Rattle.hr_event.specs.declared.task.TaskSpec.{TaskSpec}
use Rattle.hr_event.specs.declared.told.Told.{Told}
use Rattle.hr_event.specs.declared.told.Told.TheVariants as told
use Rattle.hr_event.specs.declared.view.Trigger.TheVariants.{Manual}
use Rattle.hr_board.specs.Plain.{Plain, view_of}
use Rattle.hr_queue.specs.Adding.{Adds, IsFit}
use Rattle.hr_queue.specs.View as queue
use Rattle.hr_queue.specs.View.{AreDistinct, times_added}
use Rattle.hr_queue.specs.declared.answer.Queued.{Queued}
use Rattle.hr_store.specs.Creating.{CreatesExec, has_room}
use Rattle.hr_store.specs.Store.{StoreState, execs_failing}
use Rattle.hr_store.specs.declared.refusal.CreateRefused.TheVariants.{Full}
use Rattle.hr_run.specs.Holds.{HasAttempts}
use Rattle.hr_run.specs.Ready.{IsReady}
use Rattle.hr_run.specs.Sound.{IsSound}
use Rattle.hr_run.specs.State.{CoreState, queued_from}
use Rattle.hr_run.specs.Triggering.{Creates, FailsToPlan, IsFull, Triggers, moment_of, tasks_of}
use Rattle.hr_run.specs.Triggering.Triggers.{creates, fails, is_full}
use Rattle.hr_core.specs.Planning.{FailsAsPlanned, RunsPlan, TriggerCut}

abbrev one : PolicyNo
one = record { 0 = 1 }

-- ---- jobs of tasks

abbrev pub Q : ℕ → ℕ → Queued
Q job attempts = record { job = record { 0 = job }; attempts = attempts }

pub queued_take : (n at : ℕ) (tasks : List TaskSpec) (task : TaskSpec) → at < length tasks → task ≡ get_or tasks at task
    → queued_from n (take (suc at) tasks) ≡ queued_from n (take at tasks) ++ Q (n + at + 1) task.attempts ∷ []
queued_take n at [] task within is = absurd (omega (arith, within))
queued_take n zero (x ∷ tasks) task within is =
    ap (λ (j : ℕ). Q j x.attempts ∷ []) (let e : suc n ≡ n + 0 + 1 = omega arith in e)
    ∙ ap (λ (t : TaskSpec). Q (n + 0 + 1) t.attempts ∷ []) (sym is)
queued_take n (suc at) (x ∷ tasks) task within is =
    ap (λ (qs : List Queued). Q (suc n) x.attempts ∷ qs) (queued_take (suc n) at tasks task (omega (arith, within)) is
    ∙ ap (λ (j : ℕ). queued_from (suc n) (take at tasks) ++ Q j task.attempts ∷ [])
    (let e : suc n + at + 1 ≡ n + suc at + 1 = omega arith in e))

pub queued_more : (n m : ℕ) (xs ys : List TaskSpec) → m ≡ n + length xs
    → queued_from n (xs ++ ys) ≡ queued_from n xs ++ queued_from m ys
queued_more n m [] ys e = ap (λ (k : ℕ). queued_from k ys) (let k : n ≡ m = omega (arith, e) in k)
queued_more n m (x ∷ xs) ys e =
    ap (λ (qs : List Queued). Q (suc n) x.attempts ∷ qs) (queued_more (suc n) m xs ys (omega (arith, e)))

pub length_queued : (n : ℕ) (specs : List TaskSpec) → length (queued_from n specs) ≡ length specs
length_queued n [] = refl
length_queued n (x ∷ specs) = let r = length_queued (suc n) specs in omega (arith, r)

fits_from : (jobs n : ℕ) (specs : List TaskSpec) → n + length specs ≤ jobs → AllByRecursion HasAttempts specs
    → AllByRecursion (IsFit jobs) (queued_from n specs)
fits_from jobs n [] less few = tt
fits_from jobs n (spec ∷ specs) less few =
    ((omega arith, omega (arith, less), few.0.0, few.0.1), fits_from jobs (suc n) specs (omega (arith, less)) few.1)

abbrev one_if : Bool → ℕ
one_if b = cond b 1 0

abbrev weight : ℕ → Queued → ℕ
weight job a = one_if (nat_eq a.job.0 job)

weight_other : (n job : ℕ) → job < n → one_if (nat_eq n job) ≡ 0
weight_other n job less = grind (arith, nat_tests)

weight_few : (b : Bool) → one_if b ≤ 1
weight_few true = omega arith
weight_few false = omega arith

queued_none : (n : ℕ) (specs : List TaskSpec) (job : ℕ) → job ≤ n → times_added (queued_from n specs) job ≡ 0
queued_none n [] job less = refl
queued_none n (x ∷ specs) job less =
    let more = sum_by-cons (weight job) (Q (suc n) x.attempts) (queued_from (suc n) specs) in
    let first = weight_other (suc n) job (omega (arith, less)) in
    let rest = queued_none (suc n) specs job (omega (arith, less)) in
    omega (arith, more, first, rest)

pub queued_once : (n : ℕ) (specs : List TaskSpec) → AreDistinct (queued_from n specs)
queued_once n [] job = omega arith
queued_once n (x ∷ specs) job =
    let more = sum_by-cons (weight job) (Q (suc n) x.attempts) (queued_from (suc n) specs) in
    elim (eqb_tells (suc n) job) [
      | inl is ↦ (let same : suc n ≡ job = is.1 in
          let rest = queued_none (suc n) specs job (omega (arith, same)) in
          let few = weight_few (nat_eq (suc n) job) in
          omega (arith, more, rest, few))
      | inr other ↦ (let none : one_if (nat_eq (suc n) job) ≡ 0 = ap one_if other.0 in
          let rest = queued_once (suc n) specs job in
          omega (arith, more, rest, none))
    ]

-- ---- what the calls ask

planned_few : (s : CoreState) (specs : List TaskSpec) → IsReady s → s.plan ≡ Some specs → AllByRecursion HasAttempts specs
planned_few s specs ready planned =
    subst (λ (p : Option (List TaskSpec)). IfSome p (AllByRecursion HasAttempts)) planned ready.holds.planned

-- the jobs fit the board
pub jobs_are_fit : (s : CoreState) (specs : List TaskSpec) (queued : List Queued) → IsReady s → s.plan ≡ Some specs
    → queued ≡ queued_from (length s.made) specs → length s.made + length specs ≤ s.store.limit
    → AllByRecursion (IsFit (view_of s.board).jobs) queued
jobs_are_fit s specs queued ready planned is few =
    let limit = ready.holds.fits in
    let L : List Queued → Type 0 = λ qs. AllByRecursion (IsFit (view_of s.board).jobs) qs in
    subst L (sym is)
    (fits_from (view_of s.board).jobs (length s.made) specs (omega (arith, few, limit)) (planned_few s specs ready planned))

-- and are new
pub jobs_are_new : (s : CoreState) (specs : List TaskSpec) (queued : List Queued) → IsReady s
    → queued ≡ queued_from (length s.made) specs → AreDistinct (s.turns.added ++ queued)
jobs_are_new s specs queued ready is =
    subst AreDistinct (queued_more 0 (length s.made) s.made specs (omega arith)
    ∙ ap (λ (qs : List Queued). qs ++ queued_from (length s.made) specs) (sym ready.holds.added)
    ∙ ap (λ (qs : List Queued). s.turns.added ++ qs) (sym is)) (queued_once 0 (s.made ++ specs))

no_room : (sum limit made : ℕ) → limit < sum → (nat_le sum limit && nat_lt made 4294967295) ≡ false
no_room sum limit made less = grind (arith, nat_tests)

-- ---- what was done

-- the store may not make so many jobs more
pub full_before : (before now : CoreState) (specs : List TaskSpec) (jobs : ℕ) → before ≡ now → IsReady now → now.plan ≡ Some specs
    → jobs ≡ now.store.limit → now.store.limit < length now.made + length specs → RunsPlan now specs (told.Full jobs) before
full_before before now specs jobs same ready planned is many =
    let n = ready.holds.numbered in
    let full : has_room now.store (length specs) ≡ false =
    no_room (now.store.jobs + length specs) now.store.limit now.store.made (omega (arith, many, n)) in
    subst (λ (x : CoreState). RunsPlan now specs (told.Full jobs) x) (sym same) (inr (record {
      jobs = jobs;
      refused = subst (λ (p : Option (List TaskSpec)). CreatesExec now.store one Manual (tasks_of p) (moment_of now) (Err (Full jobs)) now.store)
          (sym planned) (full, is, refl);
      tells = refl;
      after = record { room = refl; after = refl };
    }))

-- the store refused the execution
pub full_made : (before now : CoreState) (specs : List TaskSpec) (turns : queue.View) (store : StoreState) (jobs : ℕ) → before ≡ now
    → tasks_of now.plan ≡ specs → turns ≡ record before.turns { spare = turns.spare }
    → CreatesExec before.store one Manual specs (moment_of before) (Err (Full jobs)) store
    → IsFull now (told.Full jobs) (record before { turns = turns; store = store })
full_made before now specs turns store jobs same planned room refused =
    let stays : store ≡ before.store = refused.2 in
    let T : CoreState → Type 0 = λ x. IsFull x (told.Full jobs) (record before { turns = turns; store = store }) in
    subst T same (record {
      jobs = jobs;
      refused = subst (λ (ts : List TaskSpec). CreatesExec before.store one Manual ts (moment_of before) (Err (Full jobs)) store)
          (sym (ap (λ (x : CoreState). tasks_of x.plan) same ∙ planned)) refused;
      tells = refl;
      after = record { room = room; after = ap (λ (st : StoreState). record before { turns = turns; store = st }) stays };
    })

-- an execution was made
pub created_made : (before now : CoreState) (specs : List TaskSpec) (reserved turns : queue.View) (queued : List Queued) (store : StoreState)
    (board : Plain) (made : List TaskSpec) (exec : ExecNo) (count : ℕ) → before ≡ now → now.plan ≡ Some specs
    → reserved ≡ record before.turns { spare = reserved.spare } → IsSound (record before { turns = reserved })
    → CreatesExec before.store one Manual specs (moment_of before) (Ok exec) store
    → queued ≡ queued_from (length before.made) specs → Adds reserved (view_of before.board) queued turns (view_of board)
    → made ≡ before.made ++ specs → count ≡ length specs
    → Creates now specs (told.Created exec count) (record before { board = board; turns = turns; store = store; made = made })
created_made before now specs reserved turns queued store board made exec count same planned room sound created is adds made_is counted =
    let t : CoreState = record before { board = board; turns = turns; store = store; made = made } in
    subst (λ (x : CoreState). Creates x specs (told.Created exec count) t) same (record {
      planned = ap (λ (x : CoreState). x.plan) same ∙ planned;
      mid = record before { turns = reserved };
      reserved = record { room = room; after = refl };
      sound = sound;
      exec = exec;
      created = created;
      adds = subst (λ (qs : List Queued). Adds reserved (view_of before.board) qs turns (view_of board)) is adds;
      made = made_is;
      tells = ap (λ (n : ℕ). told.Created exec n) counted;
      after = refl;
    })

-- the plan failed
pub failed_made : (before now : CoreState) (made store : StoreState) (exec : ExecNo) → before ≡ now → now.plan ≡ None
    → CreatesExec before.store one Manual [] (moment_of before) (Ok exec) made
    → store ≡ record made { kept = execs_failing exec.0 made.kept }
    → FailsToPlan now (told.PlanFailed exec) (record before { store = store })
failed_made before now made store exec same none created marked =
    subst (λ (x : CoreState). FailsToPlan x (told.PlanFailed exec) (record before { store = store })) same (record {
      planned = ap (λ (x : CoreState). x.plan) same ∙ none;
      exec = exec;
      store = made;
      created = created;
      marked = marked;
      tells = refl;
      after = refl;
    })

-- a trigger, by the plan
pub fails_triggered : (s t : CoreState) (policy : PolicyNo) (r : Result Told Memory) → policy.0 ≡ 1
    → IfOk r (λ answer. FailsAsPlanned s answer t) → IfOk r (λ answer. Triggers s policy answer t)
fails_triggered s t policy (Ok answer) first (inl h) = fails first h
fails_triggered s t policy (Ok answer) first (inr h) = is_full first h
fails_triggered s t policy (Err why) first h = tt

pub plan_triggered : (s t : CoreState) (policy : PolicyNo) (specs : List TaskSpec) (r : Result Told Memory) → policy.0 ≡ 1
    → IfOk r (λ answer. RunsPlan s specs answer t) → IfOk r (λ answer. Triggers s policy answer t)
plan_triggered s t policy specs (Ok answer) first (inl h) = creates specs first h
plan_triggered s t policy specs (Ok answer) first (inr h) = is_full first h
plan_triggered s t policy specs (Err why) first h = tt

pub cut_same : (s t : CoreState) (r : Result Told Memory) → OnErr r (t ≡ s) → OnErr r (TriggerCut s t)
cut_same s t (Ok answer) same = tt
cut_same s t (Err why) same = inl same
