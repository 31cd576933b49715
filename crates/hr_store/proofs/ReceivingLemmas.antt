-- Lemmas on what receiving a hook does.
use Rattle.std.proofs.Common.{◌≡◌, ℕ, ◌+◌, ◌-◌, ◌<◌, Bool, true, false, List, length, map, get_or, set, slice_get, Some, sym, ap, ◌∙◌, subst, arith}
use Rattle.hr_store.specs.Execution.{ExecState, RowReceives}
use Rattle.hr_store.specs.Kept.{ExecReceives}
use Rattle.hr_store.specs.Places.{RowStands}
use Rattle.hr_store.specs.Receiving.{FindsWord, ReceivesHook, TakesHook}
use Rattle.hr_store.specs.Row.{RowState}
use Rattle.hr_store.specs.Store.{AreOrdered, StoreState, execs_hearing, row_of_job}
use Rattle.hr_board.specs.View as board
use Rattle.hr_base.specs.declared.status.Mark.{Mark}
use Rattle.hr_base.specs.Status.{Covers}
use Rattle.hr_event.specs.declared.view.Received.{Received}
use Rattle.hr_event.specs.declared.view.Received.TheVariants as received
use Rattle.hr_base.specs.declared.status.Hook.{Hook}
use Rattle.hr_store.proofs.ListLemmas.{get-back, one-at}
use Rattle.hr_store.proofs.PlaceLemmas.{job-at, numbered-at, place-hear, place-row, stands}

pub stands-heard : (kept : List ExecState) (h : Hook) (at place : ℕ) (e new : ExecState) (raised : Bool) → AreOrdered 0 0 kept → RowStands kept h.job.0 at place → e ≡ get_or kept at e
    → (r : RowReceives e.rows place h raised new.rows) → new ≡ record e { rows = new.rows } → (row_of_job h.job.0 kept ≡ Some r.row) × (set kept at new ≡ execs_hearing h kept)
stands-heard kept h at place e new raised o s q r n =
    let same = one-at kept at e s.exec s.within q s.exec_is in
    let L : ExecState → ℕ = λ v. length v.rows in
    let B : ExecState → ℕ = λ v. v.before in
    let len = ap L same in
    let bef = ap B same in
    let few : place < length e.rows = omega (arith, len, s.row_within) in
    let job : h.job.0 ≡ e.before + place + 1 = omega (arith, bef, s.job_is) in
    let row = get-back e.rows place r.row r.there in
    let R : List RowState → List ExecState = λ rs. set kept at (record e { rows = rs }) in
    let N : ExecState → List ExecState = λ v. set kept at v in (
      place-row 0 0 at h.job.0 place e r.row kept o s.rank s.within q few row job,
      ap N n ∙ (ap R r.set ∙ place-hear 0 0 at place h e r.row kept o s.rank s.within q few row job),
    )

-- the row at the place of a job is that of the job
pub right-job : (kept : List ExecState) (h : Hook) (at place : ℕ) (e : ExecState) (r : RowState) → AreOrdered 0 0 kept → RowStands kept h.job.0 at place → slice_get kept at ≡ Some e
    → slice_get e.rows place ≡ Some r → h.job.0 ≡ r.job
right-job kept h at place e r o s there g =
    let q = get-back kept at e there in
    let same = one-at kept at e s.exec s.within q s.exec_is in
    let B : ExecState → ℕ = λ v. v.before in
    let bef = ap B same in
    let j = job-at e.before place r e.rows (numbered-at 0 0 at e kept o s.within q) g in
    omega (arith, bef, j, s.job_is)

-- the same where the execution stands in a map
pub taken : (kept after : List ExecState) (h : Hook) (at place : ℕ) (raised : Bool) → AreOrdered 0 0 kept → RowStands kept h.job.0 at place → (x : ExecReceives kept at place h raised after)
    → (row_of_job h.job.0 kept ≡ Some x.receives.row) × (after ≡ execs_hearing h kept)
taken kept after h at place raised o s x =
    let k = stands-heard kept h at place x.exec x.new raised o s (get-back kept at x.exec x.there) x.receives x.same in
    (k.0, x.set ∙ k.1)

pub heard-hook : (limit jobs made : ℕ) (kept after : List ExecState) (b c : board.View) (h : Hook) (mark : Mark) (at place : ℕ) (raised : Bool) → AreOrdered 0 0 kept → RowStands kept h.job.0 at place
    → ExecReceives kept at place h raised after → FindsWord b h mark c → Covers mark h.status
    → TakesHook (record { limit = limit; jobs = jobs; made = made; kept = kept }) b h raised (record { limit = limit; jobs = jobs; made = made; kept = after }) c
heard-hook limit jobs made kept after b c h mark at place raised o s x l w =
    let k = taken kept after h at place raised o s x in
    let V : List ExecState → StoreState = λ ks. record { limit = limit; jobs = jobs; made = made; kept = ks } in
    record { row = x.receives.row; there = k.0; mark = mark; found = l; covered = w; after_is = ap V k.1; rose = x.receives.rose }

-- the execution at the place of a job has its row
pub right-place : (kept : List ExecState) (h : Hook) (at place : ℕ) (e : ExecState) → RowStands kept h.job.0 at place → slice_get kept at ≡ Some e → place < length e.rows
right-place kept h at place e s g =
    let same = one-at kept at e s.exec s.within (get-back kept at e g) s.exec_is in
    let L : ExecState → ℕ = λ v. length v.rows in
    let len = ap L same in
    omega (arith, len, s.row_within)

pub receives-raised : (s r : StoreState) (b c : board.View) (h : Hook) (raised : Bool) (answer : Received) → raised ≡ true → answer ≡ received.Raised → TakesHook s b h raised r c → ReceivesHook s b h answer r c
receives-raised s r b c h raised answer t a k =
    let P : Bool → Type 0 = λ v. TakesHook s b h v r c in
    let Q : Received → Type 0 = λ v. ReceivesHook s b h v r c in
    subst Q (sym a) (subst P t k)

pub receives-known : (s r : StoreState) (b c : board.View) (h : Hook) (raised : Bool) (answer : Received) → raised ≡ false → answer ≡ received.Known → TakesHook s b h raised r c → ReceivesHook s b h answer r c
receives-known s r b c h raised answer t a k =
    let P : Bool → Type 0 = λ v. TakesHook s b h v r c in
    let Q : Received → Type 0 = λ v. ReceivesHook s b h v r c in
    subst Q (sym a) (subst P t k)
