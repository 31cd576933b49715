-- Lemmas on executions in order, and on the rows of a new one.
use Rattle.std.proofs.Common.{◌≡◌, ℕ, ◌+◌, ◌-◌, ◌<◌, ◌≤◌, List, [], ◌∷◌, ◌++◌, length, None, Some, ap, ◌∙◌, inl, inr, arith, suc, refl}
use Rattle.std.proofs.lemmas.Bool.Decides.{eqb_tells}
use Rattle.hr_store.specs.Creating.{new_rows}
use Rattle.hr_store.specs.Execution.{ExecState, last_job}
use Rattle.hr_store.specs.Row.{RowState}
use Rattle.hr_store.specs.Store.{AreMade, AreNumbered, AreOrdered, exec_numbered}
use Rattle.hr_board.specs.View as board
use Rattle.hr_event.specs.declared.view.Received.TheVariants as received
use Rattle.std.specs.List.{AllByRecursion}
use Rattle.hr_event.specs.declared.task.TaskSpec.{TaskSpec}
use Rattle.hr_store.proofs.RankLemmas.{Rising}

last-above : (a b least : ℕ) (es : List ExecState) → AreOrdered a b es → least ≤ b → AllByRecursion (λ y. least ≤ last_job y) es
last-above a b least [] o l = tt
last-above a b least (e ∷ es) o l = (omega (arith, o.1, l), last-above e.exec (last_job e) least es o.3 (omega (arith, o.1, l)))

pub rising-last : (a b : ℕ) (es : List ExecState) → AreOrdered a b es → Rising last_job es
rising-last a b [] o = tt
rising-last a b (e ∷ es) o = (last-above e.exec (last_job e) (last_job e) es o.3 (omega arith), rising-last e.exec (last_job e) es o.3)

pub weaker : (a b c d : ℕ) (es : List ExecState) → AreOrdered a b es → c ≤ a → d ≤ b → AreOrdered c d es
weaker a b c d [] o l m = tt
weaker a b c d (e ∷ es) o l m = (omega (arith, o.0, l), omega (arith, o.1, m), o.2, o.3)

pub length-made : (a b made jobs : ℕ) (es : List ExecState) → AreOrdered a b es → AreMade made jobs es → a ≤ made → length es + a ≤ made
length-made a b made jobs [] o m l = omega (arith, l)
length-made a b made jobs (e ∷ es) o m l = let r = length-made e.exec (last_job e) made jobs es o.3 m.1 m.0.0 in omega (arith, r, o.0)

pub ordered-push : (a b made jobs : ℕ) (es : List ExecState) (e : ExecState) → AreOrdered a b es → AreMade made jobs es → a ≤ made → b ≤ jobs → made < e.exec → jobs ≤ e.before → AreNumbered e.before e.rows → AreOrdered a b (es ++ e ∷ [])
ordered-push a b made jobs [] e o m l k x y n = (omega (arith, l, x), omega (arith, k, y), n, tt)
ordered-push a b made jobs (u ∷ us) e o m l k x y n = (o.0, o.1, o.2, ordered-push u.exec (last_job u) made jobs us e o.3 m.1 m.0.0 m.0.1 x y n)

pub made-push : (made jobs more all : ℕ) (es : List ExecState) (e : ExecState) → AreMade made jobs es → made ≤ more → jobs ≤ all → e.exec ≤ more → last_job e ≤ all → AreMade more all (es ++ e ∷ [])
made-push made jobs more all [] e m k l x y = ((x, y), tt)
made-push made jobs more all (u ∷ us) e m k l x y = ((omega (arith, m.0.0, k), omega (arith, m.0.1, l)), made-push made jobs more all us e m.1 k l x y)

pub numbered-new_rows : (n : ℕ) (ss : List TaskSpec) → AreNumbered n (new_rows n ss)
numbered-new_rows n [] = tt
numbered-new_rows n (s ∷ ss) = (refl, numbered-new_rows (suc n) ss)

pub length-new_rows : (n : ℕ) (ss : List TaskSpec) → length (new_rows n ss) ≡ length ss
length-new_rows n [] = refl
length-new_rows n (s ∷ ss) = let r = length-new_rows (suc n) ss in omega (arith, r)

pub new_rows-new : (n : ℕ) (ss : List TaskSpec) → AllByRecursion (λ r. r.received ≡ []) (new_rows n ss)
new_rows-new n [] = tt
new_rows-new n (s ∷ ss) = (refl, new_rows-new (suc n) ss)

pub new_rows-push : (n : ℕ) (ss : List TaskSpec) (s : TaskSpec) (row : RowState) → row ≡ record { job = n + length ss + 1; spec = s; received = [] } → new_rows n ss ++ row ∷ [] ≡ new_rows n (ss ++ s ∷ [])
new_rows-push n [] s row e =
    let k : n + 0 + 1 ≡ suc n = omega arith in
    let F : ℕ → List RowState = λ j. record { job = j; spec = s; received = [] } ∷ [] in
    let G : RowState → List RowState = λ r. r ∷ [] in
    ap G e ∙ ap F k
new_rows-push n (t ∷ ss) s row e =
    let k : n + length (t ∷ ss) + 1 ≡ suc n + length ss + 1 = omega arith in
    let R : ℕ → RowState = λ j. record { job = j; spec = s; received = [] } in
    let C : List RowState → List RowState = λ rs. record { job = suc n; spec = t; received = [] } ∷ rs in
    ap C (new_rows-push (suc n) ss s row (e ∙ ap R k))

-- the execution of a number
pub exec-low : (a b exec : ℕ) (es : List ExecState) → AreOrdered a b es → exec ≤ a → exec_numbered exec es ≡ None
exec-low a b exec [] o l = refl
exec-low a b exec (e ∷ es) o l = elim (eqb_tells e.exec exec) [
  | inl q ↦ absurd (omega (arith, q.1, o.0, l))
  | inr q ↦ rw q.0 (exec-low e.exec (last_job e) exec es o.3 (omega (arith, o.0, l)))
]

-- no execution has a number that was not made
pub unmade : (made jobs number : ℕ) (es : List ExecState) → AreMade made jobs es → made < number → exec_numbered number es ≡ None
unmade made jobs number [] m l = refl
unmade made jobs number (e ∷ es) m l = elim (eqb_tells e.exec number) [
  | inl q ↦ absurd (omega (arith, q.1, m.0.0, l))
  | inr q ↦ rw q.0 (unmade made jobs number es m.1 l)
]

-- one of a number that was not made is found at the end
pub newest : (made jobs : ℕ) (es : List ExecState) (e : ExecState) → AreMade made jobs es → made < e.exec → exec_numbered e.exec (es ++ e ∷ []) ≡ Some e
newest made jobs [] e m l = elim (eqb_tells e.exec e.exec) [ inl q ↦ rw q.0 refl | inr q ↦ absurd (q.1 refl) ]
newest made jobs (u ∷ us) e m l = elim (eqb_tells u.exec e.exec) [
  | inl q ↦ absurd (omega (arith, q.1, m.0.0, l))
  | inr q ↦ rw q.0 (newest made jobs us e m.1 l)
]
