use Rattle.std.proofs.Common.{arith, ap, sym, length, ◌≡◌, ◌∙◌, [], ◌+◌, subst, List, ℕ, Bool}
use Rattle.std.specs.List.{AllByRecursion}
use Rattle.std.specs.Prelude.{nat_eq, IsSome}
use Rattle.indexmap.specs.IndexMap.{get}
use Rattle.hr_store.specs.Creating.{new_rows}
use Rattle.hr_store.specs.Execution.{ExecState}
use Rattle.hr_store.specs.Row.{RowState}
use Rattle.hr_store.specs.Store.{AreNumbered, IsSound}
use Rattle.hr_store.proofs.OrderLemmas.{length-new_rows, new_rows-new, numbered-new_rows, unmade}
use Rattle.hr_store.proofs.SoundLemmas.{sound-counted, sound-made}
use Rattle.hr_store.proofs.store.Store.create.Goals as goal

pub new-execution-requires-clause-few : goal.new-execution-requires-clause-few
new-execution-requires-clause-few c =
    let L : List RowState → ℕ = length in
    let k = ap L c.in_ok-rows.ensures in
    let l = length-new_rows c.self.inside.jobs c.args.specs in
    let N : List _ → ℕ = length in
    let v = ap N c.view-count.ensures in
    omega (arith, k, l, v, c.if-count-self.false, c.self.invariant.few, c.self.invariant.within)

pub new-execution-requires-clause-new : goal.new-execution-requires-clause-new
new-execution-requires-clause-new c = let P : List RowState → Type 0 = λ rs. AllByRecursion (λ r. r.received ≡ []) rs in subst P (sym c.in_ok-rows.ensures) (new_rows-new c.self.inside.jobs c.args.specs)

pub invariant_of-self-2 : goal.invariant_of-self-2
invariant_of-self-2 c =
    let E : ExecState → ℕ = λ e. e.exec in
    let B : ExecState → ℕ = λ e. e.before in
    let R : ExecState → List RowState = λ e. e.rows in
    let Q : ExecState → ℕ = λ e. e.policy.0 in
    let rows : c.new-execution.result.rows ≡ new_rows c.self.inside.jobs c.args.specs = ap R c.new-execution.ensures ∙ c.in_ok-rows.ensures in
    let L : List RowState → ℕ = length in
    let k = ap L rows in
    let l = length-new_rows c.self.inside.jobs c.args.specs in
    let N : List _ → ℕ = length in
    let v = ap N c.view-count.ensures in
    let x = ap E c.new-execution.ensures in
    let b : c.new-execution.result.before ≡ c.self.inside.jobs = ap B c.new-execution.ensures in
    let p : c.new-execution.result.policy.0 ≡ c.args.policy.0 = ap Q c.new-execution.ensures in
    let S : ℕ → Type 0 = λ q. IsSome (get nat_eq c.admit.new.counts q) in
    let A : ℕ → Type 0 = λ n. AreNumbered n (new_rows c.self.inside.jobs c.args.specs) in
    let D : List RowState → Type 0 = λ rs. AreNumbered c.new-execution.result.before rs in
    let P : List ExecState → Type 0 = λ ks. IsSound c.self.inside.limit (c.self.inside.jobs + length c.view-count.result.now) (c.self.inside.made + 1) ks c.admit.new.counts in
    subst P (sym c.in_ok-push.ensures.ok)
    (sound-made c.self.inside.limit c.self.inside.jobs c.self.inside.made (length c.view-count.result.now) c.self.inside.kept c.new-execution.result c.self.inside.counts c.admit.new.counts c.self.invariant
    c.admit.ensures.others (subst S (sym p) c.in_ok-admit.ensures.there) x b (omega (arith, k, l, v)) (subst D (sym rows) (subst A (sym b) (numbered-new_rows c.self.inside.jobs c.args.specs)))
    (omega (arith, c.if-count-self.false, c.self.invariant.within)) (omega (arith, c.if-self.false, c.self.invariant.numbers)) (let F : ExecState → Bool = λ e. e.plan_failed in ap F c.new-execution.ensures))

pub push-requires : goal.push-requires
push-requires c =
    let E : ExecState → ℕ = λ e. e.exec in
    let x = ap E c.new-execution.ensures in
    unmade c.self.inside.made c.self.inside.jobs c.new-execution.result.exec c.self.inside.kept c.self.invariant.were_made (omega (arith, x))

pub invariant_of-self-in_err-push : goal.invariant_of-self-in_err-push
invariant_of-self-in_err-push c =
    let P : List ExecState → Type 0 = λ ks. IsSound c.self.inside.limit c.self.inside.jobs c.self.inside.made ks c.admit.new.counts in
    subst P (sym c.in_err-push.ensures.err) (sound-counted _ _ _ c.self.inside.kept c.self.inside.counts c.admit.new.counts c.self.invariant c.admit.ensures.others)
