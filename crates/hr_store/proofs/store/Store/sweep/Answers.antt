use Rattle.std.proofs.Common.{arith, ap, sym, length, subst, List, ℕ}
use Rattle.hr_store.specs.Execution.{ExecState}
use Rattle.hr_store.specs.Store.{StoreState, IsSound}
use Rattle.hr_store.proofs.OrderLemmas.{length-made}
use Rattle.hr_store.proofs.SoundLemmas.{length-kept, sound-swept}
use Rattle.hr_store.proofs.store.Store.sweep.Goals as goal

pub overflow_sub-result : goal.overflow_sub-result
overflow_sub-result c =
    let L : List ExecState → ℕ = length in
    let k = ap L c.sweep.ensures.kept in
    let l = length-kept c.args.keep c.self.inside.kept in
    omega (arith, k, l, c.len.ensures, c.len-before.ensures)

pub overflow_cast-result : goal.overflow_cast-result
overflow_cast-result c =
    let m = length-made 0 0 c.self.inside.made c.self.inside.jobs c.self.inside.kept c.self.invariant.ordered c.self.invariant.were_made (omega arith) in
    omega (arith, m, c.len-before.ensures, c.self.invariant.numbers)

pub invariant_of-self : goal.invariant_of-self
invariant_of-self c =
    let P : List ExecState → Type 0 = λ ks. IsSound c.self.inside.limit c.self.inside.jobs c.self.inside.made ks c.sweep.new.counts in
    subst P (sym c.sweep.ensures.kept) (sound-swept _ _ _ c.args.keep c.self.inside.kept c.self.inside.counts c.sweep.new.counts c.self.invariant c.sweep.ensures.others)

pub returns : goal.returns
returns c =
    let V : List ExecState → StoreState = λ ks. record { limit = c.self.inside.limit; jobs = c.self.inside.jobs; made = c.self.inside.made; kept = ks } in
    let L : List ExecState → ℕ = length in
    let k = ap L c.sweep.ensures.kept in
    let l = length-kept c.args.keep c.self.inside.kept in
    rw (← c.self.view_is) (record { after_is = ap V c.sweep.ensures.kept; count_is = omega (arith, k, l, c.len.ensures, c.len-before.ensures) })
