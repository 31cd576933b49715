use Rattle.std.proofs.Common.{arith, sym, subst, ℕ}
use Rattle.std.specs.Prelude.{nat_eq, IsSome}
use Rattle.indexmap.specs.IndexMap.{get}
use Rattle.hr_store.proofs.SweepLemmas.{cleared-by, countable-at}
use Rattle.hr_store.proofs.sweeping.clear.Goals as goal

pub put-requires : goal.put-requires
put-requires c =
    let P : ℕ → Type 0 = λ p. IsSome (get nat_eq c.loop-at.counts p) in
    subst P (sym c.policy.ensures) (c.loop-at.invariant.others _ (countable-at c.args.counts.now c.args.entries.now.entries c.loop-at.at c.index.result.now c.requires c.index.ensures))

pub returns-clause-cleared : goal.returns-clause-cleared
returns-clause-cleared c = cleared-by c.loop-at.counts c.args.entries.now.entries (λ i h l e. c.loop-at.invariant.cleared i h (let n = c.len-at-end.ensures.len in omega (arith, l, n, c.loop-at-test.false)) e)
