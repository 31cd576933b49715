use Rattle.std.proofs.Common.{arith, ◌-◌}
use Rattle.hr_store.proofs.SweepLemmas.{mark-first, mark-last, mark-next, next-few, next-there}
use Rattle.hr_store.proofs.sweeping.mark.Goals as goal

pub newest-init : goal.newest-init
newest-init c = mark-first c.args.keep c.len-left.result c.args.entries.now.entries c.args.counts.now (omega (arith, c.len-left.ensures.len)) c.requires

pub mark_at-requires-clause-there : goal.mark_at-requires-clause-there
mark_at-requires-clause-there c =
    λ held there. next-there c.args.keep (c.newest.left - 1) c.newest.left c.args.entries.now.entries c.newest.entries.entries c.args.counts.now c.newest.counts held c.newest.invariant (omega (arith, c.newest-test.true)) there

pub mark_at-requires-clause-few : goal.mark_at-requires-clause-few
mark_at-requires-clause-few c = λ held n there count.
    let l = next-few c.args.keep (c.newest.left - 1) c.newest.left c.args.entries.now.entries c.newest.entries.entries c.args.counts.now c.newest.counts held n c.newest.invariant (omega (arith, c.newest-test.true)) there count in
    omega (arith, l, c.len-left.ensures.len, c.len-left.ensures.small)

pub newest-preserved : goal.newest-preserved
newest-preserved c =
    mark-next c.args.keep (c.newest.left - 1) c.newest.left c.args.entries.now.entries c.newest.entries.entries c.mark_at.new.entries.entries c.args.counts.now c.newest.counts c.mark_at.new.counts c.newest.invariant (omega (arith, c.newest-test.true)) c.mark_at.ensures

pub returns-clause-marked : goal.returns-clause-marked
returns-clause-marked c = mark-last c.args.keep c.newest.left c.args.entries.now.entries c.newest.entries.entries c.args.counts.now c.newest.counts c.newest.invariant (omega (arith, c.newest-test.false))
