use Rattle.std.proofs.Common.{refl, get_or}
use Rattle.hr_policy.proofs.FaultLemmas.{set-more}
use Rattle.hr_policy.proofs.fault.set_of.Goals as goal

pub loop-number-preserved : goal.loop-number-preserved
loop-number-preserved c n =
    set-more (get_or c.args.numbers.now c.loop-number.number-index 0) n _ _ c.args.numbers.now c.loop-number.number-index c.loop-number-test.true refl (c.in_ok-insert.ensures.updates.0 n) (c.loop-number.invariant n)
