use Rattle.std.proofs.Common.{not, ap, sym, ◌∙◌}
use Rattle.hr_policy.proofs.FaultLemmas.{first_such-later}
use Rattle.hr_policy.proofs.fault.first_outside.Goals as goal

pub loop-number-preserved : goal.loop-number-preserved
loop-number-preserved c =
    c.loop-number.invariant ∙ first_such-later _ c.args.numbers.now c.loop-number.number-index c.loop-number-test.true (ap not (sym c.contains.ensures ∙ c.if-not-contains.false))
