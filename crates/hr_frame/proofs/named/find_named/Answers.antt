use Rattle.std.proofs.Common.{sym, subst}
use Rattle.hr_frame.specs.Named.{values_named, IsNamed}
use Rattle.hr_frame.proofs.NamedLemmas.{values_more}
use Rattle.hr_frame.proofs.named.find_named.Goals as goal

pub loop-head-init : goal.loop-head-init
unfolding values_named
loop-head-init c = tt

pub loop-head-preserved : goal.loop-head-preserved
loop-head-preserved c =
    subst (λ l. IsNamed l c.with_line-found.result) (sym (values_more c.args.name.now c.args.heads.now c.loop-head.head-index c.head-item.result c.loop-head-test.true c.head-item.is))
    (c.with_line-found.ensures _ c.loop-head.invariant)
