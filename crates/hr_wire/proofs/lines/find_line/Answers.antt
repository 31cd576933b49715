use Rattle.hr_frame.specs.Named.{values_named}
use Rattle.hr_wire.proofs.LineLemmas.{found_line}
use Rattle.hr_wire.proofs.lines.find_line.Goals as goal

pub loop-head-init : goal.loop-head-init
unfolding values_named
loop-head-init c = tt

pub loop-head-preserved : goal.loop-head-preserved
loop-head-preserved c =
    found_line c.args.name.now c.args.heads.now c.loop-head.head-index c.head-item.result _ _ c.with-found.result c.loop-head-test.true c.head-item.is
    c.value_named.ensures c.with-found.ensures c.loop-head.invariant
