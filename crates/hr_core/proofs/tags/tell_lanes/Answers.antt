use Rattle.std.proofs.Common.{◌∙◌, sym}
use Rattle.hr_core.proofs.TagsLemmas.{lane_passed, lane_tells}
use Rattle.hr_core.proofs.tags.tell_lanes.Goals as goal

pub returns-in-Some : goal.returns-in-Some
returns-in-Some g c =
    lane_tells c.args.lanes.now c.loop-at.at c.index-lanes-at.result c.args.reg c.in-Some.told c.loop-at-test.true
    c.index-lanes-at.is c.loop-at.invariant (sym c.in-Some.is ∙ c.in_ok-told.ensures)

pub loop-at-preserved : goal.loop-at-preserved
loop-at-preserved g c =
    lane_passed c.args.lanes.now c.loop-at.at c.index-lanes-at.result c.args.reg c.loop-at-test.true c.index-lanes-at.is
    c.loop-at.invariant (sym c.in_default.is ∙ c.in_ok-told.ensures)
