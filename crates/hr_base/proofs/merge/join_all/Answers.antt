use Rattle.std.proofs.Common.{refl, ◌∙◌}
use Rattle.hr_base.specs.Merge.{first_greatest}
use Rattle.hr_base.proofs.MergeLemmas.{joined_more}
use Rattle.hr_base.proofs.merge.join_all.Goals as goal

pub loop-hook-init : goal.loop-hook-init
unfolding first_greatest
loop-hook-init c = refl

pub loop-hook-preserved : goal.loop-hook-preserved
loop-hook-preserved c =
    c.join-known.ensures ∙ joined_more _ c.loop-hook.hook-index _ _ c.loop-hook-test.true c.loop-hook.invariant
