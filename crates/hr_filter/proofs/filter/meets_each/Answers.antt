use Rattle.std.proofs.Common.{All, refl, subst}
use Rattle.std.proofs.lemmas.List.{take_all}
use Rattle.std.proofs.lemmas.List.Elements.{All-more}
use Rattle.hr_filter.specs.Filter.{Meets}
use Rattle.hr_filter.proofs.filter.meets_each.Goals as goal

pub loop-filter-preserved : goal.loop-filter-preserved
loop-filter-preserved c =
    All-more (Meets c.args.listed.now) c.args.filters.now c.loop-filter.filter-index c.filter-item.result c.loop-filter-test.true c.loop-filter.invariant
    (subst (Meets c.args.listed.now) c.filter-item.is (c.meets.ensures.0 c.if-not-meets.false))

pub returns : goal.returns
returns c = (
  λ _. subst (All (Meets c.args.listed.now)) (take_all c.loop-filter.filter-index c.args.filters.now c.loop-filter-test.false) c.loop-filter.invariant,
  λ _. refl,
)
