use Rattle.std.proofs.Common.{All, refl, subst}
use Rattle.std.proofs.lemmas.List.{take_all}
use Rattle.std.proofs.lemmas.List.Elements.{All-more}
use Rattle.hr_plan.specs.Naming.{MeetsName}
use Rattle.hr_plan.proofs.naming.meets_names.Goals as goal

pub loop-filter-preserved : goal.loop-filter-preserved
loop-filter-preserved c =
    All-more (MeetsName c.args.repo.now) c.args.filters.now c.loop-filter.filter-index c.filter-item.result c.loop-filter-test.true c.loop-filter.invariant
    (subst (MeetsName c.args.repo.now) c.filter-item.is (c.meets_name.ensures.0 c.if-not-meets_name.false))

pub returns : goal.returns
returns c = (
  λ _. subst (All (MeetsName c.args.repo.now)) (take_all c.loop-filter.filter-index c.args.filters.now c.loop-filter-test.false) c.loop-filter.invariant,
  λ _. refl,
)
