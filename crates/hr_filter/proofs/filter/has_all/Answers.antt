use Rattle.std.proofs.Common.{Contains, refl, sym, ◌∙◌, subst, All}
use Rattle.std.proofs.lemmas.List.{take_all}
use Rattle.std.proofs.lemmas.List.Elements.{All-more}
use Rattle.hr_filter.proofs.FilterLemmas.{text_missing, text_there}
use Rattle.hr_filter.proofs.filter.has_all.Goals as goal

pub returns-then-not-contains : goal.returns-then-not-contains
returns-then-not-contains c = (
  λ t. cc,
  λ all. absurd (text_missing c.args.labels.now c.label-item.result (sym c.contains.ensures.value ∙ c.if-not-contains.true)
      (subst (Contains c.args.labels.now) (sym c.label-item.is) (all c.loop-label.label-index c.label-item.result c.loop-label-test.true))),
)

pub loop-label-preserved : goal.loop-label-preserved
loop-label-preserved c =
    All-more (Contains c.args.labels.now) c.args.wanted.now c.loop-label.label-index c.label-item.result c.loop-label-test.true c.loop-label.invariant
    (subst (Contains c.args.labels.now) c.label-item.is
    (text_there c.args.labels.now c.label-item.result (sym c.contains.ensures.value ∙ c.if-not-contains.false)))

pub returns : goal.returns
returns c = (
  λ _. subst (All (Contains c.args.labels.now)) (take_all c.loop-label.label-index c.args.wanted.now c.loop-label-test.false) c.loop-label.invariant,
  λ _. refl,
)
