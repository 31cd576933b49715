use Rattle.std.proofs.Common.{◌≤◌, List, ℕ, length, sym, subst, ◌∙◌}
use Rattle.hr_adapter.specs.declared.registry.TheConstants.{LIST_LIMIT}
use Rattle.hr_opening.proofs.PlanLemmas.{listed_more, plan_found, specs_more}
use Rattle.hr_opening.proofs.planning.plan.Goals as goal

pub loop-name-preserved : goal.loop-name-preserved
loop-name-preserved c =
    let held = c.args.source.now.content in
    let items = c.view-name-items.result.now in
    let found = c.in-Ok-list_tags.ensures.gives in
    record {
      made = specs_more held items c.loop-name.name-index c.name-item.result c.in-Ok-list_tags.tags c.loop-name.specs c.push_spec.new.specs c.loop-name.invariant.made c.loop-name-test.true c.name-item.is found.0 c.in_ok-push_spec-in-Ok-list_tags.ensures.ok;
      listed = listed_more held items c.loop-name.name-index c.name-item.result c.in-Ok-list_tags.tags c.loop-name.invariant.listed c.loop-name-test.true c.name-item.is found.1 found.0;
    }

pub returns : goal.returns
returns c =
    let named = c.in-Ok.ensures.gives in
    plan_found c.args.source.now.content c.view-name-items.result.now c.loop-name.specs c.loop-name.name-index (c.view-name-items.ensures ∙ named.0)
    (subst (λ (l : List (List ℕ)). length l ≤ LIST_LIMIT) (sym c.view-name-items.ensures) named.1) c.loop-name-test.false c.loop-name.invariant.made c.loop-name.invariant.listed
