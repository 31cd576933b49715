use Rattle.std.proofs.Common.{map, ap, sym, subst, ◌∙◌, arith}
use Rattle.std.proofs.lemmas.Grind.{common_steps}
use Rattle.serde_json.proofs.Views.{view-Array}
use Rattle.hr_policy.specs.Text.{IsTextRegistry}
use Rattle.hr_policy.specs.Written.{list_value, registry_value}
use Rattle.hr_policy.proofs.writing.registries_value.Goals as goal

pub returns : goal.returns
returns c =
    view-Array c.loop-registry.list ∙ ap list_value (c.loop-registry.invariant ∙ ap (map registry_value) (grind (arith, common_steps)))

pub registry_value-requires : goal.registry_value-requires
registry_value-requires c =
    let text = c.requires c.loop-registry.registry-index c.registry-item.result c.loop-registry-test.true in
    subst IsTextRegistry (sym c.registry-item.is) text
