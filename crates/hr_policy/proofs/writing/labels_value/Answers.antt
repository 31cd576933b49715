use Rattle.std.proofs.Common.{map, ap, sym, subst, ◌∙◌, arith}
use Rattle.hr_policy.specs.Text.{IsText}
use Rattle.std.proofs.lemmas.Grind.{common_steps}
use Rattle.serde_json.specs.Data.{string}
use Rattle.serde_json.proofs.Views.{view-Array}
use Rattle.hr_policy.specs.Written.{list_value}
use Rattle.hr_policy.proofs.writing.labels_value.Goals as goal

pub returns : goal.returns
returns c =
    view-Array c.loop-label.list ∙ ap list_value (c.loop-label.invariant ∙ ap (map (λ l. string l)) (grind (arith, common_steps)))

pub text_value-requires : goal.text_value-requires
text_value-requires c =
    let text = c.requires c.loop-label.label-index c.label-item.result c.loop-label-test.true in
    rw c.view.ensures (subst IsText (sym c.label-item.is) text)
