use Rattle.std.proofs.Common.{List, ℕ, Result, ◌++◌, ◌∷◌, [], ap, ◌∙◌}
use Rattle.serde_json.specs.Data.{Data}
use Rattle.hr_json.specs.Node.{value_of, values_of}
use Rattle.hr_policy.specs.declared.refusal.ConfigRefused.{ConfigRefused}
use Rattle.hr_policy.specs.declared.key.Key.TheVariants as key
use Rattle.hr_policy.specs.Choice.{label_in}
use Rattle.hr_policy.specs.Step.{field}
use Rattle.hr_policy.proofs.StepLemmas.{each-next, each-fails}
use Rattle.hr_policy.proofs.filter.read_each_label.Goals as goal

abbrev reader : ℕ → Data → Result (List ℕ) ConfigRefused
reader policy item = field policy key.Value (label_in item)

pub loop-at-preserved : goal.loop-at-preserved
loop-at-preserved c =
    each-next (reader c.args.policy) (values_of c.args.items.now) c.loop-at.at (value_of c.in-Some.node) c.loop-at.found _ c.in-Ok.label.now
    (c.in_ok-push.ensures.ok ∙ ap (λ b. c.loop-at.found ++ b ∷ []) c.in_ok-of.ensures) c.in-Some.ensures c.loop-at.invariant c.in-Ok.ensures

pub returns-in-Err : goal.returns-in-Err
returns-in-Err c =
    each-fails (reader c.args.policy) (values_of c.args.items.now) c.loop-at.at (value_of c.in-Some.node) c.loop-at.found c.in-Err.why c.in-Some.ensures c.loop-at.invariant c.in-Err.ensures
