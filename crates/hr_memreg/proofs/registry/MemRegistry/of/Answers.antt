use Rattle.std.proofs.Common.{◌++◌, ◌∷◌, ◌∙◌, [], ap}
use Rattle.hr_memreg.specs.Shown.{rows_ever}
use Rattle.hr_memreg.specs.declared.standing.Standing.{Standing}
use Rattle.hr_memreg.proofs.ShownLemmas.{AreRows-after, rows_ever-then}
use Rattle.hr_memreg.proofs.registry.MemRegistry.of.Goals as goal

pub invariant_of-result : goal.invariant_of-result
invariant_of-result c =
    let now : Standing = record { held = c.setup.inside.held; moves = c.new.result; operations = 0 } in
    AreRows-after now [] (rows_ever c.then-trace.result.items)
    (ap rows_ever (c.then-trace.ensures ∙ ap (λ items. items ++ now ∷ []) c.new-2.ensures) ∙ rows_ever-then [] now)
