use Rattle.std.proofs.Common.{◌∙◌, ap}
use Rattle.hr_memreg.specs.Shown.{rows_ever}
use Rattle.hr_memreg.specs.declared.standing.Standing.{Standing}
use Rattle.hr_memreg.proofs.ShownLemmas.{AreRows-after, rows_ever-then}
use Rattle.hr_memreg.proofs.registry.MemRegistry.with_changes.Goals as goal

pub invariant_of-self : goal.invariant_of-self
invariant_of-self c =
    let now : Standing = record c.self.inside.standing { moves = c.args.changes } in
    AreRows-after now (rows_ever c.self.inside.trace.items) (rows_ever c.then.result.items)
    (ap rows_ever c.then.ensures ∙ rows_ever-then c.self.inside.trace.items now)
