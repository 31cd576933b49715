use Rattle.std.proofs.Common.{◌∙◌, arith}
use Rattle.hr_memreg.proofs.PlanLemmas.{moved_due, moved_not_due}
use Rattle.hr_memreg.proofs.standing.make_changes.Goals as goal
use Rattle.hr_memreg.proofs.standing.make_changes.Goals.{then-change-number+in_ok-move_tag, else-change-number}

pub loop-change-preserved : goal.loop-change-preserved
loop-change-preserved c =
    elim c.if-change-number.branch [
      | then-change-number+in_ok-move_tag w ↦ moved_due c.args.number c.loop-change.change-index c.args.moves.now
          c.change-item.result
          c.args.held.now c.loop-change.held c.if-change-number.held (omega arith) c.change-item.is c.loop-change.invariant
          w.if-change-number.true (w.held-is ∙ w.in_ok-move_tag.ensures.ok)
      | else-change-number w ↦ moved_not_due c.args.number c.loop-change.change-index c.args.moves.now c.change-item.result
          c.args.held.now c.loop-change.held c.if-change-number.held (omega arith) c.change-item.is c.loop-change.invariant
          w.if-change-number.false w.held-is
    ]
