use Rattle.std.proofs.Common.{List, ◌++◌, drop}
use Rattle.hr_base.specs.declared.number.PolicyNo.{PolicyNo}
use Rattle.hr_base.specs.declared.number.Moment.{Moment}
use Rattle.hr_base.specs.Moment.{capped}
use Rattle.hr_periodic.specs.Periodic.{AreDue}
use Rattle.hr_periodic.proofs.periodic.due_among.Given as goal

-- those so far and those among the rest are those among all
abbrev pub invariant-loop-entry : goal.invariant-loop-entry
invariant-loop-entry l =
    (rest : List (PolicyNo × Moment)) → AreDue (capped l.moment.0) (capped l.now.0) (drop l.entry-index l.entries) rest → AreDue (capped l.moment.0) (capped l.now.0) l.entries (l.due ++ rest)
