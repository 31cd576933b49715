use Rattle.hr_periodic.specs.Field.{has}
use Rattle.hr_periodic.specs.Steps.{NonePasses}
use Rattle.hr_periodic.proofs.field.Field.least.Given as goal

-- no number so far matches
abbrev pub invariant-loop-number : goal.invariant-loop-number
invariant-loop-number l = NonePasses (has l.self) l.low l.number
