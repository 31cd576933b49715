use Rattle.hr_periodic.proofs.PeriodicLemmas.{Ascends-due}
use Rattle.hr_periodic.proofs.periodic.Periodic.due.Goals as goal

pub returns-clause-order : goal.returns-clause-order
returns-clause-order c = Ascends-due _ _ _ _ c.in_ok-due.ensures (rw c.deref.ensures.value c.self.invariant.0)
