use Rattle.std.proofs.Common.{rules}
use Rattle.hr_rest.proofs.PathLemmas.{leads_nowhere, leads_to_one, leads_to_tasks}
use Rattle.hr_rest.proofs.path.way_within.Goals as goal

pub returns-in_default : goal.returns-in_default
returns-in_default c = leads_to_one c.args.within.now c.cut.result.0.now (rw c.in_default.is at c.cut.ensures.joined) c.cut.ensures.before

pub returns-then-eq : goal.returns-then-eq
returns-then-eq c =
    leads_to_tasks c.args.within.now c.cut.result.0.now c.in-Some.behind.now (rw c.in-Some.is at c.cut.ensures.joined) (search rules) c.cut.ensures.before

pub returns-else-eq : goal.returns-else-eq
returns-else-eq c =
    leads_nowhere c.args.within.now c.cut.result.0.now c.in-Some.behind.now (rw c.in-Some.is at c.cut.ensures.joined) (search rules) c.cut.ensures.before
