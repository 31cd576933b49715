use Rattle.std.proofs.Common.{◌+◌, ◌-◌, ◌<◌}
use Rattle.hr_periodic.specs.Steps.{NoMatch}
use Rattle.hr_periodic.proofs.cron.Cron.first_above.Given as goal

-- no moment so far matches
abbrev pub invariant-loop-moment : goal.invariant-loop-moment
invariant-loop-moment l = (l.after < l.moment) × NoMatch l.self (l.after + 1) l.moment

abbrev pub decreases-loop-moment : goal.decreases-loop-moment
decreases-loop-moment l = l.last + 1 - l.moment
