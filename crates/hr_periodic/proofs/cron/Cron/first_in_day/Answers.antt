use Rattle.hr_periodic.proofs.MomentLemmas.{first_from, none_on_day, none_left}
use Rattle.hr_periodic.proofs.cron.Cron.first_in_day.Goals as goal

pub returns-then-not-fits_on-clause-absent : goal.returns-then-not-fits_on-clause-absent
returns-then-not-fits_on-clause-absent c = none_on_day _ _ _ c.fits_on.ensures c.if-not-fits_on.true

pub returns-clause-found : goal.returns-clause-found
returns-clause-found c = first_from _ _ _ _ c.fits_on.ensures c.if-not-fits_on.false c.in-Some.ensures

pub returns-in_default-clause-absent : goal.returns-in_default-clause-absent
returns-in_default-clause-absent c = none_left _ _ _ c.fits_on.ensures c.in_default.ensures
