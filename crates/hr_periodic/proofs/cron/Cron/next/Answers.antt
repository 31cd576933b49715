use Rattle.std.proofs.Common.{ℕ, ◌+◌, subst}
use Rattle.hr_periodic.specs.declared.cron.TheConstants.{HORIZON}
use Rattle.hr_periodic.specs.Cron.{FindsNext}
use Rattle.hr_periodic.proofs.cron.Cron.next.Goals as goal

pub returns : goal.returns
returns c =
    let P : ℕ → Type 0 = λ after. FindsNext c.args.self.now after (after + HORIZON) c.first_above.result in
    subst P c.capped-after.ensures c.first_above.ensures
