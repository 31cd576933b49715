use Rattle.std.proofs.Common.{ℕ, subst}
use Rattle.hr_base.specs.Moment.{capped}
use Rattle.hr_periodic.specs.Cron.{FindsNext}
use Rattle.hr_periodic.proofs.cron.Cron.next_until.Goals as goal

pub returns : goal.returns
returns c =
    let P : ℕ → Type 0 = λ after. FindsNext c.args.self.now after (capped c.args.until.0) c.first_above.result in
    let Q : ℕ → Type 0 = λ until. FindsNext c.args.self.now c.capped.result.0 until c.first_above.result in
    subst P c.capped.ensures (subst Q c.capped-2.ensures c.first_above.ensures)
