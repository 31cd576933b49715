use Rattle.std.proofs.Common.{rules}
use Rattle.hr_core.proofs.PlanLemmas.{plan_triggered}
use Rattle.hr_core.proofs.engine.Core.trigger.Goals as goal

pub returns-clause-ok : goal.returns-clause-ok
returns-clause-ok g c =
    plan_triggered c.args.self.now c.run_plan.new.self c.args.policy _ c.run_plan.result (search rules) c.run_plan.ensures.ok
