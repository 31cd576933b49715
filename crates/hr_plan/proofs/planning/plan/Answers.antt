use Rattle.hr_plan.proofs.PlanLaws.{plans_in_order, plans_listen, plans_risen, plans_told}
use Rattle.hr_plan.proofs.planning.plan.Goals as goal

pub returns : goal.returns
returns g c =
    let old = g.A.Registry.seen c.args.source.now in
    let new = g.A.Registry.seen c.plan_source.new.source in
    let policy = c.args.policy.now in
    let exact = c.plan_source.ensures in
    record {
      exact = exact;
      told = plans_told policy old new c.plan_source.result exact;
      in_order = plans_in_order policy old new c.plan_source.result exact;
      failed = λ low high. plans_risen policy old new c.plan_source.result low high exact;
      left = plans_listen policy old new c.plan_source.result exact;
    }
