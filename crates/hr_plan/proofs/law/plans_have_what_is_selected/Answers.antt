use Rattle.hr_plan.proofs.OrderLemmas.{plan_exact}
use Rattle.hr_plan.proofs.law.plans_have_what_is_selected.Goals as goal

pub returns : goal.returns
returns c = λ policy listing specs plan tag. plan_exact policy listing specs plan tag
