use Rattle.hr_opening.proofs.PlanLaws.{plan_planned}
use Rattle.hr_opening.proofs.laws.plans_go_from_1_to_2.Goals as goal

pub returns : goal.returns
returns c = λ c specs is. plan_planned c specs is
