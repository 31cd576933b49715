use Rattle.hr_plan.proofs.SameLemmas.{plan_same}
use Rattle.hr_plan.proofs.law.a_listing_has_one_plan.Goals as goal

pub returns : goal.returns
returns c = λ policy listing specs others one other. plan_same policy listing specs others one other
