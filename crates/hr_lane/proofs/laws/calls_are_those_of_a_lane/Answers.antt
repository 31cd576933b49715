use Rattle.std.proofs.Common.{inl, inr}
use Rattle.hr_base.specs.declared.number.JobNo.{JobNo}
use Rattle.hr_board.specs.View.{View}
use Rattle.hr_line.specs.Admission.{Admits}
use Rattle.hr_line.specs.State.{State}
use Rattle.hr_line.specs.Step.{Step}
use Rattle.hr_line.specs.declared.answer.Admit.{Admit}
use Rattle.hr_line.specs.declared.answer.Admit.TheVariants as admit
use Rattle.hr_line.specs.declared.answer.Stepped.{Stepped}
use Rattle.hr_line.specs.declared.answer.Stepped.TheVariants as stepped
use Rattle.hr_line.specs.declared.held.Admitted.{Admitted}
use Rattle.hr_lane.specs.Admission.{AdmitsWord}
use Rattle.hr_lane.specs.Word.{Steps}
use Rattle.hr_lane.proofs.laws.calls_are_those_of_a_lane.Goals as goal

is_step : (s t : State) (job : JobNo) (v w : View) (answer : Stepped) → Steps s t job v w answer → Step s t job answer
is_step s t job v w stepped.NotHere steps = steps.0
is_step s t job v w stepped.Did steps = steps.0
is_step s t job v w (stepped.Lost mark) steps = elim steps [
  | inl drops ↦ inl drops.0
  | inr ends ↦ inr ends.0
]
is_step s t job v w (stepped.Ended status) steps = steps.0

is_admission : (s t : State) (a : Admitted) (v w : View) (answer : Admit) → AdmitsWord s t a v w answer → Admits s t a answer
is_admission s t a v w admit.Began admits = admits.0
is_admission s t a v w (admit.Lost mark) admits = admits.0
is_admission s t a v w admit.Memory admits = admits.0

pub returns-clause-steps : goal.returns-clause-steps
returns-clause-steps c = is_step

pub returns-clause-admits : goal.returns-clause-admits
returns-clause-admits c = is_admission
