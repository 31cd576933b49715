-- The schedules of policies, and which of them are due. (Our own.)
use Rattle.std.specs.Prelude.{◌≡◌, ◌≤◌, ⊤, ℕ, List, [], ◌∷◌, ◌++◌, Option, option_map, option_to_list}
use Rattle.std.specs.List.{AllByRecursion}
use Rattle.hr_base.specs.declared.number.PolicyNo.{PolicyNo}
use Rattle.hr_base.specs.declared.number.Moment.{Moment}
use Rattle.hr_periodic.specs.declared.cron.Cron.{Cron}
use Rattle.hr_periodic.specs.Cron.{FindsNext}

-- Policies with their schedules, and the moment up to which they were asked.
pub record Asked : Type 0 where
  pub entries : List (PolicyNo × Cron)
  pub moment : ℕ

-- Each policy's number is at most those of the policies behind it.
abbrev pub Ascends : {X : Type 0} → List (PolicyNo × X) → Type 0
Ascends [] = ⊤
Ascends (x ∷ xs) = AllByRecursion (λ y. x.0.0 ≤ y.0.0) xs × Ascends xs

-- A policy is due where its schedule has a match above a moment and at most now, with the least of
-- them, and before those that are due of the other policies.
pub record DueFirst (moment now : ℕ) (Others : List (PolicyNo × Moment) → Type 0) (entry : PolicyNo × Cron) (due : List (PolicyNo × Moment)) : Type 0 where
  pub found : Option Moment
  pub finds : FindsNext entry.1 moment now found
  pub rest : List (PolicyNo × Moment)
  pub others : Others rest
  pub is : due ≡ option_to_list (option_map (λ at. (entry.0, at)) found) ++ rest

-- The policies whose schedules have a match above a moment and at most now, in order, each with the
-- least of them.
abbrev pub AreDue : ℕ → ℕ → List (PolicyNo × Cron) → List (PolicyNo × Moment) → Type 0
AreDue moment now [] due = due ≡ []
AreDue moment now (entry ∷ entries) due =
    DueFirst moment now (AreDue moment now entries) entry due
