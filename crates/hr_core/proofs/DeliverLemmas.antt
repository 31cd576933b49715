-- Hooks by their numbers.
use Rattle.std.proofs.Common.{◌≡◌, subst, zero, suc, ℕ, ◌-◌, ◌≤◌, arith, inl}
use Rattle.hr_event.specs.declared.told.Told.TheVariants as told
use Rattle.hr_event.specs.declared.view.Received.{Received}
use Rattle.hr_run.specs.Does.{DeliversNumber}
use Rattle.hr_run.specs.State.{CoreState}
use Rattle.hr_core.specs.Hooks.{GivesHook}

pub number_given : (s t : CoreState) (number : ℕ) (came : Received) → 1 ≤ number → GivesHook s (number - 1) came t
    → DeliversNumber s number (told.Heard number came) t
number_given s t zero came some gives = absurd (omega (arith, some))
number_given s t (suc place) came some gives =
    inl (subst (λ (n : ℕ). GivesHook s n came t) (let e : suc place - 1 ≡ place = omega arith in e) gives)
