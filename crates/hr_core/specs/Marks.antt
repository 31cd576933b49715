-- Marks of deliveries, as contracts see them. (Our own.)
use Rattle.std.specs.Prelude.{◌≡◌, ◌<◌, ℕ, suc, Bool, true, List}
use Rattle.hr_run.specs.State.{was_delivered}

-- the marks, by the places of the hooks, and for how many there is room
pub record MarkState : Type 0 where
  pub marks : List Bool
  pub room : ℕ

-- so many marks at the front are set
abbrev pub AreSet : List Bool → ℕ → Type 0
AreSet marks front = (place : ℕ) → place < front → was_delivered marks (suc place) ≡ true
