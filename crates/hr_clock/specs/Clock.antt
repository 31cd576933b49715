-- Clocks, as contracts see them. (Our own.)
use Rattle.std.specs.Prelude.{ℕ}

-- a clock in memory: the moment that it gave last, the one that it gives next, and by how many
-- seconds it then goes on
pub record StepState : Type 0 where
  pub last : ℕ
  pub next : ℕ
  pub step : ℕ

-- the clock of a system itself, and the moment that it gave last
pub record ClockEdge (D : Type 0) : Type 0 where
  pub device : D
  pub last : ℕ
