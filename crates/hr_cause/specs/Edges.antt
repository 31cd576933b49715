-- A reader or a writer as a device, which tells nothing. (Our own.)
use Rattle.std.specs.Prelude.{ℕ}

-- the reader or writer itself, and how often a call failed
pub record Edge (D : Type 0) : Type 0 where
  pub device : D
  pub faults : ℕ
