-- What contracts see of entries or hooks as they are written. (Our own.)
use Rattle.std.specs.Prelude.{ℕ, List}

-- the items, the newest first, and for how many more there is room
pub record Written (T : Type 0) : Type 0 where
  pub newest : List T
  pub room : ℕ
