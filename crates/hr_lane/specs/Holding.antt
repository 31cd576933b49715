-- What contracts see of the revisions that are held. (Our own.)
use Rattle.std.specs.Prelude.{◌≡◌, ℕ, List, All}
use Rattle.hr_line.specs.declared.held.Held.{Held}

-- the revisions, and for how many more there is room
pub record Kept : Type 0 where
  pub held : List Held
  pub room : ℕ

-- each revision stands under the number of its job
abbrev pub AreKeyed : List (ℕ × Held) → Type 0
AreKeyed entries = All (λ e. e.1.by.job.0 ≡ e.0) entries
