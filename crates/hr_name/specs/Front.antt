-- Where a text leaves a grammar: the longest front with which some text of it begins. (Our own.)
use Rattle.std.specs.Prelude.{◌≤◌, ℕ, ◌++◌, length, take}
use Rattle.hr_base.specs.Bytes.{Text}

-- some text of the grammar begins with this one
abbrev pub Begins : (Text → Type 0) → Text → Type 0
Begins Grammar front = (more : Text) × Grammar (front ++ more)

-- no text of the grammar begins with this one
abbrev pub BeginsNone : (Text → Type 0) → Text → Type 0
BeginsNone Grammar front = (more : Text) → Grammar (front ++ more) → ⊥

-- the grammar refuses the text, and its first `at` bytes are the most with which a text of it begins
pub record IsFaultAt (Grammar : Text → Type 0) (text : Text) (at : ℕ) : Type 0 where
  pub refused : Grammar text → ⊥
  pub within : at ≤ length text
  pub begins : Begins Grammar (take at text)
  pub longest : (n : ℕ) → n ≤ length text → Begins Grammar (take n text) → n ≤ at
