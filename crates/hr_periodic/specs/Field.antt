-- One field of a schedule: which numbers match in it. (Our own.)
use Rattle.std.specs.Prelude.{◌==◌, ℕ, Bool}
use Rattle.std.specs.Int.{bit_at}
use Rattle.hr_periodic.specs.declared.field.Field.{Field}

-- Whether a number is in a set that is kept as the bits of another.
abbrev pub holds : ℕ → ℕ → Bool
holds numbers number = bit_at numbers number == 1

-- Whether a number matches in a field.
abbrev pub has : Field → ℕ → Bool
has field number = holds field.numbers number
