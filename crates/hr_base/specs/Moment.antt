-- Moments, in whole seconds since 1970-01-01T00:00:00Z, and their sums. (Our own.)
use Rattle.std.specs.Prelude.{ℕ, ◌+◌, min}
use Rattle.hr_base.specs.declared.number.TheConstants.{LAST_MOMENT}

-- a count of seconds as a moment: whatever is beyond the last moment counts as that
abbrev pub capped : ℕ → ℕ
capped seconds = min seconds LAST_MOMENT

-- the moment so many seconds after another
abbrev pub later_by : ℕ → ℕ → ℕ
later_by moment seconds = capped (moment + seconds)
