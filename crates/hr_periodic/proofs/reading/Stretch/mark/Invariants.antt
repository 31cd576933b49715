use Rattle.std.proofs.Common.{◌≡◌, ℕ, ◌<◌, ◌≤◌, ◌||◌}
use Rattle.hr_periodic.specs.Field.{holds}
use Rattle.hr_periodic.specs.Item.{in_stretch}
use Rattle.hr_periodic.proofs.reading.Stretch.mark.Given as goal

-- the numbers so far are marked, and the others are as they were
abbrev pub invariant-loop-number : goal.invariant-loop-number
invariant-loop-number l =
    ((k : ℕ) → k < l.number → holds l.marked k ≡ (holds l.numbers k || in_stretch l.self k))
    × ((k : ℕ) → l.number ≤ k → holds l.marked k ≡ holds l.numbers k)
