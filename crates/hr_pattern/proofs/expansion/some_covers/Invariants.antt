use Rattle.std.proofs.Common.{ℕ, ◌<◌}
use Rattle.hr_pattern.specs.Choice.{form_at}
use Rattle.hr_pattern.specs.Form.{reading_of, FormCovers}
use Rattle.hr_pattern.proofs.expansion.some_covers.Given as goal

-- no form so far covers the text
abbrev pub invariant-loop-number : goal.invariant-loop-number
invariant-loop-number l = (k : ℕ) → k < l.number → FormCovers l.text (form_at k (reading_of l.pattern).parts) → ⊥
