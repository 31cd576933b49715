-- The calls of a device in memory, which fail by a list of numbers. (Our own.)
use Rattle.std.specs.Prelude.{◌≡◌, ◌+◌, ◌-◌, ◌^◌, ℕ, min, List, Contains, Result, MatchResult}
use Rattle.hr_cause.specs.declared.stream.Failed.{Failed}

-- one more, where a count stays at its type's end
abbrev pub counted : ℕ → ℕ
counted n = min (n + 1) (2 ^ 64 - 1)

-- the numbers, from 1, of the calls that fail; how many calls there were; and how many faults
pub record CallState : Type 0 where
  pub failing : List ℕ
  pub calls : ℕ
  pub faults : ℕ

-- the next call fails by the list
abbrev pub IsPlanned : List ℕ → ℕ → Type 0
IsPlanned failing calls = Contains failing (calls + 1)

-- a call that doesn't fail
pub record Passes (before now : CallState) : Type 0 where
  pub unplanned : ¬ IsPlanned before.failing before.calls
  pub after : now ≡ record before { calls = counted before.calls }

-- a call that fails by the list
pub record Fails (before now : CallState) : Type 0 where
  pub planned : IsPlanned before.failing before.calls
  pub after : now ≡ record before { calls = counted before.calls; faults = counted before.faults }

-- a call fails exactly by the list
abbrev pub Called : CallState → Result Unit Failed → CallState → Type 0
Called before result now = MatchResult result (λ _. Passes before now) (λ _. Fails before now)
