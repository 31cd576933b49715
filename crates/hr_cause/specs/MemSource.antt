-- A source in memory, and what one read of it does. (Our own.)
use Rattle.std.specs.Prelude.{◌≡◌, ℕ, min, max, List, [], ◌∷◌, ◌++◌, length, take, drop, Result, MatchResult}
use Rattle.hr_base.specs.Bytes.{ByteList}
use Rattle.hr_cause.specs.declared.stream.Failed.{Failed}
use Rattle.hr_cause.specs.Calls.{counted, IsPlanned}

-- the bytes left to come, the greatest sizes of the reads to come, the numbers of the calls that
-- fail, how many calls there were, and how many faults
pub record SourceState : Type 0 where
  pub left : ByteList
  pub pieces : List ℕ
  pub failing : List ℕ
  pub calls : ℕ
  pub faults : ℕ

-- as much of a length as the next piece lets through: a piece of 0 counts as 1, and after the last
-- piece it is all
abbrev pub let_through : List ℕ → ℕ → ℕ
let_through [] len = len
let_through (piece ∷ pieces) len = min (max piece 1) len

-- a read that gives the front of what is left, and uses up a piece
pub record Gives (before : SourceState) (buf : ByteList) (count : ℕ) (filled : ByteList)
    (now : SourceState) : Type 0 where
  pub unplanned : ¬ IsPlanned before.failing before.calls
  pub most : count ≡ let_through before.pieces (min (length buf) (length before.left))
  pub buffer : filled ≡ take count before.left ++ drop count buf
  pub after : now ≡ record before {
    left = drop count before.left;
    pieces = drop 1 before.pieces;
    calls = counted before.calls;
  }

-- a read that fails by the list, and uses up nothing
pub record FailsToRead (before : SourceState) (buf filled : ByteList) (now : SourceState)
    : Type 0 where
  pub planned : IsPlanned before.failing before.calls
  pub buffer : filled ≡ buf
  pub after : now ≡ record before { calls = counted before.calls; faults = counted before.faults }

-- one read, into a buffer that is then filled
abbrev pub ReadsFrom : SourceState → ByteList → Result ℕ Failed → ByteList → SourceState → Type 0
ReadsFrom before buf result filled now =
    MatchResult result (λ count. Gives before buf count filled now) (λ _. FailsToRead before buf filled now)
