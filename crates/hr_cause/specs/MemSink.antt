-- A sink in memory, and what one write to it does. (Our own.)
use Rattle.std.specs.Prelude.{◌≡◌, ◌<◌, ◌⊎◌, ℕ, min, List, ◌++◌, length, take, Result, MatchResult}
use Rattle.hr_base.specs.Bytes.{ByteList}
use Rattle.hr_cause.specs.declared.stream.Failed.{Failed}
use Rattle.hr_cause.specs.Calls.{counted, IsPlanned}

-- the bytes that were sent, the numbers of the calls that fail, how many calls there were, and how
-- many faults
pub record SinkState : Type 0 where
  pub sent : ByteList
  pub failing : List ℕ
  pub calls : ℕ
  pub faults : ℕ

-- a write that takes a front of a piece: all of it, or where there was no room its first byte
pub record Takes (before : SinkState) (bytes : ByteList) (count : ℕ) (now : SinkState)
    : Type 0 where
  pub unplanned : ¬ IsPlanned before.failing before.calls
  pub most : (count ≡ length bytes) ⊎ (count ≡ min 1 (length bytes))
  pub after : now ≡ record before { sent = before.sent ++ take count bytes; calls = counted before.calls }

-- a write that fails, by the list or for want of memory, and takes nothing: an empty piece wants none
pub record FailsToWrite (before : SinkState) (bytes : ByteList) (now : SinkState) : Type 0 where
  pub why : IsPlanned before.failing before.calls ⊎ (0 < length bytes)
  pub after : now ≡ record before { calls = counted before.calls; faults = counted before.faults }

-- one write of a piece
abbrev pub WritesTo : SinkState → ByteList → Result ℕ Failed → SinkState → Type 0
WritesTo before bytes result now =
    MatchResult result (λ count. Takes before bytes count now) (λ _. FailsToWrite before bytes now)
