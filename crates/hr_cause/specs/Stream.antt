-- What contracts know of a device: how often it failed, and, where it tells, its bytes. (Our own.)
use Rattle.std.specs.Prelude.{◌≡◌, ◌<◌, ◌≤◌, ◌+◌, ◌-◌, ◌^◌, ◌⊎◌, ⊤, ℕ, min, [], ◌++◌, length, take, Option, Some, None, Result, IfErr, MatchResult}
use Rattle.hr_base.specs.Bytes.{ByteList}

-- a count of faults rose, or stands at its type's end
abbrev pub Rose : ℕ → ℕ → Type 0
Rose before now = min (before + 1) (2 ^ 64 - 1) ≤ now

-- an answer has its cause in the count of faults: an error that is a fault of the device comes only
-- where the count rose, and at every other answer the count stays
pub record HasCause {T E : Type 0} (is_fault : E → Type 0) (before now : ℕ) (result : Result T E)
    : Type 0 where
  pub later : before ≤ now
  pub failed : IfErr result (λ why. is_fault why → Rose before now)
  pub calm : MatchResult result (λ _. now ≡ before) (λ why. is_fault why ⊎ (now ≡ before))

-- an answer that can fail by a fault of the device alone has its cause in the count of faults
abbrev pub FailsByFault : {T E : Type 0} → ℕ → ℕ → Result T E → Type 0
FailsByFault before now result = HasCause (λ _. ⊤) before now result

-- where the device tells what is left, these bytes came from its front
abbrev pub Gave : Option ByteList → ByteList → Option ByteList → Type 0
Gave (Some before) bytes (Some now) = before ≡ bytes ++ now
Gave None bytes None = ⊤
Gave (Some before) bytes None = ⊥
Gave None bytes (Some now) = ⊥

-- where the device tells what is left, nothing is
abbrev pub IsEnded : Option ByteList → Type 0
IsEnded (Some left) = left ≡ []
IsEnded None = ⊤

-- where the device tells what it was sent, these bytes went to its end
abbrev pub Took : Option ByteList → ByteList → Option ByteList → Type 0
Took (Some before) bytes (Some now) = now ≡ before ++ bytes
Took None bytes None = ⊤
Took (Some before) bytes None = ⊥
Took None bytes (Some now) = ⊥

-- a read of count bytes into the front of a buffer, from what was left to what is left now: it
-- gives no byte only at the end of the input, or for an empty buffer
pub record Reads (before : Option ByteList) (buf : ByteList) (count : ℕ) (now : Option ByteList) : Type 0 where
  pub within : count ≤ length buf
  pub told : Gave before (take count buf) now
  pub ended : count ≡ 0 → 0 < length buf → IsEnded before

-- a write of the first count bytes of a piece, from what was sent to what is sent now: it takes no
-- byte only of an empty piece
pub record Writes (before : Option ByteList) (bytes : ByteList) (count : ℕ) (now : Option ByteList) : Type 0 where
  pub within : count ≤ length bytes
  pub some : 0 < length bytes → 0 < count
  pub told : Took before (take count bytes) now

-- where the device tells what it was sent, a front of these bytes went to its end
abbrev pub TookFront : Option ByteList → ByteList → Option ByteList → Type 0
TookFront before bytes now =
    (front : ByteList) × (rest : ByteList) × (bytes ≡ front ++ rest) × Took before front now
