-- Why a head is not read, by all the bytes that were left. (Our own.)
use Rattle.std.specs.Prelude.{⊤, ◌≡◌, ◌<◌, ◌≤◌, ◌+◌, length, take}
use Rattle.hr_base.specs.Bytes.{ByteList}
use Rattle.hr_body.specs.declared.fault.WireFault.{WireFault}
use Rattle.hr_body.specs.declared.fault.WireFault.TheVariants.{Failed, Malformed, Ended, TooLong, Memory}
use Rattle.hr_head.specs.declared.field.TheConstants.{HEAD_LIMIT}

-- why no head is read off bytes, for heads of which bytes may hold none, begin none that has few
-- enough lines, or begin one
abbrev pub HeadFault : (ByteList → Type 0) → (ByteList → Type 0) → (ByteList → Type 0) → ByteList
    → WireFault → Type 0
HeadFault hold_none begin_none may_begin bytes Failed = ⊤
HeadFault hold_none begin_none may_begin bytes Memory = ⊤
HeadFault hold_none begin_none may_begin bytes (Malformed at) =
    (at ≤ HEAD_LIMIT) × begin_none (take at bytes)
HeadFault hold_none begin_none may_begin bytes (Ended at) =
    (at ≡ length bytes) × (length bytes ≤ HEAD_LIMIT) × hold_none bytes × may_begin bytes
HeadFault hold_none begin_none may_begin bytes (TooLong len) =
    (len ≡ HEAD_LIMIT + 1) × (HEAD_LIMIT < length bytes) × hold_none bytes
    × may_begin (take HEAD_LIMIT bytes)

-- why the bytes so far are refused, for the same heads
abbrev pub RefusedSoFar : (ByteList → Type 0) → ByteList → WireFault → Type 0
RefusedSoFar begin_none bytes Failed = ⊥
RefusedSoFar begin_none bytes Memory = ⊤
RefusedSoFar begin_none bytes (Malformed at) = (at ≡ length bytes) × begin_none bytes
RefusedSoFar begin_none bytes (Ended at) = ⊥
RefusedSoFar begin_none bytes (TooLong len) = ⊥
