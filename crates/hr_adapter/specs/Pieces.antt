-- A blob that is written in pieces, before its end. (Our own.)
use Rattle.std.specs.Prelude.{◌≡◌, false, Option, Some, None}
use Rattle.hr_base.specs.Bytes.{ByteList}
use Rattle.hr_adapter.specs.Reg.{Writing}

-- a blob is being written, has these bytes so far, and can go on
abbrev pub HasWritten : ByteList → Option Writing → Type 0
HasWritten bytes (Some w) = (w.broken ≡ false) × (w.bytes ≡ bytes)
HasWritten bytes None = ⊥
