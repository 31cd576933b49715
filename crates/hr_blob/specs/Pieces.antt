-- What reading a blob and writing it, piece by piece, leaves at both connections. (Our own.)
use Rattle.std.specs.Prelude.{◌≡◌, ◌<◌, ◌≤◌, ◌+◌, ℕ, false, IsTrue, [], ◌++◌, length, take, drop, Option, Some, None, IfSome, option_map, Result, Ok, Err}
use Rattle.hr_base.specs.Bytes.{ByteList}
use Rattle.hr_cause.specs.Stream.{Gave, IsEnded}
use Rattle.hr_adapter.specs.Calls.{Stays}
use Rattle.hr_adapter.specs.Reg.{Reading, Reg, Writing}
use Rattle.hr_adapter.specs.declared.fault.RegFault.{RegFault}
use Rattle.hr_adapter.specs.declared.registry.TheConstants.{BLOB_LIMIT}
use Rattle.hr_blob.specs.Copies.{Blames, IsUnplanned, ReadFails, WriteFails}
use Rattle.hr_blob.specs.declared.outcome.Failing.{Failing}
use Rattle.hr_blob.specs.declared.outcome.NotCopied.{NotCopied}
use Rattle.hr_blob.specs.declared.outcome.NotCopied.TheVariants as why

-- what calls left of which none is an operation
pub record Rests (before after : Reg) : Type 0 where
  pub later : before.faults ≤ after.faults
  pub steady : IfSome before.plan (λ _. after.faults ≡ before.faults)
  pub sure : IsTrue before.sure → IsTrue after.sure × (after.faults ≡ before.faults)
  pub quiet : IsTrue before.quiet → IsTrue after.quiet
  pub stays : Stays before after

-- ---- the source

-- an open blob gave these bytes, and is still open
abbrev pub GaveOpen : Option Reading → ByteList → Option Reading → Type 0
GaveOpen (Some before) bytes (Some after) = Gave before bytes after
GaveOpen (Some before) bytes None = ⊥
GaveOpen None bytes after = ⊥

-- a blob is open, of which nothing is left, where that is told
abbrev pub IsAtEnd : Option Reading → Type 0
IsAtEnd (Some left) = IsEnded left
IsAtEnd None = ⊥

-- a source from whose open blob these bytes were read
pub record GavePieces (bytes : ByteList) (before after : Reg) : Type 0 where
  pub rests : Rests before after
  pub writing : after.writing ≡ before.writing
  pub gave : GaveOpen before.reading bytes after.reading

-- a source whose open blob could not be read
pub record ReadBreaks (failing : Failing) (before after : Reg) : Type 0 where
  pub rests : Rests before after
  pub writing : after.writing ≡ before.writing
  pub fails : ReadFails failing before after

-- so many bytes were read into a buffer from a place on: none only at the end
pub record ReadsAt (at : ℕ) (buf : ByteList) (count : ℕ) (before after : Reg) : Type 0 where
  pub within : at + count ≤ length buf
  pub gave : GavePieces (take count (drop at buf)) before after
  pub ended : count ≡ 0 → IsAtEnd after.reading

-- so many bytes were read to the front of a buffer: fewer than it has only at the end
pub record Fills (buf : ByteList) (count : ℕ) (before after : Reg) : Type 0 where
  pub within : count ≤ length buf
  pub gave : GavePieces (take count buf) before after
  pub ended : count < length buf → IsAtEnd after.reading

-- ---- the destination

-- a writing was begun, and has no byte yet
abbrev pub IsBlank : Option Writing → Type 0
IsBlank (Some w) = (w.broken ≡ false) × (w.bytes ≡ [])
IsBlank None = ⊥

-- a writing with these bytes more
abbrev pub with_bytes : ByteList → Writing → Writing
with_bytes bytes w = record w { bytes = w.bytes ++ bytes }

-- a destination to whose writing these bytes were added
pub record TookPieces (bytes : ByteList) (before after : Reg) : Type 0 where
  pub rests : Rests before after
  pub reading : after.reading ≡ before.reading
  pub writing : after.writing ≡ option_map (with_bytes bytes) before.writing

-- a destination that did not take a piece: by its length only where all would be too long with it
pub record WriteBreaks (failing : Failing) (piece : ByteList) (before after : Reg) : Type 0 where
  pub rests : Rests before after
  pub reading : after.reading ≡ before.reading
  pub blames : Blames failing before after
  pub unplanned : IsUnplanned failing before
  pub too_long : (len : ℕ) → failing.fault ≡ RegFault.TooLong len
      → (BLOB_LIMIT < len) × IfSome before.writing (λ w. len ≡ length (w.bytes ++ piece))

-- ---- both

-- all bytes of an open blob went into a writing
pub record SentAll (bytes : ByteList) (len : ℕ) (s0 s1 d0 d1 : Reg) : Type 0 where
  pub source : GavePieces bytes s0 s1
  pub ended : IsAtEnd s1.reading
  pub dest : TookPieces bytes d0 d1
  pub long : length bytes ≡ len
  pub short : len ≤ BLOB_LIMIT

-- both connections where the pieces stopped
pub record Halts (s0 s1 d0 d1 : Reg) : Type 0 where
  pub source : Rests s0 s1
  pub writing : s1.writing ≡ s0.writing
  pub dest : Rests d0 d1
  pub reading : d1.reading ≡ d0.reading

-- an open blob gave more bytes than a blob may have
pub record GaveTooMany (len : ℕ) (s0 s1 : Reg) : Type 0 where
  pub bytes : ByteList
  pub gave : GavePieces bytes s0 s1
  pub long : length bytes ≡ len
  pub over : BLOB_LIMIT < len

-- all bytes of an open blob are sent to a writing, or it ends at a piece
abbrev pub SendsAll : ByteList → Reg → Reg → Reg → Reg → Result ℕ NotCopied → Type 0
SendsAll bytes s0 s1 d0 d1 (Ok len) = SentAll bytes len s0 s1 d0 d1
SendsAll bytes s0 s1 d0 d1 (Err (why.Unread failing)) =
    Halts s0 s1 d0 d1 × ReadFails failing s0 s1
SendsAll bytes s0 s1 d0 d1 (Err (why.Unwritten failing)) =
    Halts s0 s1 d0 d1 × WriteFails failing d0 d1
SendsAll bytes s0 s1 d0 d1 (Err (why.TooLong len)) = Halts s0 s1 d0 d1 × GaveTooMany len s0 s1
SendsAll bytes s0 s1 d0 d1 (Err _) = ⊥
