-- What reads of a body do to a device, told or not. (Our own.)
use Rattle.std.specs.Prelude.{⊤, ◌≡◌, ℕ, ◌+◌, ◌-◌, ◌^◌, ◌≤◌, ◌⊎◌, min, [], length, Option, Some, None}
use Rattle.hr_base.specs.Bytes.{ByteList}
use Rattle.hr_cause.specs.Stream.{Gave, IsEnded}
use Rattle.hr_body.specs.declared.stage.Stage.{Stage}
use Rattle.hr_body.specs.declared.stage.Stage.TheVariants.{Between, Chunk, Sized, ToEnd, Done}
use Rattle.hr_body.specs.declared.body.Body.{Body}
use Rattle.hr_body.specs.declared.fault.WireFault.{WireFault}
use Rattle.hr_body.specs.declared.fault.WireFault.TheVariants.{Failed, Malformed, Ended, TooLong, Memory}
use Rattle.hr_body.specs.Leading.{Leads, HoldsBody, Strays, IsShort, IsPast}

-- a count of bytes in 64 bits, which stays at its type's end
abbrev pub in_word : ℕ → ℕ
in_word n = min n (2 ^ 64 - 1)

-- the stage wants data, or the body is at its end
abbrev pub IsFound : Stage → Type 0
IsFound (Between coding) = ⊥
IsFound (Chunk more) = ⊤
IsFound (Sized more) = ⊤
IsFound ToEnd = ⊤
IsFound Done = ⊤

-- the bytes that came lead from p to q and are no data; at is how many of the message came by then
pub record Passed (old : Option ByteList) (p : Stage) (at : ℕ) (q : Stage) (now : ℕ)
    (new : Option ByteList) : Type 0 where
  pub front : ByteList
  pub told : Gave old front new
  pub leads : Leads p front [] q
  pub count : now ≡ in_word (at + length front)

-- the stage is q, or the device has ended behind a body that goes to its end
abbrev pub Closes : Stage → Option ByteList → Stage → Type 0
Closes mid new q = (mid ≡ q) ⊎ ((mid ≡ ToEnd) × (q ≡ Done) × IsEnded new)

-- the bytes that came lead from p to q, and give this piece of the body
pub record GavePiece (old : Option ByteList) (p : Stage) (at : ℕ) (piece : ByteList) (q : Stage)
    (now : ℕ) (new : Option ByteList) : Type 0 where
  pub front : ByteList
  pub mid : Stage
  pub told : Gave old front new
  pub leads : Leads p front piece mid
  pub closes : Closes mid new q
  pub count : now ≡ in_word (at + length front)

-- why the bytes that came, with the end of the device behind them, are no piece of a body
abbrev pub Explains : Stage → ℕ → ℕ → ℕ → ByteList → Option ByteList → WireFault → Type 0
Explains p at room limit front new Failed = ⊤
Explains p at room limit front new (Malformed n) =
    (n ≡ in_word (at + length front)) × Strays p room front
Explains p at room limit front new (Ended n) =
    (n ≡ in_word (at + length front)) × IsEnded new × IsShort p room front
Explains p at room limit front new (TooLong len) =
    (len ≡ in_word (limit + 1)) × IsPast p room front
Explains p at room limit front new Memory = ⊥

-- bytes came, and this fault is what they come to
pub record BrokeOff (old : Option ByteList) (p : Stage) (at room limit : ℕ) (why : WireFault)
    (new : Option ByteList) : Type 0 where
  pub front : ByteList
  pub told : Gave old front new
  pub explains : Explains p at room limit front new why

-- a read of a body gave this piece
pub record GaveOf (old : Option ByteList) (before : Body) (piece : ByteList) (now : Body)
    (new : Option ByteList) : Type 0 where
  pub gave : GavePiece old before.stage before.at piece now.stage now.at new
  pub room : now.room + length piece ≡ before.room
  pub limit : now.limit ≡ before.limit
  pub sound : before.kept ≡ None
  pub kept : now.kept ≡ None

-- a fault that comes the first time is explained, and one that comes again is the one that was kept
abbrev pub IsFirstOrKept : Option WireFault → Option ByteList → Body → WireFault → Option ByteList
    → Type 0
IsFirstOrKept None old before why new =
    BrokeOff old before.stage before.at before.room before.limit why new
IsFirstOrKept (Some kept) old before why new = (why ≡ kept) × (new ≡ old)

-- a read of a body gave a fault, which is kept
pub record LostOf (old : Option ByteList) (before : Body) (why : WireFault) (now : Body)
    (new : Option ByteList) : Type 0 where
  pub first : IsFirstOrKept before.kept old before why new
  pub kept : now.kept ≡ Some why

-- a body of which nothing was read, behind so many bytes of its message
pub record IsFresh (body : Body) (stage : Stage) (at limit : ℕ) : Type 0 where
  pub stage_is : body.stage ≡ stage
  pub at_is : body.at ≡ at
  pub room : body.room ≡ limit
  pub limit_is : body.limit ≡ limit
  pub kept : body.kept ≡ None

-- P of what was left and what is left now, where the device tells; it tells as before
abbrev pub WhereTold : Option ByteList → Option ByteList → (ByteList → ByteList → Type 0) → Type 0
WhereTold None None P = ⊤
WhereTold None (Some new) P = ⊥
WhereTold (Some old) None P = ⊥
WhereTold (Some old) (Some new) P = P old new

-- where the device tells, no body within this many bytes was there
abbrev pub HeldNone : Option ByteList → Stage → ℕ → Type 0
HeldNone None p room = ⊤
HeldNone (Some bytes) p room =
    (body rest : ByteList) → HoldsBody p bytes body rest → length body ≤ room → ⊥

-- 1 until the body is at its end
abbrev pub still_open : Stage → ℕ
still_open (Between coding) = 1
still_open (Chunk more) = 1
still_open (Sized more) = 1
still_open ToEnd = 1
still_open Done = 0
