-- What the bytes of a head end in. (Our own.)
use Rattle.std.specs.Prelude.{◌≡◌, ℕ, [], ◌∷◌, ◌++◌, Option, if◌then◌else◌, ◌==◌}
use Rattle.hr_base.specs.Bytes.{ByteList}
use Rattle.hr_cause.specs.Stream.{Gave}
use Rattle.hr_head.specs.declared.ending.Ending.{Ending}
use Rattle.hr_head.specs.declared.ending.Ending.TheVariants.{Lead, Within, Feed, Return, Empty}

-- what bytes end in with one behind them
abbrev pub ending_after : Ending → ℕ → Ending
ending_after Lead b = if b == 13 then Lead else (if b == 10 then Lead else Within)
ending_after Within b = if b == 10 then Feed else Within
ending_after Feed b = if b == 10 then Empty else (if b == 13 then Return else Within)
ending_after Return b = if b == 10 then Empty else Within
ending_after Empty b = if b == 10 then Empty else (if b == 13 then Return else Within)

-- what bytes end in, where those before them end in this
abbrev pub ending_of : Ending → ByteList → Ending
ending_of ending [] = ending
ending_of ending (b ∷ bytes) = ending_of (ending_after ending b) bytes

-- a byte came, was put behind the others, and moved on what they end in
pub record IsTaken (old : Option ByteList) (before : ByteList) (ending : Ending)
    (new : Option ByteList) (now : ByteList) (next : Ending) : Type 0 where
  pub byte : ℕ
  pub told : Gave old (byte ∷ []) new
  pub kept : now ≡ before ++ byte ∷ []
  pub next_is : next ≡ ending_after ending byte
