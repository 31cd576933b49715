-- What the bytes of a pattern's text stand for. (Our own.)
use Rattle.std.specs.Prelude.{ℕ, ◌+◌, ◌==◌, if◌then◌else◌, List, [], ◌∷◌}
use Rattle.hr_base.specs.Bytes.{Text}
use Rattle.hr_pattern.specs.declared.item.Item.TheVariants.{Byte, Any, One}
use Rattle.hr_pattern.specs.declared.refusal.Why.TheVariants.{Class, Escape}
use Rattle.hr_pattern.specs.declared.sign.Placed.{Placed}
use Rattle.hr_pattern.specs.declared.sign.Sign.{Sign}
use Rattle.hr_pattern.specs.declared.sign.Sign.TheVariants.{Stands, Open, Comma, Close, Wrong}

-- What a byte other than `\` stands for, with no `\` before it.
abbrev pub sign_of : ℕ → Sign
sign_of byte =
    if byte == 42 then Stands Any else
    if byte == 63 then Stands One else
    if byte == 123 then Open else
    if byte == 44 then Comma else
    if byte == 125 then Close else
    if byte == 91 then Wrong Class else
    Stands (Byte byte)

abbrev mutual
  -- The signs of a text that begins at a place.
  pub signs_from : ℕ → Text → List Placed
  signs_from at [] = []
  signs_from at (byte ∷ bytes) =
      if byte == 92 then escaped_from at bytes else
      (record { at = at; sign = sign_of byte } ∷ signs_from (at + 1) bytes)

  -- The signs of the bytes behind a `\`, which stands at a place.
  pub escaped_from : ℕ → Text → List Placed
  escaped_from at [] = record { at = at; sign = Wrong Escape } ∷ []
  escaped_from at (byte ∷ bytes) =
      record { at = at; sign = Stands (Byte byte) } ∷ signs_from (at + 2) bytes

-- A text with a `\` before each byte.
abbrev pub escaped : Text → Text
escaped [] = []
escaped (byte ∷ text) = 92 ∷ byte ∷ escaped text
