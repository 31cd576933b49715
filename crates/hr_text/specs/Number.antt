-- Decimal numbers. (Our own.)
use Rattle.std.specs.Prelude.{◌≡◌, ◌<◌, ◌^◌, ◌&&◌, nat_le, ℕ, Bool, false, [], ◌∷◌, decimal}
use Rattle.hr_base.specs.Bytes.{Text}

-- the word is the decimal text of this number, which is below 2^64
pub record IsNumber (word : Text) (number : ℕ) : Type 0 where
  pub written : word ≡ decimal number
  pub small : number < 2 ^ 64

-- whether a word is the digit zero, or begins with another digit
abbrev pub begins_number : Text → Bool
begins_number [] = false
begins_number (digit ∷ []) = nat_le 48 digit && nat_le digit 57
begins_number (digit ∷ digits) = nat_le 49 digit && nat_le digit 57
