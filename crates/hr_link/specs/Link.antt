-- What contracts know of dials and doors: what the links to come will give, and what those that were
-- given back were sent. (Our own.)
use Rattle.std.specs.Prelude.{◌≡◌, ⊤, ℕ, List, [], ◌∷◌, ◌++◌, drop, Option, Some, None, option_map}
use Rattle.hr_base.specs.Bytes.{ByteList}
use Rattle.hr_link.specs.declared.fault.DialFault.{DialFault}
use Rattle.hr_link.specs.declared.fault.DialFault.TheVariants.{Failed, Memory}
use Rattle.hr_link.specs.declared.past_link.PastLink.{PastLink}

-- the fault is the dial's or the door's own
abbrev pub IsFailed : DialFault → Type 0
IsFailed Failed = ⊤
IsFailed Memory = ⊥

-- what the next link gives: the first of the lists of bytes, or none where there is none left
abbrev pub first_of : List ByteList → ByteList
first_of [] = []
first_of (bytes ∷ more) = bytes

-- a link that was just given, by what is left to come from it, what it was sent, and its count of
-- faults: where it is told, the first of the lists that were to come is left, and leaves them
pub record Gives (coming : Option (List ByteList)) (left sent : Option ByteList) (faults : ℕ)
    (now : Option (List ByteList)) : Type 0 where
  pub first : left ≡ option_map first_of coming
  pub unsent : sent ≡ option_map (λ _. []) coming
  pub calm : faults ≡ 0
  pub rest : now ≡ option_map (drop 1) coming

-- no link is left to come, where that is told
abbrev pub IsEmpty : Option (List ByteList) → Type 0
IsEmpty (Some coming) = coming ≡ []
IsEmpty None = ⊤

-- no caller will come any more
pub record Closes (coming now : Option (List ByteList)) : Type 0 where
  pub none : IsEmpty coming
  pub unchanged : now ≡ coming

-- a link that was given back, by what it was sent and its count of faults, comes behind those that
-- were given back before, where they are told
abbrev pub TakesBack : Option (List PastLink) → Option ByteList → ℕ → Option (List PastLink) → Type 0
TakesBack (Some before) (Some sent) faults (Some now) =
    now ≡ before ++ record { sent = sent; faults = faults } ∷ []
TakesBack (Some before) (Some sent) faults None = ⊥
TakesBack (Some before) None faults now = ⊥
TakesBack None sent faults (Some now) = ⊥
TakesBack None sent faults None = ⊤
