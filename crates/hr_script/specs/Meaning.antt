-- What stands for something or is refused: the answers that are right, and their chains. (Our own.)
use Rattle.std.specs.Prelude.{◌≡◌, ⊤, List, [], ◌∷◌, Result, Ok, Err}
use Rattle.hr_script.specs.declared.refusal.Why.{Why}
use Rattle.hr_script.specs.declared.refusal.Refused.{Refused}
use Rattle.hr_script.specs.declared.refusal.Refused.TheVariants.{Bad, Memory}

-- which answers are right: a value, or why there is none
abbrev pub Meaning : Type 0 → Type 1
Meaning A = Result A Why → Type 0

-- this value alone is right
abbrev pub gives : {A : Type 0} → A → Meaning A
gives value answer = answer ≡ Ok value

-- this refusal alone is right
abbrev pub refuses : {A : Type 0} → Why → Meaning A
refuses why answer = answer ≡ Err why

-- each value of which the fact holds is right, and this refusal where there is none
abbrev pub stands_for : {A : Type 0} → (A → Type 0) → Why → Meaning A
stands_for Is why (Ok value) = Is value
stands_for {A} Is why (Err other) = (other ≡ why) × ((value : A) → Is value → ⊥)

-- what is right behind a first answer: a refusal stays
abbrev pub Follows : {A B : Type 0} → (A → Meaning B) → Result A Why → Meaning B
Follows next (Ok value) answer = next value answer
Follows next (Err why) answer = answer ≡ Err why

infixl 10 ◌>>=◌
-- a first meaning, and then another by its value
abbrev pub ◌>>=◌ : {A B : Type 0} → Meaning A → (A → Meaning B) → Meaning B
◌>>=◌ {A} {B} first next answer =
    (value : Result A Why) × first value × Follows next value answer

-- the meanings of words, one after the other
abbrev pub each : {W A : Type 0} → (W → Meaning A) → List W → Meaning (List A)
each of [] = gives []
each of (word ∷ words) = do
  value ← of word
  values ← each of words
  gives (value ∷ values)

-- the answer is right by this meaning, or memory ran out
abbrev pub Answers : {A : Type 0} → Meaning A → Result A Refused → Type 0
Answers meaning (Ok value) = meaning (Ok value)
Answers meaning (Err (Bad why)) = meaning (Err why)
Answers meaning (Err Memory) = ⊤
