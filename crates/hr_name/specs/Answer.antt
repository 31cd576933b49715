-- What an answer says of a test. (Our own.)
use Rattle.std.specs.Prelude.{⊤, ◌≡◌, Bool, true, false, Result, Ok, Err}
use Rattle.hr_name.specs.declared.refusal.NameRefused.{NameRefused}
use Rattle.hr_name.specs.declared.refusal.NameRefused.TheVariants as refused

-- the answer is a refusal exactly where the test fails, unless memory ran out
abbrev pub AnswersTest : {A : Type 0} → Bool → Result A NameRefused → Type 0
AnswersTest test (Ok read) = test ≡ true
AnswersTest test (Err refused.Memory) = ⊤
AnswersTest test (Err (refused.Shape at)) = test ≡ false
AnswersTest test (Err (refused.TooLong len)) = test ≡ false
