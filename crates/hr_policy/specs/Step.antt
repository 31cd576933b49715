-- Tests in turn, of which the first that fails is the answer. (Our own.)
use Rattle.std.specs.Prelude.{◌≡◌, ℕ, Bool, List, [], ◌∷◌, ◌++◌, Option, Result, Ok, Err, if◌then◌else◌, ⊤}
use Rattle.std.specs.Option.{ok_or, option_to_list}
use Rattle.hr_policy.specs.declared.key.Key.{Key}
use Rattle.hr_policy.specs.declared.refusal.ConfigRefused.{ConfigRefused}
use Rattle.hr_policy.specs.declared.refusal.ConfigRefused.TheVariants as why

-- what follows a test that didn't fail, and else the test's fault
infixl 10 ◌>>=◌
abbrev pub ◌>>=◌ : {A B : Type 0} → Result A ConfigRefused → (A → Result B ConfigRefused) → Result B ConfigRefused
Ok x >>= next = next x
Err why >>= next = Err why

-- what follows a test that gives no value and didn't fail, and else the test's fault
infixl 10 ◌>>◌
abbrev pub ◌>>◌ : {A B : Type 0} → Result A ConfigRefused → Result B ConfigRefused → Result B ConfigRefused
Ok x >> next = next
Err why >> next = Err why

-- a test that must hold, with the fault where it doesn't
abbrev pub check : Bool → ConfigRefused → Result ⊤ ConfigRefused
check holds why = if holds then Ok tt else Err why

-- a member of a policy, or of none where its number is 0, which must be what it may be
abbrev pub field : {A : Type 0} → ℕ → Key → Option A → Result A ConfigRefused
field policy name found = ok_or found (why.Field policy name)

-- what the values give, joined in order, or the first fault
abbrev pub gather : {A B : Type 0} → (A → Result (List B) ConfigRefused) → List A → Result (List B) ConfigRefused
gather reader [] = Ok []
gather reader (first ∷ rest) = do
  xs ← reader first
  ys ← gather reader rest
  Ok (xs ++ ys)

-- what is made of what a test gives
abbrev pub mapped : {A B : Type 0} → (A → B) → Result A ConfigRefused → Result B ConfigRefused
mapped f (Ok x) = Ok (f x)
mapped f (Err why) = Err why

-- what the values give, one for each, or the first fault
abbrev pub each : {A B : Type 0} → (A → Result B ConfigRefused) → List A → Result (List B) ConfigRefused
each reader = gather (λ d. mapped (λ x. x ∷ []) (reader d))

-- what the values give, at most one for each, or the first fault
abbrev pub each_some : {A B : Type 0} → (A → Result (Option B) ConfigRefused) → List A → Result (List B) ConfigRefused
each_some reader = gather (λ d. mapped option_to_list (reader d))

-- the fault that was told is that of the reading, unless memory ran out
abbrev pub Fails : {A : Type 0} → ConfigRefused → Result A ConfigRefused → Type 0
Fails why.Memory reading = ⊤
Fails (why.TooLong len) reading = reading ≡ Err (why.TooLong len)
Fails why.NotJson reading = reading ≡ Err why.NotJson
Fails (why.Field policy name) reading = reading ≡ Err (why.Field policy name)
Fails (why.Repeated id) reading = reading ≡ Err (why.Repeated id)
Fails (why.Unknown reg) reading = reading ≡ Err (why.Unknown reg)
Fails (why.SameRegistry policy) reading = reading ≡ Err (why.SameRegistry policy)
Fails (why.Chain reg) reading = reading ≡ Err (why.Chain reg)

-- what was answered is what the reading gives, unless memory ran out
abbrev pub Gives : {A : Type 0} → Result A ConfigRefused → Result A ConfigRefused → Type 0
Gives (Ok x) reading = reading ≡ Ok x
Gives (Err why) reading = Fails why reading
