-- Tests in turn, of which the first that fails is the answer. (Our own.)
use Rattle.std.specs.Prelude.{Bool, List, [], ◌∷◌, Option, Result, Ok, Err, if◌then◌else◌, ⊤}
use Rattle.std.specs.Option.{ok_or}
use Rattle.hr_manifest.specs.declared.refusal.ManifestKey.{ManifestKey}
use Rattle.hr_manifest.specs.declared.refusal.Unreadable.{Unreadable}
use Rattle.hr_manifest.specs.declared.refusal.Unreadable.TheVariants.{Field}

-- What follows a test that did not fail, and else the test's fault.
infixl 10 ◌>>=◌
abbrev pub ◌>>=◌ : {A B : Type 0} → Result A Unreadable → (A → Result B Unreadable) → Result B Unreadable
Ok x >>= next = next x
Err why >>= next = Err why

-- What follows a test that gives no value and did not fail, and else the test's fault.
infixl 10 ◌>>◌
abbrev pub ◌>>◌ : {A B : Type 0} → Result A Unreadable → Result B Unreadable → Result B Unreadable
Ok x >> next = next
Err why >> next = Err why

-- A test that must hold, with the fault where it does not.
abbrev pub check : Bool → Unreadable → Result ⊤ Unreadable
check holds why = if holds then Ok tt else Err why

-- A member that must be there and of its kind.
abbrev pub field : {A : Type 0} → ManifestKey → Option A → Result A Unreadable
field name found = ok_or found (Field name)

-- The values, where there is one in each place, or the first fault.
abbrev pub each : {A : Type 0} → List (Result A Unreadable) → Result (List A) Unreadable
each [] = Ok []
each (first ∷ rest) = do
  x ← first
  xs ← each rest
  Ok (x ∷ xs)
