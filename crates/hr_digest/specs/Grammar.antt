-- The grammar of a digest's text (OCI Image 1.1, "Descriptors", section "Digests").
use Rattle.std.specs.Prelude.{◌≡◌, ◌<◌, ◌==◌, ◌||◌, ℕ, Bool, IsTrue, ◌∷◌, ◌++◌, length}
use Rattle.std.specs.Char.{is_ascii_alphabetic, is_ascii_digit, is_ascii_lowercase}
use Rattle.std.specs.List.{AllPass}
use Rattle.hr_base.specs.Bytes.{Text}

-- a byte of an algorithm's component: a lower-case letter or a digit
abbrev pub is_component_byte : ℕ → Bool
is_component_byte b = is_ascii_lowercase b || is_ascii_digit b

-- what separates two components: `+`, `.`, `_` or `-`
abbrev pub is_separator : ℕ → Bool
is_separator b = b == 43 || b == 46 || b == 95 || b == 45

-- a byte of an encoded part: a letter, a digit, `=`, `_` or `-`
abbrev pub is_encoded_byte : ℕ → Bool
is_encoded_byte b = is_ascii_alphabetic b || is_ascii_digit b || b == 61 || b == 95 || b == 45

-- bytes of one kind, at least one
pub record IsRun (is_kind : ℕ → Bool) (text : Text) : Type 0 where
  pub some : 0 < length text
  pub each : AllPass is_kind text

-- an algorithm: a component, or a component, a separator and an algorithm
pub data IsAlgorithm : Text → Type 0 where
  One : (text : Text) → IsRun is_component_byte text → IsAlgorithm text
  More : (text component : Text) (separator : ℕ) (rest : Text)
      → text ≡ component ++ separator ∷ rest
      → IsRun is_component_byte component → IsTrue (is_separator separator) → IsAlgorithm rest
      → IsAlgorithm text

-- a text that is an algorithm, a colon and an encoded part
pub record HasParts (text algorithm encoded : Text) : Type 0 where
  pub joined : text ≡ algorithm ++ 58 ∷ encoded
  pub named : IsAlgorithm algorithm
  pub encodes : IsRun is_encoded_byte encoded
