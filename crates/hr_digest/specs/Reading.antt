-- Which texts are digests, and under which algorithm (OCI Image 1.1, "Descriptors", section
-- "Digests").
use Rattle.std.specs.Prelude.{◌≡◌, ◌≢◌, length, codes}
use Rattle.std.specs.List.{AllPass}
use Rattle.hex.specs.Hex.{IsBytes}
use Rattle.hr_base.specs.Bytes.{Text}
use Rattle.hr_text.specs.Hexadecimal.{is_lower_hex}
use Rattle.hr_digest.specs.Grammar.{HasParts}
use Rattle.hr_digest.specs.declared.digest.Digest.{Digest}
use Rattle.hr_digest.specs.declared.digest.Digest.TheVariants.{Sha256}

-- an encoded part under SHA-256: 64 digits of lower-case hexadecimal
pub record IsHash (encoded : Text) : Type 0 where
  pub long : length encoded ≡ 64
  pub digits : AllPass is_lower_hex encoded

-- an encoded part that is as its algorithm asks, where that algorithm is known here
abbrev pub Suits : Text → Text → Type 0
Suits algorithm encoded = algorithm ≡ codes "sha256" → IsHash encoded

-- the text of a digest, under any algorithm
pub record IsDigest (text : Text) : Type 0 where
  pub algorithm : Text
  pub encoded : Text
  pub parts : HasParts text algorithm encoded
  pub suits : Suits algorithm encoded

-- the text of a digest under an algorithm that is not known here
pub record IsForeign (text : Text) : Type 0 where
  pub algorithm : Text
  pub encoded : Text
  pub parts : HasParts text algorithm encoded
  pub foreign : algorithm ≢ codes "sha256"

-- a digest with as many bytes as its algorithm gives
abbrev pub IsWhole : Digest → Type 0
IsWhole (Sha256 hash) = (length hash ≡ 32) × IsBytes hash
