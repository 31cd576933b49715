-- Which texts are of a digest.
use Rattle.std.proofs.Common.{◌≡◌, ℕ, ◌==◌, ◌&&◌, List, ◌++◌, length, drop, Bool, true, false, cond, Some, None, option_and_then, Result, Ok, Err, codes, refl, sym, rules, tests}
use Rattle.std.specs.Result.{result_ok}
use Rattle.std.specs.Str.{bytes_eq}
use Rattle.std.proofs.lemmas.Slice.Eq.{bytes_eq-Decides}
use Rattle.hex.specs.Hex.{decode_of, encode_lower}
use Rattle.hex.specs.declared.error.FromHexError.{FromHexError}
use Rattle.hex.proofs.HexLemmas.{decode_of-encode_lower, decode_of-ok}
use Rattle.hr_digest.specs.Digest.{text_of_digest}
use Rattle.hr_digest.specs.Reading.{IsWhole}
use Rattle.hr_digest.specs.declared.digest.Digest.{Digest}
use Rattle.hr_digest.specs.declared.digest.Digest.TheVariants.{Sha256}
use Rattle.hr_manifest.specs.Descriptor.{digest_in}

-- the text of a whole digest is read as it
pub digest_in-whole : (text : List ℕ) (digest : Digest) → IsWhole digest → text ≡ text_of_digest digest → digest_in text ≡ Some digest
digest_in-whole text (Sha256 hash) whole is =
    rw (is, decode_of-encode_lower hash whole.1, whole.0, (bytes_eq-Decides (codes "sha256:" ++ encode_lower hash) (codes "sha256:" ++ encode_lower hash)).1 refl)

checked : (text hash : List ℕ) (long same : Bool) → (length hash == 32) ≡ long → bytes_eq (text_of_digest (Sha256 hash)) text ≡ same → decode_of (drop 7 text) ≡ Ok hash
    → ((digest : Digest) → IsWhole digest → text ≡ text_of_digest digest → ⊥)
    → cond (long && same) (Some (Sha256 hash)) None ≡ None
checked text hash true true long same is none =
    let whole : length hash ≡ 32 = search (rules, tests) in
    absurd (none (Sha256 hash) (whole, (decode_of-ok _ hash is).3) (sym ((bytes_eq-Decides _ text).0 same)))
checked text hash true false long same is none = refl
checked text hash false same long e is none = refl

decoded : (text : List ℕ) (r : Result (List ℕ) FromHexError) → decode_of (drop 7 text) ≡ r
    → ((digest : Digest) → IsWhole digest → text ≡ text_of_digest digest → ⊥)
    → option_and_then (λ hash. cond (length hash == 32 && bytes_eq (text_of_digest (Sha256 hash)) text) (Some (Sha256 hash)) None) (result_ok r) ≡ None
decoded text (Ok hash) is none = checked text hash _ _ refl refl is none
decoded text (Err e) is none = refl

-- what is the text of no whole digest is read as none
pub digest_in-none : (text : List ℕ) → ((digest : Digest) → IsWhole digest → text ≡ text_of_digest digest → ⊥) → digest_in text ≡ None
digest_in-none text none = decoded text _ refl none
