-- The digest of some bytes has as many bytes as its algorithm gives.
use Rattle.std.proofs.Common.{ℕ, zero, suc, List, [], ◌∷◌, ◌++◌, ◌<◌, arith}
use Rattle.std.specs.List.{AllByRecursion}
use Rattle.hex.specs.Hex.{IsBytes}
use Rattle.sha2.specs.Sha256.{digest_bytes, sha256}
use Rattle.sha2.proofs.Facts256.{length-sha256}
use Rattle.hr_base.specs.Bytes.{ByteList}
use Rattle.hr_digest.specs.Digest.{digest_of}
use Rattle.hr_digest.specs.Reading.{IsWhole}

abbrev AreBytes : List ℕ → Type 0
AreBytes = AllByRecursion (λ b. b < 256)

bytes_append : (xs ys : List ℕ) → AreBytes xs → AreBytes ys → AreBytes (xs ++ ys)
bytes_append [] ys h k = k
bytes_append (x ∷ xs) ys h k = (h.0, bytes_append xs ys h.1 k)

digest_small : (h : List ℕ) (n : ℕ) → AreBytes (digest_bytes h n)
unfolding digest_bytes
digest_small h zero = tt
digest_small h (suc n) =
    bytes_append (digest_bytes h n) _ (digest_small h n) (omega arith, (omega arith, (omega arith, (omega arith, tt))))

each_small : (xs : List ℕ) → AreBytes xs → IsBytes xs
each_small [] h i = omega arith
each_small (x ∷ xs) h zero = h.0
each_small (x ∷ xs) h (suc i) = each_small xs h.1 i

pub whole_digest : (bytes : ByteList) → IsWhole (digest_of bytes)
unfolding sha256
whole_digest bytes = (length-sha256 bytes, each_small _ (digest_small _ 8))
