-- The digest of some bytes, and its text (OCI Image 1.1, "Descriptors", section "Digests").
use Rattle.std.specs.Prelude.{◌++◌, codes}
use Rattle.hex.specs.Hex.{encode_lower}
use Rattle.sha2.specs.Sha256.{sha256}
use Rattle.hr_base.specs.Bytes.{ByteList, Text}
use Rattle.hr_digest.specs.declared.digest.Digest.{Digest}
use Rattle.hr_digest.specs.declared.digest.Digest.TheVariants.{Sha256}

-- the digest of some bytes: their SHA-256 (FIPS 180-4)
abbrev pub digest_of : ByteList → Digest
digest_of bytes = Sha256 (sha256 bytes)

-- the text of a digest: its algorithm, a colon, and its hash in lower-case hexadecimal
abbrev pub text_of_digest : Digest → Text
text_of_digest (Sha256 hash) = codes "sha256:" ++ encode_lower hash
