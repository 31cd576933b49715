-- What a text is answered, by its parts.
use Rattle.std.proofs.Common.{◌≡◌, ◌≢◌, ℕ, true, ◌∷◌, ◌++◌, Result, Ok, Err, refl, sym, ap, ◌∙◌, subst, arith}
use Rattle.std.specs.Prelude.{◌↔◌, IfOk, codes}
use Rattle.std.proofs.lemmas.Bool.Decides.{nat_tests}
use Rattle.std.proofs.lemmas.List.Elements.{All-weaker}
use Rattle.std.proofs.lemmas.List.Sums.{AllPass-from_list_all}
use Rattle.hex.specs.Hex.{encode_lower}
use Rattle.hr_base.specs.Bytes.{ByteList, Text}
use Rattle.hr_text.specs.Hexadecimal.{Spells, is_lower_hex}
use Rattle.hr_text.proofs.HexLaws.{spelled_hexadecimal, spelled_length, spelled_once}
use Rattle.hr_digest.specs.Digest.{text_of_digest}
use Rattle.hr_digest.specs.Grammar.{HasParts, IsAlgorithm, is_component_byte, is_encoded_byte}
use Rattle.hr_digest.specs.Grammar.IsAlgorithm.{One}
use Rattle.hr_digest.specs.Reading.{IsDigest, IsForeign, IsHash, IsWhole}
use Rattle.hr_digest.specs.declared.digest.Digest.{Digest}
use Rattle.hr_digest.specs.declared.digest.Digest.TheVariants.{Sha256}
use Rattle.hr_digest.specs.declared.reading.DigestRefused.{DigestRefused}
use Rattle.hr_digest.specs.declared.reading.DigestRefused.TheVariants as refused
use Rattle.hr_digest.proofs.GrammarLemmas.{parts_once}

-- ---- the text of a digest

lower_encodes : (c : ℕ) → is_lower_hex c ≡ true → is_encoded_byte c ≡ true
lower_encodes c is = grind (arith, nat_tests)

sha256_named : IsAlgorithm (codes "sha256")
sha256_named = One (codes "sha256") (record { some = omega arith; each = AllPass-from_list_all is_component_byte (codes "sha256") refl })

-- a hash that is whole is spelled by its hexadecimal
spelled_hash : (hash : ByteList) → IsWhole (Sha256 hash) → Spells (encode_lower hash) hash
spelled_hash hash whole = record { whole = whole.1; spelled = refl }

whole_hash : (hash : ByteList) → IsWhole (Sha256 hash) → IsHash (encode_lower hash)
whole_hash hash whole =
    let long = whole.0 in
    let is = spelled_hexadecimal (encode_lower hash) hash (spelled_hash hash whole) in record {
      long = omega (arith, long, spelled_length (encode_lower hash) hash (spelled_hash hash whole));
      digits = is.digits;
    }

-- the parts of a digest's text
text_parts : (hash : ByteList) → IsWhole (Sha256 hash) → HasParts (text_of_digest (Sha256 hash)) (codes "sha256") (encode_lower hash)
text_parts hash whole =
    let is = whole_hash hash whole in
    let long = is.long in record {
      joined = refl;
      named = sha256_named;
      encodes = record {
        some = omega (arith, long);
        each = All-weaker (λ c. is_lower_hex c ≡ true) (λ c. is_encoded_byte c ≡ true) lower_encodes (encode_lower hash) is.digits;
      };
    }

-- a text that is a digest's has its parts
written_parts : (text : Text) (hash : ByteList) → IsWhole (Sha256 hash) → text ≡ text_of_digest (Sha256 hash)
    → HasParts text (codes "sha256") (encode_lower hash)
written_parts text hash whole e =
    subst (λ (t : Text). HasParts t (codes "sha256") (encode_lower hash)) (sym e) (text_parts hash whole)

-- ---- answers

abbrev read_as : Digest → Result Digest DigestRefused
read_as digest = Ok digest

-- the clauses on what a text is answered
pub record Answers (text : Text) (result : Result Digest DigestRefused) : Type 0 where
  pub ok : IfOk result (λ digest. text ≡ text_of_digest digest)
  pub shape : (result ≡ Err refused.Shape) ↔ (IsDigest text → ⊥)
  pub algorithm : (result ≡ Err refused.Algorithm) ↔ IsForeign text
  pub written : (digest : Digest) → IsWhole digest → text ≡ text_of_digest digest → result ≡ Ok digest

pub no_parts_answer : (text : Text) → ((algorithm encoded : Text) → HasParts text algorithm encoded → ⊥) → Answers text (Err refused.Shape)
no_parts_answer text lacks = record {
  ok = tt;
  shape = (λ _ is. lacks is.algorithm is.encoded is.parts, λ _. refl);
  algorithm = (λ h. cc h, λ is. absurd (lacks is.algorithm is.encoded is.parts));
  written = never;
}
  where
    never : (digest : Digest) → IsWhole digest → text ≡ text_of_digest digest → Err refused.Shape ≡ Ok digest
    never (Sha256 hash) whole e = absurd (lacks (codes "sha256") (encode_lower hash) (written_parts text hash whole e))

pub foreign_answer : (text algorithm encoded : Text) → HasParts text algorithm encoded → algorithm ≢ codes "sha256" → Answers text (Err refused.Algorithm)
foreign_answer text algorithm encoded parts foreign = record {
  ok = tt;
  shape = (λ h. cc h, λ none. absurd (none (record { algorithm = algorithm; encoded = encoded; parts = parts; suits = λ e. absurd (foreign e) })));
  algorithm = (λ _. record { algorithm = algorithm; encoded = encoded; parts = parts; foreign = foreign }, λ _. refl);
  written = never;
}
  where
    never : (digest : Digest) → IsWhole digest → text ≡ text_of_digest digest → Err refused.Algorithm ≡ Ok digest
    never (Sha256 hash) whole e =
        absurd (foreign (parts_once text algorithm encoded (codes "sha256") (encode_lower hash) parts (written_parts text hash whole e)).0)

pub no_hash_answer : (text algorithm encoded : Text) → HasParts text algorithm encoded → algorithm ≡ codes "sha256" → (IsHash encoded → ⊥) → Answers text (Err refused.Shape)
no_hash_answer text algorithm encoded parts known lacks = record {
  ok = tt;
  shape = (
    λ _ is.
        let same = parts_once text algorithm encoded is.algorithm is.encoded parts is.parts in
        lacks (subst IsHash (sym same.1) (is.suits (sym same.0 ∙ known))),
    λ _. refl,
  );
  algorithm = (
    λ h. cc h,
    λ is. absurd (is.foreign (sym (parts_once text algorithm encoded is.algorithm is.encoded parts is.parts).0 ∙ known)),
  );
  written = never;
}
  where
    never : (digest : Digest) → IsWhole digest → text ≡ text_of_digest digest → Err refused.Shape ≡ Ok digest
    never (Sha256 hash) whole e =
        let same = parts_once text algorithm encoded (codes "sha256") (encode_lower hash) parts (written_parts text hash whole e) in
        absurd (lacks (subst IsHash (sym same.1) (whole_hash hash whole)))

pub hash_answer : (text algorithm encoded : Text) (hash : ByteList) → HasParts text algorithm encoded → algorithm ≡ codes "sha256" → IsHash encoded → Spells encoded hash → Answers text (Ok (Sha256 hash))
hash_answer text algorithm encoded hash parts known is spells = record {
  ok = parts.joined
      ∙ ap (λ (a : Text). a ++ 58 ∷ encoded) known
      ∙ ap (λ (e : Text). codes "sha256" ++ 58 ∷ e) (sym spells.spelled);
  shape = (
    λ h. cc h,
    λ none. absurd (none (record { algorithm = algorithm; encoded = encoded; parts = parts; suits = λ _. is })),
  );
  algorithm = (
    λ h. cc h,
    λ other. absurd (other.foreign (sym (parts_once text algorithm encoded other.algorithm other.encoded parts other.parts).0 ∙ known)),
  );
  written = again;
}
  where
    again : (digest : Digest) → IsWhole digest → text ≡ text_of_digest digest → read_as (Sha256 hash) ≡ read_as digest
    again (Sha256 other) whole e =
        let same = parts_once text algorithm encoded (codes "sha256") (encode_lower other) parts (written_parts text other whole e) in
        let spelled : Spells encoded other = subst (λ (t : Text). Spells t other) (sym same.1) (spelled_hash other whole) in
        ap (λ (h : ByteList). read_as (Sha256 h)) (spelled_once encoded hash other spells spelled)
