-- Which texts spell bytes in lower-case hexadecimal, and which bytes.
use Rattle.std.proofs.Common.{◌≡◌, ◌*◌, ◌/◌, ◌%◌, ◌<◌, ℕ, zero, suc, Bool, true, ◌&&◌, [], ◌∷◌, length, slice_index, refl, sym, ap, ◌∙◌, subst, inl, inr, arith}
use Rattle.std.specs.List.{AllPass}
use Rattle.std.proofs.lemmas.Bool.{and_parts, cases_lt}
use Rattle.std.proofs.lemmas.List.Elements.{All-cons, All-nil}
use Rattle.hex.specs.Hex.{IsBytes, decode_of, encode_lower, encode_with, lower_digits}
use Rattle.hex.proofs.HexLemmas.{decode_of-encode_lower, decode_of-same, length-encode_with}
use Rattle.hr_base.specs.Bytes.{ByteList, Text}
use Rattle.hr_text.specs.Hexadecimal.{IsHexadecimal, Spells, is_lower_hex}

-- ---- what is spelled is lower-case

abbrev is_lower_digit : ℕ → Bool
is_lower_digit d = is_lower_hex (slice_index lower_digits d)

abbrev all_lower_digits : ℕ → Bool
all_lower_digits zero = true
all_lower_digits (suc n) = is_lower_digit n && all_lower_digits n

all_lower_digits-at : (n k : ℕ) → all_lower_digits n ≡ true → k < n → is_lower_digit k ≡ true
all_lower_digits-at zero k h lt = absurd (omega arith)
all_lower_digits-at (suc n) k h lt =
    let parts = and_parts (is_lower_digit n) (all_lower_digits n) h in
    elim (cases_lt k n) [
      | inl below ↦ all_lower_digits-at n k parts.1 below
      | inr top ↦
          let e : k ≡ n = omega arith in
          rw e parts.0
    ]

lower_encoded : (bytes : ByteList) → IsBytes bytes → AllPass is_lower_hex (encode_lower bytes)
unfolding encode_with
lower_encoded [] h = All-nil (λ c. is_lower_hex c ≡ true)
lower_encoded (b ∷ bytes) h =
    let small : b < 256 = h 0 in
    let high : b / 16 < 16 = omega (arith, small) in
    All-cons (λ c. is_lower_hex c ≡ true) (slice_index lower_digits (b / 16)) (slice_index lower_digits (b % 16) ∷ encode_lower bytes) (all_lower_digits-at 16 (b / 16) refl high)
    (All-cons (λ c. is_lower_hex c ≡ true) (slice_index lower_digits (b % 16)) (encode_lower bytes) (all_lower_digits-at 16 (b % 16) refl (omega arith))
    (lower_encoded bytes (λ i. h (suc i))))

-- a text that spells bytes has two digits for each of them
pub spelled_length : (text : Text) (bytes : ByteList) → Spells text bytes → length text ≡ 2 * length bytes
spelled_length text bytes is = ap length (sym is.spelled) ∙ length-encode_with lower_digits bytes

-- a text that spells bytes is pairs of digits of lower-case hexadecimal
pub spelled_hexadecimal : (text : Text) (bytes : ByteList) → Spells text bytes → IsHexadecimal text
spelled_hexadecimal text bytes is = record {
  even = omega (arith, spelled_length text bytes is);
  digits = subst (λ (t : Text). AllPass is_lower_hex t) is.spelled (lower_encoded bytes is.whole);
}

-- a text spells no other bytes
pub spelled_once : (text : Text) (one other : ByteList) → Spells text one → Spells text other → one ≡ other
spelled_once text one other is also =
    decode_of-same text one other (ap (λ (t : Text). decode_of t) (sym is.spelled) ∙ decode_of-encode_lower one is.whole) (ap (λ (t : Text). decode_of t) (sym also.spelled) ∙ decode_of-encode_lower other also.whole)
