-- Ranges are read back from their texts.
use Rattle.std.proofs.Common.{◌≡◌, ◌<◌, ◌≤◌, ◌-◌, ◌+◌, ◌^◌, ◌&&◌, ℕ, true, false, cond, eqb, eq-eqb, rules, [], ◌∷◌, length, Option, Some, None, ap, ◌∙◌, arith}
use Rattle.std.specs.Prelude.{decimal, nat_le, nat_lt, option_map}
use Rattle.std.specs.Char.{is_ascii_digit}
use Rattle.std.specs.List.{All, list_all}
use Rattle.std.specs.Str.Parse.{digits_value}
use Rattle.std.proofs.lemmas.Bool.{and_from, le-leb, lt-ltb}
use Rattle.std.proofs.lemmas.Bool.Decides.{nat_tests}
use Rattle.std.proofs.lemmas.Fmt.{decimal_nonempty, digits_decimal, digits_value-decimal, length-decimal-le}
use Rattle.std.proofs.lemmas.List.Elements.{All-weaker}
use Rattle.std.proofs.lemmas.List.Sums.{AllPass-from_list_all}
use Rattle.std.proofs.lemmas.Str.Parse.{IsNumeralModel, numerals_by_value}
use Rattle.hr_base.specs.Bytes.{ByteList, Text}
use Rattle.hr_frame.specs.Length.{is_length, length_of}
use Rattle.hr_route.specs.Part.{both}
use Rattle.hr_text.proofs.CutLaws.{cut_at_front}
use Rattle.hr_wire.specs.Range.{FitsRange, first_of, from_asked, places_of, range_of, range_text}

own : IsNumeralModel (λ ds. list_all is_ascii_digit ds ≡ true) (digits_value 10)
own = numerals_by_value _ (search rules)

-- decimal digits are a length
pub decimal_length : (n : ℕ) → n < 2 ^ 63 → length_of (decimal n) ≡ Some n
decimal_length n small =
    let big : n < 2 ^ 64 = omega arith in
    let digits = digits_decimal own n big in
    let value = digits_value-decimal own n big in
    let some = decimal_nonempty n big in
    let few : length (decimal n) ≤ 19 = length-decimal-le 19 n (omega arith) (omega arith) big in
    let fits : digits_value 10 (decimal n) < 2 ^ 63 = omega (arith, value, small) in
    let a : nat_lt 0 (length (decimal n)) ≡ true = lt-ltb 0 (length (decimal n)) some in
    let b : nat_le (length (decimal n)) 19 ≡ true = le-leb (length (decimal n)) 19 few in
    let d : nat_lt (digits_value 10 (decimal n)) (2 ^ 63) ≡ true = lt-ltb (digits_value 10 (decimal n)) (2 ^ 63) fits in
    let is : is_length (decimal n) ≡ true = (λ i. a i && (b i && (digits i && d i))) in
    ap (λ t. cond t (Some (digits_value 10 (decimal n))) None) is ∙ ap (λ k. Some k) value

no_dash : (byte : ℕ) → is_ascii_digit byte ≡ true → eqb byte 45 ≡ false
no_dash byte is = grind (arith, nat_tests)

no_dashes : (n : ℕ) → n < 2 ^ 63 → All (λ b. eqb b 45 ≡ false) (decimal n)
no_dashes n small =
    All-weaker (λ b. is_ascii_digit b ≡ true) (λ b. eqb b 45 ≡ false) no_dash (decimal n)
    (AllPass-from_list_all is_ascii_digit (decimal n) (digits_decimal own n (omega (arith, small))))

-- a range is read back
pub range_back : (first last : ℕ) → first < 2 ^ 63 → last < 2 ^ 63 → range_of (range_text first last) ≡ Some (first, last)
range_back first last low high =
    let a = decimal_length first low in
    let b = decimal_length last high in
    ap (λ (p : Text × Option Text). places_of p.0 p.1) (cut_at_front 45 (decimal first) (decimal last) (no_dashes first low))
    ∙ (λ i. both (a i) (b i))

-- the place of a chunk is read back
pub from_back : (from : ℕ) (bytes : ByteList) → FitsRange (Some from) bytes → from_asked (length bytes) (range_text from (from + length bytes - 1) ∷ []) ≡ Some (Some from)
from_back from bytes (some, small) =
    let n = length bytes in
    let last = from + n - 1 in
    let low : from < 2 ^ 63 = omega (arith, small) in
    let high : last < 2 ^ 63 = omega (arith, small) in
    let order : nat_le from last ≡ true = le-leb from last (omega (arith, some)) in
    let fills : eqb ((last - from) + 1) n ≡ true = eq-eqb ((last - from) + 1) n (omega (arith, some)) in
    let both_pass : (nat_le from last && eqb ((last - from) + 1) n) ≡ true = and_from (nat_le from last) (eqb ((last - from) + 1) n) order fills in
    ap (λ (r : Option (ℕ × ℕ)). option_map Some (first_of n r)) (range_back from last low high)
    ∙ ap (λ t. option_map Some (cond t (Some from) None)) both_pass
