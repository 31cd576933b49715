-- Lemmas on the length that a value of decimal digits says.
use Rattle.std.proofs.Common.{◌≡◌, ◌<◌, ◌≤◌, ◌^◌, ◌&&◌, ℕ, Bool, true, false, [], ◌∷◌, length, get_or, inl, inr, Option, Some, None, Result, Ok, Err, refl, sym, ap, ◌∙◌, subst, arith}
use Rattle.std.specs.Prelude.{if◌then◌else◌, nat_lt, nat_le}
use Rattle.std.specs.Char.{is_ascii_digit}
use Rattle.std.specs.Int.{IsInRange}
use Rattle.std.specs.List.{AllPass}
use Rattle.std.specs.Str.{IsAscii, IsUtf8, all_ascii_digits}
use Rattle.std.specs.Str.Parse.{ParsesUnsigned, digits_value}
use Rattle.std.specs.Result.{OkIff, result_ok}
use Rattle.std.proofs.lemmas.List.{get_or_past}
use Rattle.std.proofs.lemmas.Str.{IsUtf8-from_ascii}
use Rattle.std.proofs.lemmas.Bool.{cases_lt, and_from, ltb-true, lt-ltb, leb-true, le-leb, false_from_ne_true}
use Rattle.std.proofs.lemmas.Bool.Decides.{nat_tests}
use Rattle.std.proofs.lemmas.List.Elements.{All-cons, All-nil, All-head, All-tail}
use Rattle.std.proofs.lemmas.Str.Parse.{IsDigitsTest, IsNumeralModel, numerals_by_value, parse_digits}
use Rattle.hr_base.specs.Bytes.{Text}
use Rattle.hr_frame.specs.Length.{is_length, length_of}

both : (a b : Bool) → (a && b) ≡ true → (a ≡ true) × (b ≡ true)
both true b e = (refl, e)
both false b e = cc

-- what a length is, as facts
record IsLength (value : Text) : Type 0 where
  pub some : 0 < length value
  pub few : length value ≤ 19
  pub digits : AllPass is_ascii_digit value
  pub small : digits_value 10 value < 2 ^ 63

passed : (value : Text) → all_ascii_digits value ≡ true → AllPass is_ascii_digit value
passed [] e = All-nil (λ v. is_ascii_digit v ≡ true)
passed (b ∷ value) e =
    let p = both (is_ascii_digit b) (all_ascii_digits value) e in
    All-cons (λ v. is_ascii_digit v ≡ true) b value p.0 (passed value p.1)

tested : (value : Text) → AllPass is_ascii_digit value → all_ascii_digits value ≡ true
tested [] all = refl
tested (b ∷ value) all =
    and_from (is_ascii_digit b) (all_ascii_digits value) (All-head (λ v. is_ascii_digit v ≡ true) b value all)
    (tested value (All-tail (λ v. is_ascii_digit v ≡ true) b value all))

length_facts : (value : Text) → is_length value ≡ true → IsLength value
length_facts value e =
    let p = both (nat_lt 0 (length value)) (nat_le (length value) 19 && (all_ascii_digits value && nat_lt (digits_value 10 value) (2 ^ 63))) e in
    let q = both (nat_le (length value) 19) (all_ascii_digits value && nat_lt (digits_value 10 value) (2 ^ 63)) p.1 in
    let r = both (all_ascii_digits value) (nat_lt (digits_value 10 value) (2 ^ 63)) q.1 in
    record {
      some = ltb-true 0 (length value) p.0;
      few = leb-true (length value) 19 q.0;
      digits = passed value r.0;
      small = ltb-true (digits_value 10 value) (2 ^ 63) r.1;
    }

facts_length : (value : Text) → IsLength value → is_length value ≡ true
facts_length value is =
    and_from (nat_lt 0 (length value)) (nat_le (length value) 19 && (all_ascii_digits value && nat_lt (digits_value 10 value) (2 ^ 63)))
    (lt-ltb 0 (length value) is.some)
    (and_from (nat_le (length value) 19) (all_ascii_digits value && nat_lt (digits_value 10 value) (2 ^ 63)) (le-leb (length value) 19 is.few)
    (and_from (all_ascii_digits value) (nat_lt (digits_value 10 value) (2 ^ 63)) (tested value is.digits) (lt-ltb (digits_value 10 value) (2 ^ 63) is.small)))

none_is : (value : Text) → (IsLength value → ⊥) → None ≡ length_of value
none_is value not =
    let t : is_length value ≡ false = false_from_ne_true (is_length value) (λ e. not (length_facts value e)) in
    ap (λ t. if t then Some (digits_value 10 value) else None) (sym t)

some_is : (value : Text) → IsLength value → Some (digits_value 10 value) ≡ length_of value
some_is value is = ap (λ t. if t then Some (digits_value 10 value) else None) (sym (facts_length value is))

pub too_many : (value : Text) → 19 < length value → None ≡ length_of value
too_many value long = none_is value (λ is. let few = is.few in omega (arith, long, few))

pub other_bytes : (value : Text) → (AllPass is_ascii_digit value → ⊥) → None ≡ length_of value
other_bytes value not = none_is value (λ is. not is.digits)

range_of : (b : ℕ) → is_ascii_digit b ≡ true → IsInRange 48 57 b
range_of b e = grind (arith, nat_tests)

of_range : (b : ℕ) → IsInRange 48 57 b → is_ascii_digit b ≡ true
of_range b r = grind (arith, nat_tests)

digits_ascii : (value : Text) → AllPass is_ascii_digit value → IsAscii value
digits_ascii value all = λ i. elim (cases_lt i (length value)) [
  | inl inside ↦ let range = range_of (get_or value i 0) (all i 0 inside) in omega (arith, range)
  | inr past ↦ let none : get_or value i 0 ≡ 0 = get_or_past value i 0 past in omega (arith, none)
]

pub not_text : (value : Text) → AllPass is_ascii_digit value → (IsUtf8 value → ⊥) → None ≡ length_of value
not_text value all not = absurd (not (IsUtf8-from_ascii value (digits_ascii value all)))

tells : IsDigitsTest (AllPass is_ascii_digit)
tells = record {
  empty = All-nil (λ v. is_ascii_digit v ≡ true);
  parts = λ b value all. (range_of b (All-head (λ v. is_ascii_digit v ≡ true) b value all), All-tail (λ v. is_ascii_digit v ≡ true) b value all);
  more = λ b value r all. All-cons (λ v. is_ascii_digit v ≡ true) b value (of_range b r) all;
}

own : IsNumeralModel (AllPass is_ascii_digit) (digits_value 10)
own = numerals_by_value (AllPass is_ascii_digit) tells

-- what is parsed of a value of digits
pub record IsParsed (value : Text) (parsed : Option ℕ) : Type 0 where
  pub none : parsed ≡ None → None ≡ length_of value
  pub large : (len : ℕ) → parsed ≡ Some len → 2 ^ 63 ≤ len → None ≡ length_of value
  pub small : (len : ℕ) → parsed ≡ Some len → len < 2 ^ 63 → length value ≤ 19 → Some len ≡ length_of value

some_same : (a b : ℕ) → Some a ≡ Some b → a ≡ b
some_same a b e = cc

some_none : (a : ℕ) → Some a ≡ None → ⊥
some_none a e = cc

pub parsed_length : {E : Type 0} (value : Text) (r : Result ℕ E) → AllPass is_ascii_digit value → ParsesUnsigned 64 10 value r → IsParsed value (result_ok r)
parsed_length {E} value r all parses = go r (parse_digits own 64 value r parses all)
  where
    go : (r : Result ℕ E) → OkIff r ((0 < length value) × (digits_value 10 value < 2 ^ 64)) (digits_value 10 value) → IsParsed value (result_ok r)
    go (Ok n) ((some, fits), is) = record {
      none = λ e. absurd (some_none n e);
      large = λ len e le. none_is value (λ l. let small = l.small in let same = sym (some_same n len e) ∙ is in omega (arith, small, le, same));
      small = λ len e lt few.
          let same : len ≡ digits_value 10 value = sym (some_same n len e) ∙ is in
          ap Some same ∙ some_is value (record { some = some; few = few; digits = all; small = subst (λ k. k < 2 ^ 63) same lt });
    }
    go (Err e) not = record {
      none = λ e. none_is value (λ l. let small = l.small in let wide : digits_value 10 value < 2 ^ 64 = omega (arith, small) in not (l.some, wide));
      large = λ len e le. absurd (some_none len (sym e));
      small = λ len e lt few. absurd (some_none len (sym e));
    }
