-- Texts of digits, and the numbers that they write.
use Rattle.std.proofs.Common.{◌≡◌, ◌<◌, ◌-◌, ◌^◌, ◌&&◌, ℕ, Bool, true, false, [], ◌∷◌, length, get_or, min, inl, inr, Option, Some, None, option_map, Result, Ok, Err, refl, sym, ap, ◌∙◌, arith}
use Rattle.std.specs.Prelude.{if◌then◌else◌}
use Rattle.std.specs.Char.{is_ascii_digit}
use Rattle.std.specs.Int.{IsInRange}
use Rattle.std.specs.List.{AllPass, list_all}
use Rattle.std.specs.Str.{IsAscii, IsUtf8}
use Rattle.std.specs.Str.Parse.{ParsesUnsigned, digits_value}
use Rattle.std.specs.Result.{OkIff}
use Rattle.std.proofs.lemmas.List.{get_or_past}
use Rattle.std.proofs.lemmas.Str.{IsUtf8-from_ascii}
use Rattle.std.proofs.lemmas.Bool.{and_from, cases_lt}
use Rattle.std.proofs.lemmas.Bool.Decides.{nat_tests}
use Rattle.std.proofs.lemmas.List.Elements.{All-cons, All-nil}
use Rattle.std.proofs.lemmas.Str.Parse.{IsDigitsTest, IsNumeralModel, numerals_by_value, parse_digits}
use Rattle.hr_base.specs.Bytes.{Text}
use Rattle.hr_text.specs.Number.{begins_number}
use Rattle.hr_rest.specs.Number.{is_number, number_in}

both : (a b : Bool) → (a && b) ≡ true → (a ≡ true) × (b ≡ true)
both true b e = (refl, e)
both false b e = cc

abbrev AreDigits : Text → Type 0
AreDigits text = list_all is_ascii_digit text ≡ true

range_of : (b : ℕ) → is_ascii_digit b ≡ true → IsInRange 48 57 b
range_of b e = grind (arith, nat_tests)

of_range : (b : ℕ) → IsInRange 48 57 b → is_ascii_digit b ≡ true
of_range b r = grind (arith, nat_tests)

tells : IsDigitsTest AreDigits
tells = record {
  empty = refl;
  parts = λ b text all. let p = both (is_ascii_digit b) (list_all is_ascii_digit text) all in (range_of b p.0, p.1);
  more = λ b text r all. and_from (is_ascii_digit b) (list_all is_ascii_digit text) (of_range b r) all;
}

own : IsNumeralModel AreDigits (digits_value 10)
own = numerals_by_value AreDigits tells

passed : (text : Text) → AreDigits text → AllPass is_ascii_digit text
passed [] all = All-nil (λ v. is_ascii_digit v ≡ true)
passed (b ∷ text) all =
    let p = both (is_ascii_digit b) (list_all is_ascii_digit text) all in
    All-cons (λ v. is_ascii_digit v ≡ true) b text p.0 (passed text p.1)

digits_ascii : (text : Text) → AllPass is_ascii_digit text → IsAscii text
digits_ascii text all = λ i. elim (cases_lt i (length text)) [
  | inl inside ↦ let range = range_of (get_or text i 0) (all i 0 inside) in omega (arith, range)
  | inr past ↦ let none : get_or text i 0 ≡ 0 = get_or_past text i 0 past in omega (arith, none)
]

digits_of : (text : Text) → is_number text ≡ true → AreDigits text
digits_of text e = (both (begins_number text) (list_all is_ascii_digit text) e).1

some_of : (text : Text) → begins_number text ≡ true → 0 < length text
some_of [] e = cc
some_of (b ∷ text) e = omega arith

-- a number is a text
pub number_text : (text : Text) → is_number text ≡ true → (IsUtf8 text → ⊥) → ⊥
number_text text e not = not (IsUtf8-from_ascii text (digits_ascii text (passed text (digits_of text e))))

-- the number that a text writes, or the last one of 64 bits
abbrev pub capped : Text → Option ℕ
capped text = option_map (λ n. min n (2 ^ 64 - 1)) (number_in text)

capped_is : (text : Text) (n : ℕ) → is_number text ≡ true → n ≡ min (digits_value 10 text) (2 ^ 64 - 1) → Some n ≡ capped text
capped_is text n e is =
    ap Some is
    ∙ ap (λ t. option_map (λ k. min k (2 ^ 64 - 1)) (if t then Some (digits_value 10 text) else None)) (sym e)

-- what is parsed of a number
pub record IsParsed {E : Type 0} (text : Text) (r : Result ℕ E) : Type 0 where
  pub fits : (n : ℕ) → r ≡ Ok n → Some n ≡ capped text
  pub not : (why : E) → r ≡ Err why → Some (2 ^ 64 - 1) ≡ capped text

ok_same : {E : Type 0} (r : Result ℕ E) (m n : ℕ) → r ≡ Ok m → r ≡ Ok n → m ≡ n
ok_same r m n e same = cc

ok_err : {E : Type 0} (m : ℕ) (why : E) → Ok m ≡ Err why → ⊥
ok_err m why e = cc

pub parsed : {E : Type 0} (text : Text) (r : Result ℕ E) → is_number text ≡ true → ParsesUnsigned 64 10 text r → IsParsed text r
parsed {E} text r e parses = go r (parse_digits own 64 text r parses (digits_of text e))
  where
    go : (r : Result ℕ E) → OkIff r ((0 < length text) × (digits_value 10 text < 2 ^ 64)) (digits_value 10 text) → IsParsed text r
    go (Ok m) ((some, small), is) = record {
      fits = λ n same. capped_is text n e (let k = ok_same (Ok m) m n refl same in omega (arith, k, is, small));
      not = λ why same. absurd (ok_err m why same);
    }
    go (Err why) fails = record {
      fits = λ n same. absurd (ok_err n why (sym same));
      not = λ other same.
          let begins = (both (begins_number text) (list_all is_ascii_digit text) e).0 in
          capped_is text (2 ^ 64 - 1) e (elim (cases_lt (digits_value 10 text) (2 ^ 64)) [
            | inl small ↦ absurd (fails (some_of text begins, small))
            | inr large ↦ omega (arith, large)
          ]);
    }
