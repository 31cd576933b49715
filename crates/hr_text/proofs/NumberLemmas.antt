-- Decimal texts, as they begin and as they are parsed.
use Rattle.std.proofs.Common.{◌≡◌, ◌≢◌, ◌<◌, ◌≤◌, ◌^◌, ℕ, true, false, [], ◌∷◌, length, get_or, Option, IfNone, IfSome, Result, Ok, Err, inl, inr, sym, ap, ◌∙◌, subst, arith}
use Rattle.std.specs.Prelude.{decimal}
use Rattle.std.specs.Int.{IsInRange}
use Rattle.std.specs.Str.{IsUtf8}
use Rattle.std.specs.Str.Parse.{ParsesUnsigned, digits_value}
use Rattle.std.specs.Result.{OkIff, result_ok}
use Rattle.std.proofs.lemmas.Bool.{cases_lt, false≢true}
use Rattle.std.proofs.lemmas.Bool.Decides.{nat_tests}
use Rattle.std.proofs.lemmas.Fmt.{decimal_digit, decimal_nonempty, decimal-digits_value, digits_decimal, digits_value-decimal, first_decimal, IsAscii-decimal}
use Rattle.std.proofs.lemmas.Str.{IsUtf8-from_ascii}
use Rattle.std.proofs.lemmas.Str.Parse.{IsNumeralModel, numerals_by_value, parse_plain, tells_by_index}
use Rattle.hr_base.specs.Bytes.{Text}
use Rattle.hr_text.specs.Number.{IsNumber, begins_number}

abbrev AreDigits : Text → Type 0
AreDigits text = (i : ℕ) → i < length text → IsInRange 48 57 (get_or text i 0)

own : IsNumeralModel AreDigits (digits_value 10)
own = numerals_by_value AreDigits tells_by_index

begun : (word : Text) → 0 < length word → 49 ≤ get_or word 0 0 → get_or word 0 0 ≤ 57 → begins_number word ≡ true
begun [] some low high = absurd (omega arith)
begun (digit ∷ []) some low high = grind (arith, nat_tests)
begun (digit ∷ next ∷ digits) some low high = grind (arith, nat_tests)

-- the decimal text of a number is the digit zero, or begins with another digit
decimal_begins : (n : ℕ) → n < 2 ^ 64 → begins_number (decimal n) ≡ true
decimal_begins n small = elim (cases_lt 0 n) [
  | inl some ↦
      let digit = digits_decimal own n small 0 (decimal_nonempty n small) in
      let first = first_decimal n some small in
      begun (decimal n) (decimal_nonempty n small) (omega (arith, first)) (omega (arith, digit))
  | inr none ↦
      let zero : n ≡ 0 = omega arith in
      ap (λ k. begins_number (decimal k)) zero ∙ ap begins_number (decimal_digit 0 (omega arith))
]

pub not_begun : (word : Text) → begins_number word ≡ false → (number : ℕ) → IsNumber word number → ⊥
not_begun word other number is = false≢true (sym other ∙ ap begins_number is.written ∙ decimal_begins number is.small)

pub not_text : (word : Text) → (IsUtf8 word → ⊥) → (number : ℕ) → IsNumber word number → ⊥
not_text word none number is = none (subst IsUtf8 (sym is.written) (IsUtf8-from_ascii (decimal number) (IsAscii-decimal number is.small)))

no_sign : (word : Text) → begins_number word ≡ true → get_or word 0 0 ≢ 43
no_sign [] begins = cc begins
no_sign (digit ∷ []) begins = grind (arith, nat_tests)
no_sign (digit ∷ next ∷ digits) begins = grind (arith, nat_tests)

lone_zero : (word : Text) → begins_number word ≡ true → get_or word 0 0 ≡ 48 → length word ≡ 1
lone_zero [] begins is = cc begins
lone_zero (digit ∷ []) begins is = omega arith
lone_zero (digit ∷ next ∷ digits) begins is = absurd (grind (arith, nat_tests))

-- what is parsed of a word is the one number that it writes
pub record IsParsed (word : Text) (parsed : Option ℕ) : Type 0 where
  pub some : IfSome parsed (IsNumber word)
  pub none : IfNone parsed ((number : ℕ) → IsNumber word number → ⊥)

pub parsed_number : {E : Type 0} (word : Text) (r : Result ℕ E) → begins_number word ≡ true → ParsesUnsigned 64 10 word r → IsParsed word (result_ok r)
parsed_number {E} word r begins parses = go r (parse_plain own 64 word r parses (no_sign word begins))
  where
    go : (r : Result ℕ E) → OkIff r (AreDigits word × (0 < length word) × (digits_value 10 word < 2 ^ 64)) (digits_value 10 word) → IsParsed word (result_ok r)
    go (Ok n) ((digits, some, small), is) = record {
      some = record {
        written = sym (decimal-digits_value own word digits some (lone_zero word begins) small) ∙ ap decimal (sym is);
        small = subst (λ (k : ℕ). k < 2 ^ 64) (sym is) small;
      };
      none = tt;
    }
    go (Err e) not = record {
      some = tt;
      none = λ number is. not (
        subst AreDigits (sym is.written) (digits_decimal own number is.small),
        subst (λ (w : Text). 0 < length w) (sym is.written) (decimal_nonempty number is.small),
        subst (λ (w : Text). digits_value 10 w < 2 ^ 64) (sym is.written) (subst (λ (k : ℕ). k < 2 ^ 64) (sym (digits_value-decimal own number is.small)) is.small),
      );
    }
