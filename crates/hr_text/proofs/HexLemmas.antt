-- The bytes that are decoded from lower-case hexadecimal spell it.
use Rattle.std.proofs.Common.{◌≡◌, ◌+◌, ◌*◌, ◌/◌, ◌%◌, ◌<◌, ◌≤◌, ℕ, zero, suc, Bool, true, ◌&&◌, ◌||◌, List, [], ◌∷◌, length, slice_index, Option, Some, None, unwrap_or, Result, Ok, Err, IsOk, MatchResult, is_ok, refl, sym, ap, ◌∙◌, subst, inl, inr, arith}
use Rattle.std.specs.Prelude.{◌==◌, not}
use Rattle.std.specs.List.{AllPass}
use Rattle.std.specs.Result.{result_unwrap_or}
use Rattle.std.proofs.lemmas.Bool.{and_parts, cases_lt, eqb-true, false≢true}
use Rattle.std.proofs.lemmas.Bool.Decides.{nat_tests}
use Rattle.std.proofs.lemmas.List.Elements.{All-head, All-tail, All-weaker}
use Rattle.hex.specs.Hex.{decode_of, decode_pairs, decode_sized, digit_or_error, encode_lower, encode_with, hex_digit_value, is_hex_digit, lower_digits, pair_value, value_at, ◌>>=◌}
use Rattle.hex.specs.declared.error.FromHexError.{FromHexError}
use Rattle.hex.proofs.HexLemmas.{IsOk-decode_sized, decode_of-even, decode_of-ok, decode_sized-twice}
use Rattle.hr_base.specs.Bytes.{ByteList, Text}
use Rattle.hr_text.specs.Hexadecimal.{Spells, is_lower_hex}

-- ---- the sixteen digits

-- a digit of the table is lower-case, and stands at its value
abbrev is_at_home : ℕ → Bool
is_at_home c = not (is_lower_hex c) || (slice_index lower_digits (unwrap_or (hex_digit_value c) 16) == c)

abbrev all_at_home : ℕ → Bool
all_at_home zero = true
all_at_home (suc n) = is_at_home n && all_at_home n

all_at_home-at : (n k : ℕ) → all_at_home n ≡ true → k < n → is_at_home k ≡ true
all_at_home-at zero k h lt = absurd (omega arith)
all_at_home-at (suc n) k h lt =
    let parts = and_parts (is_at_home n) (all_at_home n) h in
    elim (cases_lt k n) [
      | inl below ↦ all_at_home-at n k parts.1 below
      | inr top ↦
          let e : k ≡ n = omega arith in
          rw e parts.0
    ]

lower_small : (c : ℕ) → is_lower_hex c ≡ true → c < 103
lower_small c h = elim (cases_lt c 103) [ inl below ↦ below | inr above ↦ absurd (high c (omega arith) h) ]
  where
    high : (c : ℕ) → 103 ≤ c → is_lower_hex c ≡ true → ⊥
    high c le h = grind (arith, nat_tests)

at_home : (c v : ℕ) → is_lower_hex c ≡ true → hex_digit_value c ≡ Some v → slice_index lower_digits v ≡ c
at_home c v lower value =
    let home = all_at_home-at 103 c refl (lower_small c lower) in
    let second : (slice_index lower_digits (unwrap_or (hex_digit_value c) 16) == c) ≡ true = subst (λ b. (not b || (slice_index lower_digits (unwrap_or (hex_digit_value c) 16) == c)) ≡ true) lower home in
    ap (λ (o : Option ℕ). slice_index lower_digits (unwrap_or o 16)) (sym value) ∙ eqb-true _ _ second

-- ---- decoding and back

bind_ok : {A B : Type 0} (r : Result A FromHexError) (f : A → Result B FromHexError) (y : B) → (r >>= f) ≡ Ok y → (x : A) × (r ≡ Ok x) × (f x ≡ Ok y)
bind_ok (Ok x) f y h = (x, refl, h)
bind_ok (Err e) f y h = cc h

digit_read : (c i : ℕ) (o : Option ℕ) (v : ℕ) → digit_or_error c i o ≡ Ok v → o ≡ Some v
digit_read c i (Some w) v h = ap Some (ap (λ (r : Result ℕ FromHexError). result_unwrap_or r 0) h)
digit_read c i None v h = cc h

digit_small : (c v : ℕ) → hex_digit_value c ≡ Some v → v < 16
digit_small c v h = grind (arith)

three : (x a y b : ℕ) (xs ys : List ℕ) → x ≡ a → y ≡ b → xs ≡ ys → x ∷ y ∷ xs ≡ a ∷ b ∷ ys
three x a y b xs ys p q r = cc

encode-decode_pairs : (i : ℕ) (s bytes : List ℕ) → decode_pairs i s ≡ Ok bytes → AllPass is_lower_hex s → encode_lower bytes ≡ s
unfolding decode_pairs encode_with
encode-decode_pairs i [] bytes h lower =
    let e : [] ≡ bytes = ap (λ (r : Result (List ℕ) FromHexError). result_unwrap_or r []) h in
    rw (← e) refl
encode-decode_pairs i (a ∷ []) bytes h lower = cc h
encode-decode_pairs i (a ∷ b ∷ rest) bytes h lower =
    let p0 = bind_ok (pair_value a b i) _ bytes h in
    let p1 = bind_ok (value_at a i) _ p0.0 p0.1 in
    let p2 = bind_ok (value_at b (i + 1)) _ p0.0 p1.2 in
    let p3 = bind_ok (decode_pairs (i + 2) rest) _ bytes p0.2 in
    let e : p0.0 ∷ p3.0 ≡ bytes = ap (λ (r : Result (List ℕ) FromHexError). result_unwrap_or r []) p3.2 in
    let byte : p1.0 * 16 + p2.0 ≡ p0.0 = ap (λ (r : Result ℕ FromHexError). result_unwrap_or r 0) p2.2 in
    let tail = All-tail (λ c. is_lower_hex c ≡ true) a (b ∷ rest) lower in
    let ih = encode-decode_pairs (i + 2) rest p3.0 p3.1 (All-tail (λ c. is_lower_hex c ≡ true) b rest tail) in
    let va = digit_read a i (hex_digit_value a) p1.0 p1.1 in
    let vb = digit_read b (i + 1) (hex_digit_value b) p2.0 p2.1 in
    let sa = digit_small a p1.0 va in
    let sb = digit_small b p2.0 vb in
    let ea = at_home a p1.0 (All-head (λ c. is_lower_hex c ≡ true) a (b ∷ rest) lower) va in
    let eb = at_home b p2.0 (All-head (λ c. is_lower_hex c ≡ true) b rest tail) vb in
    let high : p0.0 / 16 ≡ p1.0 = omega (arith, byte, sb) in
    let low : p0.0 % 16 ≡ p2.0 = omega (arith, byte, sb) in
    let first : slice_index lower_digits (p0.0 / 16) ≡ a = ap (slice_index lower_digits) high ∙ ea in
    let second : slice_index lower_digits (p0.0 % 16) ≡ b = ap (slice_index lower_digits) low ∙ eb in
    rw (← e) (three (slice_index lower_digits (p0.0 / 16)) a (slice_index lower_digits (p0.0 % 16)) b (encode_lower p3.0) rest first second ih)

-- what lower-case digits are decoded to is what they spell
pub decoded_spelled : (text : Text) (bytes : ByteList) → decode_of text ≡ Ok bytes → AllPass is_lower_hex text → Spells text bytes
decoded_spelled text bytes h lower =
    let ok = decode_of-ok text bytes h in
    record { whole = ok.3; spelled = encode-decode_pairs 0 text bytes (sym (decode_of-even text ok.0) ∙ h) lower }

lower_is_hex : (c : ℕ) → is_lower_hex c ≡ true → is_hex_digit c ≡ true
lower_is_hex c is = grind (arith, nat_tests)

decoded_some : (d : Result (List ℕ) FromHexError) → IsOk d → (bytes : List ℕ) × (d ≡ Ok bytes)
decoded_some (Ok bytes) ok = (bytes, refl)
decoded_some (Err e) ok = absurd (false≢true ok)

-- lower-case digits are decoded into room for their bytes, which they spell
pub decoded_to : {U : Type 0} (u : U) (text room : Text) (n : ℕ) (r : Result U FromHexError) → length text ≡ 2 * n → AllPass is_lower_hex text
    → MatchResult (decode_sized text n) (λ bytes. (r ≡ Ok u) × (room ≡ bytes)) (λ e. r ≡ Err e)
    → (is_ok r ≡ true) × Spells text room
decoded_to {U} u text room n r long lower m =
    let hex = All-weaker (λ c. is_lower_hex c ≡ true) (λ c. is_hex_digit c ≡ true) lower_is_hex text lower in
    let some = decoded_some (decode_sized text n) ((IsOk-decode_sized text n).1 (long, hex)) in
    let is : (r ≡ Ok u) × (room ≡ some.0) = subst (λ (d : Result (List ℕ) FromHexError). MatchResult d (λ bytes. (r ≡ Ok u) × (room ≡ bytes)) (λ e. r ≡ Err e)) some.1 m in
    let spelled = decoded_spelled text some.0 (sym (decode_sized-twice text n long) ∙ some.1) lower in
    (ap (λ (q : Result U FromHexError). is_ok q) is.0, subst (λ (b : List ℕ). Spells text b) (sym is.1) spelled)
