-- Plain media types, and the values that say them.
use Rattle.std.proofs.Common.{◌≡◌, ◌≢◌, ◌<◌, ◌-◌, ◌+◌, ◌&&◌, ℕ, true, false, cond, eqb, List, [], ◌∷◌, length, take, drop, reverse, Option, Some, None, refl, sym, ap, ◌∙◌, arith}
use Rattle.std.specs.Prelude.{nat_le, nat_lt}
use Rattle.std.specs.Char.{is_ascii_whitespace}
use Rattle.std.specs.List.{All, AllPass, list_all, prefix_len, suffix_len}
use Rattle.std.proofs.lemmas.Bool.{and_from, and_parts, false_from_ne_true, le-leb, leb-true, lt-ltb, ltb-true}
use Rattle.std.proofs.lemmas.Bool.Decides.{nat_tests}
use Rattle.std.proofs.lemmas.List.{take_all}
use Rattle.std.proofs.lemmas.List.Elements.{All-head, All-tail, All-weaker}
use Rattle.std.proofs.lemmas.List.Sums.{AllPass-from_list_all, list_all-from_AllPass}
use Rattle.httparse.proofs.TrimLemmas.{AllPass-reverse}
use Rattle.hr_adapter.specs.Media.{FitsHeader, is_header_byte}
use Rattle.hr_base.specs.Bytes.{Media, Text}
use Rattle.hr_route.specs.Found.{IsFound}
use Rattle.hr_route.specs.declared.found.Found.TheVariants.{Many}
use Rattle.hr_text.specs.Cutting.{cut_at}
use Rattle.hr_wire.specs.Media.{end_trimmed, front_trimmed, is_plain, media_asked, plain_said, type_said}

some_bytes : (media : Media) → media ≢ [] → nat_lt 0 (length media) ≡ true
some_bytes [] some = absurd (some refl)
some_bytes (byte ∷ rest) some = lt-ltb 0 (length (byte ∷ rest)) (omega arith)

not_empty : (media : Media) → 0 < length media → media ≢ []
not_empty [] less e = omega (arith, less)
not_empty (byte ∷ rest) less e = cc e

-- a plain media type passes the test
pub plain_passes : (media : Media) → FitsHeader media → is_plain media ≡ true
plain_passes media fits =
    and_from (nat_lt 0 (length media)) (nat_le (length media) 255 && list_all is_header_byte media) (some_bytes media fits.some)
    (and_from (nat_le (length media) 255) (list_all is_header_byte media) (le-leb (length media) 255 fits.short)
    (list_all-from_AllPass is_header_byte media fits.each))

-- what passes the test is a plain media type
pub passes_plain : (media : Media) → is_plain media ≡ true → FitsHeader media
passes_plain media passes =
    let first = and_parts (nat_lt 0 (length media)) (nat_le (length media) 255 && list_all is_header_byte media) passes in
    let rest = and_parts (nat_le (length media) 255) (list_all is_header_byte media) first.1 in
    record {
      some = not_empty media (ltb-true 0 (length media) first.0);
      each = AllPass-from_list_all is_header_byte media rest.1;
      short = leb-true (length media) 255 rest.0;
    }

-- the media type of a value, by whether it fits a header
pub said_plain : (value : Text) → FitsHeader (type_said value) → Some (type_said value) ≡ plain_said value
said_plain value fits = ap (λ t. cond t (Some (type_said value)) None) (sym (plain_passes (type_said value) fits))

pub said_other : (value : Text) → (FitsHeader (type_said value) → ⊥) → None ≡ plain_said value
said_other value not =
    ap (λ t. cond t (Some (type_said value)) None)
    (sym (false_from_ne_true (is_plain (type_said value)) (λ t. not (passes_plain (type_said value) t))))

-- several values say no media type
pub several_types : (values : List Text) → IsFound values Many → None ≡ media_asked values
several_types [] is = absurd is
several_types (value ∷ []) is = absurd is
several_types (value ∷ other ∷ values) is = refl

-- ---- a plain media type is said by itself

no_parameter : (byte : ℕ) → is_header_byte byte ≡ true → eqb byte 59 ≡ false
no_parameter byte is = grind (arith, nat_tests)

no_blank : (byte : ℕ) → is_header_byte byte ≡ true → is_ascii_whitespace byte ≡ false
no_blank byte is = grind (arith, nat_tests)

uncut : (byte : ℕ) (text : Text) → All (λ b. eqb b byte ≡ false) text → cut_at byte text ≡ (text, None)
uncut byte [] free = refl
uncut byte (x ∷ xs) free =
    rw (All-head (λ b. eqb b byte ≡ false) x xs free)
    (ap (λ p. (x ∷ p.0, p.1)) (uncut byte xs (All-tail (λ b. eqb b byte ≡ false) x xs free)))

no_blanks : (text : Text) → AllPass is_header_byte text → prefix_len is_ascii_whitespace text ≡ 0
no_blanks [] all = refl
no_blanks (byte ∷ rest) all =
    ap (λ t. cond t (1 + prefix_len is_ascii_whitespace rest) 0) (no_blank byte (All-head (λ b. is_header_byte b ≡ true) byte rest all))

trimmed : (media : Media) → AllPass is_header_byte media → end_trimmed (front_trimmed media) ≡ media
trimmed media all =
    let front : front_trimmed media ≡ media = ap (λ (n : ℕ). drop n media) (no_blanks media all) in
    let back : suffix_len is_ascii_whitespace media ≡ 0 = no_blanks (reverse media) (AllPass-reverse is_header_byte media all) in
    ap end_trimmed front ∙ ap (λ (n : ℕ). take (length media - n) media) back ∙ take_all (length media - 0) media (omega arith)

pub said_itself : (media : Media) → FitsHeader media → type_said media ≡ media
said_itself media fits =
    let free = All-weaker (λ b. is_header_byte b ≡ true) (λ b. eqb b 59 ≡ false) no_parameter media fits.each in
    ap (λ (p : Text × Option Text). end_trimmed (front_trimmed p.0)) (uncut 59 media free) ∙ trimmed media fits.each

pub media_back : (media : Media) → FitsHeader media → media_asked (media ∷ []) ≡ Some media
media_back media fits =
    let same = said_itself media fits in
    ap (λ (m : Media). cond (is_plain m) (Some m) None) same ∙ ap (λ t. cond t (Some media) None) (plain_passes media fits)
