-- The bytes of names and tags stand in JSON as they are.
use Rattle.std.proofs.Common.{◌≡◌, ◌≤◌, ◌&&◌, ℕ, Bool, true, false, eqb, [], ◌∷◌, ◌++◌, refl, sym, ap, ap₂, subst, arith, codes, IsTrue, List}
use Rattle.std.specs.Prelude.{nat_le, nat_lt, not}
use Rattle.std.specs.List.{AllByRecursion, list_all}
use Rattle.std.proofs.lemmas.Bool.{and_parts, eqb-false, leb-true, not-true}
use Rattle.std.proofs.lemmas.Bool.Decides.{nat_tests}
use Rattle.json.specs.Print.{escape, escape_byte}
use Rattle.json.proofs.Printed.Strings.{escape_byte_plain}
use Rattle.json.proofs.Printed.Utf8.{are_ascii}
use Rattle.hr_base.specs.Bytes.{Text}
use Rattle.hr_name.specs.Alphabet.{begins_tag, goes_on_tag, stands_in_run}
use Rattle.hr_name.specs.Name.{IsComponent, IsName, IsSeparator}
use Rattle.hr_name.specs.Name.IsSeparator.{dot, underscore, underscores, dashes}
use Rattle.hr_name.specs.Name.IsComponent.{run, joined}
use Rattle.hr_name.specs.Name.IsName.{component, path}
use Rattle.hr_name.specs.Tag.{IsTag}

-- whether a byte is ASCII that JSON doesn't escape
abbrev stands : ℕ → Bool
stands byte = nat_le 35 byte && (nat_lt byte 128 && not (eqb byte 92))

-- the bytes stand in JSON as they are
abbrev pub AreUnescaped : Text → Type 0
AreUnescaped text = AllByRecursion (λ byte. stands byte ≡ true) text

-- ---- such texts

byte_unescaped : (byte : ℕ) → stands byte ≡ true → escape_byte byte ≡ byte ∷ []
byte_unescaped byte is =
    let parts = and_parts (nat_le 35 byte) (nat_lt byte 128 && not (eqb byte 92)) is in
    let low : 35 ≤ byte = leb-true 35 byte parts.0 in
    let other : eqb byte 92 ≡ false = not-true (eqb byte 92) (and_parts (nat_lt byte 128) (not (eqb byte 92)) parts.1).1 in
    escape_byte_plain byte (λ e. omega (arith, low, e)) (eqb-false byte 92 other) (omega (arith, low))

pub escape_nothing : (text : Text) → AreUnescaped text → escape text ≡ text
escape_nothing [] all = refl
escape_nothing (byte ∷ text) all =
    ap₂ (λ (a b : List ℕ). a ++ b) (byte_unescaped byte all.0) (escape_nothing text all.1)

pub unescaped_ascii : (text : Text) → AreUnescaped text → are_ascii text ≡ true
unescaped_ascii [] all = refl
unescaped_ascii (byte ∷ text) all =
    let parts = and_parts (nat_le 35 byte) (nat_lt byte 128 && not (eqb byte 92)) all.0 in
    let small = (and_parts (nat_lt byte 128) (not (eqb byte 92)) parts.1).0 in
    λ i. small i && unescaped_ascii text all.1 i

-- ---- joined

both_unescaped : (front back : Text) → AreUnescaped front → AreUnescaped back → AreUnescaped (front ++ back)
both_unescaped [] back f b = b
both_unescaped (byte ∷ front) back f b = (f.0, both_unescaped front back f.1 b)

text_unescaped : (text : Text) → list_all stands text ≡ true → AreUnescaped text
text_unescaped [] passes = tt
text_unescaped (byte ∷ text) passes =
    let parts = and_parts (stands byte) (list_all stands text) passes in
    (parts.0, text_unescaped text parts.1)

-- ---- names

run_byte : (byte : ℕ) → stands_in_run byte ≡ true → stands byte ≡ true
run_byte byte is = grind (arith, nat_tests)

tag_byte : (byte : ℕ) → goes_on_tag byte ≡ true → stands byte ≡ true
tag_byte byte is = grind (arith, nat_tests)

first_byte : (byte : ℕ) → begins_tag byte ≡ true → stands byte ≡ true
first_byte byte is = grind (arith, nat_tests)

run_unescaped : (text : Text) → AllByRecursion (λ byte. IsTrue (stands_in_run byte)) text → AreUnescaped text
run_unescaped [] all = tt
run_unescaped (byte ∷ text) all = (run_byte byte all.0, run_unescaped text all.1)

dashes_unescaped : (text : Text) → AllByRecursion (λ byte. byte ≡ 45) text → AreUnescaped text
dashes_unescaped [] all = tt
dashes_unescaped (byte ∷ text) all = (ap stands all.0, dashes_unescaped text all.1)

separator_unescaped : {text : Text} → IsSeparator text → AreUnescaped text
separator_unescaped (dot e) = subst AreUnescaped (sym e) (text_unescaped (codes ".") refl)
separator_unescaped (underscore e) = subst AreUnescaped (sym e) (text_unescaped (codes "_") refl)
separator_unescaped (underscores e) = subst AreUnescaped (sym e) (text_unescaped (codes "__") refl)
separator_unescaped {text} (dashes d) = dashes_unescaped text d.all

component_unescaped : {text : Text} → IsComponent text → AreUnescaped text
component_unescaped {text} (run r) = run_unescaped text r.all
component_unescaped (joined {first = first} {between = between} {rest = rest} e r s c) =
    subst AreUnescaped (sym e)
    (both_unescaped first (between ++ rest) (run_unescaped first r.all)
    (both_unescaped between rest (separator_unescaped s) (component_unescaped c)))

pub name_unescaped : {text : Text} → IsName text → AreUnescaped text
name_unescaped {text} (component c) = component_unescaped c
name_unescaped (path {first = first} {rest = rest} e c n) =
    subst AreUnescaped (sym e)
    (both_unescaped first (47 ∷ rest) (component_unescaped c) (refl, name_unescaped n))

-- ---- tags

rest_unescaped : (text : Text) → AllByRecursion (λ byte. IsTrue (goes_on_tag byte)) text → AreUnescaped text
rest_unescaped [] all = tt
rest_unescaped (byte ∷ text) all = (tag_byte byte all.0, rest_unescaped text all.1)

pub tag_unescaped : (text : Text) → IsTag text → AreUnescaped text
tag_unescaped text is =
    subst AreUnescaped (sym is.whole) (first_byte is.first is.begins, rest_unescaped is.rest is.goes_on)
