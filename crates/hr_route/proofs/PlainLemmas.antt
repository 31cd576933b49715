-- The bytes of names, tags and digests: each stands for itself in a target.
use Rattle.std.proofs.Common.{◌≡◌, ◌≢◌, ◌<◌, ℕ, Bool, true, false, ◌&&◌, eqb, [], ◌∷◌, ◌++◌, refl, sym, ap, ◌∙◌, subst, arith, codes, IsTrue}
use Rattle.std.specs.Prelude.{not}
use Rattle.std.specs.List.{All, AllByRecursion, list_all}
use Rattle.std.proofs.lemmas.Bool.{and_parts, ne_eqb}
use Rattle.std.proofs.lemmas.Bool.Decides.{nat_tests}
use Rattle.std.proofs.lemmas.List.Elements.{All-cons, All-from_recursion, All-nil, recursion_from_All}
use Rattle.hex.specs.Hex.{encode_lower}
use Rattle.percent_encoding.specs.Percent.{percent_decode}
use Rattle.percent_encoding.proofs.PercentLemmas.{percent_decode-nil, percent_decode_not_percent}
use Rattle.hr_base.specs.Bytes.{Text}
use Rattle.hr_call.specs.Reading.{IsReference, text_of_reference}
use Rattle.hr_digest.specs.Digest.{text_of_digest}
use Rattle.hr_digest.specs.Reading.{IsWhole}
use Rattle.hr_digest.specs.declared.digest.Digest.{Digest as Hash}
use Rattle.hr_digest.specs.declared.digest.Digest.TheVariants.{Sha256}
use Rattle.hr_event.specs.declared.reference.Reference.{Reference}
use Rattle.hr_event.specs.declared.reference.Reference.TheVariants.{Tag, Digest}
use Rattle.hr_name.specs.Alphabet.{begins_tag, goes_on_tag, stands_in_run}
use Rattle.hr_name.specs.Name.{IsComponent, IsName, IsSeparator}
use Rattle.hr_name.specs.Name.IsSeparator.{dot, underscore, underscores, dashes}
use Rattle.hr_name.specs.Name.IsComponent.{run, joined}
use Rattle.hr_name.specs.Name.IsName.{component, path}
use Rattle.hr_name.specs.Tag.{IsTag}
use Rattle.hr_route.specs.Path.{HasNoSlash}
use Rattle.hr_text.specs.Hexadecimal.{Spells, is_lower_hex}
use Rattle.hr_text.proofs.HexLaws.{spelled_hexadecimal}

-- a byte that begins neither an escape nor a query
pub record IsPlain (byte : ℕ) : Type 0 where
  pub percent : byte ≢ 37
  pub query : byte ≢ 63

-- a byte that doesn't end a part of a path either
pub record IsInPart (byte : ℕ) : Type 0 where
  pub plain : IsPlain byte
  pub slash : byte ≢ 47

abbrev pub ArePlain : Text → Type 0
ArePlain text = AllByRecursion IsPlain text

abbrev pub AreInPart : Text → Type 0
AreInPart text = AllByRecursion IsInPart text

-- ---- by tests

abbrev is_plain : ℕ → Bool
is_plain byte = not (eqb byte 37) && not (eqb byte 63)

abbrev is_in_part : ℕ → Bool
is_in_part byte = is_plain byte && not (eqb byte 47)

other_than : (test : ℕ → Bool) (n byte : ℕ) → test n ≡ false → test byte ≡ true → byte ≢ n
other_than test n byte fails passes e = let both : test n ≡ true = subst (λ (b : ℕ). test b ≡ true) e passes in cc

pub plain_if : (test : ℕ → Bool) → test 37 ≡ false → test 63 ≡ false → (byte : ℕ) → test byte ≡ true → IsPlain byte
plain_if test percent query byte passes =
    record { percent = other_than test 37 byte percent passes; query = other_than test 63 byte query passes }

pub in_part_if : (test : ℕ → Bool) → test 37 ≡ false → test 63 ≡ false → test 47 ≡ false → (byte : ℕ) → test byte ≡ true → IsInPart byte
in_part_if test percent query slash byte passes =
    record { plain = plain_if test percent query byte passes; slash = other_than test 47 byte slash passes }

pub plain_text : (text : Text) → list_all is_plain text ≡ true → ArePlain text
plain_text [] passes = tt
plain_text (byte ∷ text) passes =
    let parts = and_parts (is_plain byte) (list_all is_plain text) passes in
    (plain_if is_plain refl refl byte parts.0, plain_text text parts.1)

pub part_text : (text : Text) → list_all is_in_part text ≡ true → AreInPart text
part_text [] passes = tt
part_text (byte ∷ text) passes =
    let parts = and_parts (is_in_part byte) (list_all is_in_part text) passes in
    (in_part_if is_in_part refl refl refl byte parts.0, part_text text parts.1)

-- ---- joined

pub plain_joined : (front back : Text) → ArePlain front → ArePlain back → ArePlain (front ++ back)
plain_joined [] back f b = b
plain_joined (byte ∷ front) back f b = (f.0, plain_joined front back f.1 b)

part_joined : (front back : Text) → AreInPart front → AreInPart back → AreInPart (front ++ back)
part_joined [] back f b = b
part_joined (byte ∷ front) back f b = (f.0, part_joined front back f.1 b)

pub plain_part : (text : Text) → AreInPart text → ArePlain text
plain_part [] all = tt
plain_part (byte ∷ text) all = (all.0.plain, plain_part text all.1)

pub no_slash_part : (text : Text) → AreInPart text → HasNoSlash text
no_slash_part text all = All-from_recursion (λ byte. byte ≢ 47) text (slashes text all)
  where
    slashes : (rest : Text) → AreInPart rest → AllByRecursion (λ byte. byte ≢ 47) rest
    slashes [] every = tt
    slashes (byte ∷ rest) every = (every.0.slash, slashes rest every.1)

-- a plain text has no byte that begins a query
pub no_query : (text : Text) → ArePlain text → All (λ b. eqb b 63 ≡ false) text
no_query [] all = All-nil (λ b. eqb b 63 ≡ false)
no_query (byte ∷ text) all =
    All-cons (λ b. eqb b 63 ≡ false) byte text (ne_eqb byte 63 all.0.query) (no_query text all.1)

-- a plain text stands for itself
pub decoded_plain : (text : Text) → ArePlain text → percent_decode text ≡ text
decoded_plain [] all = percent_decode-nil
decoded_plain (byte ∷ text) all =
    percent_decode_not_percent byte text all.0.percent ∙ ap (λ (t : Text). byte ∷ t) (decoded_plain text all.1)

-- ---- names

part_passed : (test : ℕ → Bool) → test 37 ≡ false → test 63 ≡ false → test 47 ≡ false → (text : Text) → AllByRecursion (λ byte. IsTrue (test byte)) text → AreInPart text
part_passed test percent query slash [] all = tt
part_passed test percent query slash (byte ∷ text) all =
    (in_part_if test percent query slash byte all.0, part_passed test percent query slash text all.1)

part_dashes : (text : Text) → AllByRecursion (λ byte. byte ≡ 45) text → AreInPart text
part_dashes [] all = tt
part_dashes (byte ∷ text) all =
    (subst IsInPart (sym all.0) (in_part_if is_in_part refl refl refl 45 refl), part_dashes text all.1)

part_separator : {text : Text} → IsSeparator text → AreInPart text
part_separator (dot e) = subst AreInPart (sym e) (part_text (codes ".") refl)
part_separator (underscore e) = subst AreInPart (sym e) (part_text (codes "_") refl)
part_separator (underscores e) = subst AreInPart (sym e) (part_text (codes "__") refl)
part_separator {text} (dashes d) = part_dashes text d.all

part_run : (text : Text) → AllByRecursion (λ byte. IsTrue (stands_in_run byte)) text → AreInPart text
part_run text all = part_passed stands_in_run refl refl refl text all

part_component : {text : Text} → IsComponent text → AreInPart text
part_component {text} (run r) = part_run text r.all
part_component (joined {first = first} {between = between} {rest = rest} e r s c) =
    subst AreInPart (sym e)
    (part_joined first (between ++ rest) (part_run first r.all)
    (part_joined between rest (part_separator s) (part_component c)))

pub plain_name : {text : Text} → IsName text → ArePlain text
plain_name {text} (component c) = plain_part text (part_component c)
plain_name (path {first = first} {rest = rest} e c n) =
    subst ArePlain (sym e)
    (plain_joined first (47 ∷ rest) (plain_part first (part_component c))
    (plain_if is_plain refl refl 47 refl, plain_name n))

-- ---- tags and digests

part_tag : (text : Text) → IsTag text → AreInPart text
part_tag text is =
    subst AreInPart (sym is.whole)
    (in_part_if begins_tag refl refl refl is.first is.begins, part_passed goes_on_tag refl refl refl is.rest is.goes_on)

part_digits : (text : Text) → AllByRecursion (λ byte. is_lower_hex byte ≡ true) text → AreInPart text
part_digits text all = part_passed is_lower_hex refl refl refl text all

pub part_digest : (digest : Hash) → IsWhole digest → AreInPart (text_of_digest digest)
part_digest (Sha256 hash) whole =
    let spells : Spells (encode_lower hash) hash = record { whole = whole.1; spelled = refl } in
    let digits = spelled_hexadecimal (encode_lower hash) hash spells in
    part_joined (codes "sha256:") (encode_lower hash) (part_text (codes "sha256:") refl)
    (part_digits (encode_lower hash) (recursion_from_All (λ byte. is_lower_hex byte ≡ true) (encode_lower hash) digits.digits))

small_digits : (text : Text) → AllByRecursion (λ byte. is_lower_hex byte ≡ true) text → AllByRecursion (λ byte. byte < 256) text
small_digits [] all = tt
small_digits (byte ∷ text) all = (let digit = all.0 in grind (arith, nat_tests), small_digits text all.1)

-- each byte of a digest's text is below 256
pub small_digest : (digest : Hash) → IsWhole digest → AllByRecursion (λ byte. byte < 256) (text_of_digest digest)
small_digest (Sha256 hash) whole =
    let spells : Spells (encode_lower hash) hash = record { whole = whole.1; spelled = refl } in
    let digits = spelled_hexadecimal (encode_lower hash) hash spells in
    let rest = small_digits (encode_lower hash) (recursion_from_All (λ byte. is_lower_hex byte ≡ true) (encode_lower hash) digits.digits) in
    (omega arith, (omega arith, (omega arith, (omega arith, (omega arith, (omega arith, (omega arith, rest)))))))

pub part_reference : (reference : Reference) → IsReference reference → AreInPart (text_of_reference reference)
part_reference (Tag tag) is = part_tag tag is
part_reference (Digest digest) is = part_digest digest is
