-- Which texts are tags, and which are digests.
use Rattle.std.proofs.Common.{◌≡◌, ◌≤◌, ℕ, ◌==◌, ◌&&◌, List, [], ◌∷◌, ◌++◌, length, drop, Bool, true, false, cond, Some, None, option_and_then, Result, Ok, Err, codes, refl, sym, ap, subst, rules, tests, IsTrue}
use Rattle.std.specs.Prelude.{nat_le}
use Rattle.std.specs.List.{AllByRecursion, list_all}
use Rattle.std.specs.Result.{result_ok}
use Rattle.std.specs.Str.{bytes_eq}
use Rattle.std.proofs.lemmas.Bool.{false_from_ne_true, le-leb, leb-true}
use Rattle.std.proofs.lemmas.Slice.Eq.{bytes_eq-Decides}
use Rattle.hex.specs.Hex.{decode_of, encode_lower}
use Rattle.hex.specs.declared.error.FromHexError.{FromHexError}
use Rattle.hex.proofs.HexLemmas.{decode_of-encode_lower, decode_of-ok}
use Rattle.hr_digest.specs.Digest.{text_of_digest}
use Rattle.hr_digest.specs.Reading.{IsWhole}
use Rattle.hr_digest.specs.declared.digest.Digest.{Digest}
use Rattle.hr_digest.specs.declared.digest.Digest.TheVariants.{Sha256}
use Rattle.hr_name.specs.Alphabet.{begins_tag, goes_on_tag}
use Rattle.hr_name.specs.Tag.{IsTag}
use Rattle.hr_call.specs.Reading.{digest_in, is_tag, tag_in}

-- ---- tags

both : (a b : Bool) → (a && b) ≡ true → (a ≡ true) × (b ≡ true)
both true b e = (refl, e)
both false b e = cc

passed : (rest : List ℕ) → list_all goes_on_tag rest ≡ true → AllByRecursion (λ byte. IsTrue (goes_on_tag byte)) rest
passed [] e = tt
passed (b ∷ rest) e =
    let p = both (goes_on_tag b) (list_all goes_on_tag rest) e in
    (p.0, passed rest p.1)

tested : (rest : List ℕ) → AllByRecursion (λ byte. IsTrue (goes_on_tag byte)) rest → list_all goes_on_tag rest ≡ true
tested [] all = refl
tested (b ∷ rest) all = λ i. all.0 i && tested rest all.1 i

test_parts : (first : ℕ) (rest : List ℕ) → begins_tag first ≡ true → list_all goes_on_tag rest ≡ true → length (first ∷ rest) ≤ 128 → is_tag (first ∷ rest) ≡ true
test_parts first rest begins goes short = λ i. begins i && (goes i && le-leb (length (first ∷ rest)) 128 short i)

is_tag_of : (text : List ℕ) → IsTag text → is_tag text ≡ true
is_tag_of text is =
    subst (λ (t : List ℕ). is_tag t ≡ true) (sym is.whole)
    (test_parts is.first is.rest is.begins (tested is.rest is.goes_on) (subst (λ (t : List ℕ). length t ≤ 128) is.whole is.short))

tag_of_test : (text : List ℕ) → is_tag text ≡ true → IsTag text
tag_of_test [] e = cc
tag_of_test (first ∷ rest) e =
    let p = both (begins_tag first) (list_all goes_on_tag rest && nat_le (length (first ∷ rest)) 128) e in
    let q = both (list_all goes_on_tag rest) (nat_le (length (first ∷ rest)) 128) p.1 in
    record {
      first = first;
      rest = rest;
      whole = refl;
      begins = p.0;
      goes_on = passed rest q.0;
      short = leb-true (length (first ∷ rest)) 128 q.1;
    }

pub tag_back : (text : List ℕ) → IsTag text → tag_in text ≡ Some text
tag_back text is = ap (λ t. cond t (Some text) None) (is_tag_of text is)

pub no_tag : (text : List ℕ) → (IsTag text → ⊥) → tag_in text ≡ None
no_tag text not =
    ap (λ t. cond t (Some text) None) (false_from_ne_true (is_tag text) (λ e. not (tag_of_test text e)))

-- ---- digests

-- the text of a whole digest is read as it
pub digest_whole : (text : List ℕ) (digest : Digest) → IsWhole digest → text ≡ text_of_digest digest → digest_in text ≡ Some digest
digest_whole text (Sha256 hash) whole is =
    rw (is, decode_of-encode_lower hash whole.1, whole.0, (bytes_eq-Decides (codes "sha256:" ++ encode_lower hash) (codes "sha256:" ++ encode_lower hash)).1 refl)

checked : (text hash : List ℕ) (long same : Bool) → (length hash == 32) ≡ long → bytes_eq (text_of_digest (Sha256 hash)) text ≡ same → decode_of (drop 7 text) ≡ Ok hash
    → ((digest : Digest) → IsWhole digest → text ≡ text_of_digest digest → ⊥)
    → cond (long && same) (Some (Sha256 hash)) None ≡ None
checked text hash true true long same is none =
    let whole : length hash ≡ 32 = search (rules, tests) in
    absurd (none (Sha256 hash) (whole, (decode_of-ok _ hash is).3) (sym ((bytes_eq-Decides _ text).0 same)))
checked text hash true false long same is none = refl
checked text hash false same long e is none = refl

decoded : (text : List ℕ) (r : Result (List ℕ) FromHexError) → decode_of (drop 7 text) ≡ r
    → ((digest : Digest) → IsWhole digest → text ≡ text_of_digest digest → ⊥)
    → option_and_then (λ hash. cond (length hash == 32 && bytes_eq (text_of_digest (Sha256 hash)) text) (Some (Sha256 hash)) None) (result_ok r) ≡ None
decoded text (Ok hash) is none = checked text hash _ _ refl refl is none
decoded text (Err e) is none = refl

-- what is the text of no whole digest is read as none
pub no_digest : (text : List ℕ) → ((digest : Digest) → IsWhole digest → text ≡ text_of_digest digest → ⊥) → digest_in text ≡ None
no_digest text none = decoded text _ refl none
