-- The names of repositories are ASCII.
use Rattle.std.proofs.Common.{◌≡◌, ◌<◌, ℕ, true, [], ◌∷◌, ◌++◌, length, get_or, sym, subst, inl, inr, arith, lit<}
use Rattle.std.specs.List.{All, AllByRecursion}
use Rattle.std.specs.Prelude.{IsTrue}
use Rattle.std.specs.Str.{IsAscii}
use Rattle.std.specs.Str.Lossy.{utf8_lossy}
use Rattle.std.proofs.lemmas.Bool.{cases_lt}
use Rattle.std.proofs.lemmas.Bool.Decides.{nat_tests}
use Rattle.std.proofs.lemmas.List.{get_or_past}
use Rattle.std.proofs.lemmas.List.Elements.{All-from_recursion}
use Rattle.std.proofs.lemmas.Str.{IsUtf8-from_ascii, utf8_lossy-IsUtf8}
use Rattle.hr_base.specs.Bytes.{Text}
use Rattle.hr_name.specs.Alphabet.{stands_in_run}
use Rattle.hr_name.specs.Name.{IsComponent, IsName, IsSeparator, component, dashes, dot, joined, path, run, underscore, underscores}

abbrev AreSmall : Text → Type 0
AreSmall text = AllByRecursion (λ byte. byte < 128) text

small_joined : (one other : Text) → AreSmall one → AreSmall other → AreSmall (one ++ other)
small_joined [] other l k = k
small_joined (x ∷ xs) other l k = (l.0, small_joined xs other l.1 k)

small_byte : (byte : ℕ) → stands_in_run byte ≡ true → byte < 128
small_byte byte e = grind (arith, nat_tests)

small_run : (text : Text) → AllByRecursion (λ byte. IsTrue (stands_in_run byte)) text → AreSmall text
small_run [] l = tt
small_run (x ∷ xs) l = (small_byte x l.0, small_run xs l.1)

small_dashes : (text : Text) → AllByRecursion (λ byte. byte ≡ 45) text → AreSmall text
small_dashes [] l = tt
small_dashes (x ∷ xs) l = (omega (arith, l.0), small_dashes xs l.1)

small_separator : (text : Text) → IsSeparator text → AreSmall text
small_separator text (dot e) = subst AreSmall (sym e) (lit< tt, tt)
small_separator text (underscore e) = subst AreSmall (sym e) (lit< tt, tt)
small_separator text (underscores e) = subst AreSmall (sym e) (lit< tt, (lit< tt, tt))
small_separator text (dashes d) = small_dashes text d.all

small_component : (text : Text) → IsComponent text → AreSmall text
small_component text (run r) = small_run text r.all
small_component text (joined {first = first} {between = between} {rest = rest} e r s c) =
    subst AreSmall (sym e) (small_joined first (between ++ rest) (small_run first r.all)
    (small_joined between rest (small_separator between s) (small_component rest c)))

small_name : (text : Text) → IsName text → AreSmall text
small_name text (component c) = small_component text c
small_name text (path {first = first} {rest = rest} e c n) =
    let tail : AreSmall (47 ∷ rest) = (lit< tt, small_name rest n) in
    subst AreSmall (sym e) (small_joined first (47 ∷ rest) (small_component first c) tail)

small_ascii : (text : Text) → All (λ byte. byte < 128) text → IsAscii text
small_ascii text all = λ i. elim (cases_lt i (length text)) [
  | inl inside ↦ all i 0 inside
  | inr past ↦ let none : get_or text i 0 ≡ 0 = get_or_past text i 0 past in omega (arith, none)
]

pub name_as_it_is : (name : Text) → IsName name → utf8_lossy name ≡ name
name_as_it_is name is =
    utf8_lossy-IsUtf8 name (IsUtf8-from_ascii name (small_ascii name (All-from_recursion (λ byte. byte < 128) name (small_name name is))))
