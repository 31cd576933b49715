-- Lemmas on the words of specs/Name.antt: how names are made longer at the front.
use Rattle.std.proofs.Common.{ℕ, List, [], ◌∷◌, ◌++◌, refl, sym, ap, ◌∙◌, append_assoc}
use Rattle.std.specs.Prelude.{IsTrue}
use Rattle.hr_name.specs.Alphabet.{stands_in_run}
use Rattle.hr_name.specs.Name.{IsRun, IsSeparator, IsComponent, IsName}
use Rattle.hr_name.specs.Name.IsComponent.{run, joined}
use Rattle.hr_name.specs.Name.IsName.{component, path}

-- one letter or digit is a run
pub IsRun-one : (byte : ℕ) → IsTrue (stands_in_run byte) → IsRun (byte ∷ [])
IsRun-one byte h = record { some = λ e. cc; all = (h, tt) }

IsRun-more : (byte : ℕ) (text : List ℕ) → IsTrue (stands_in_run byte) → IsRun text → IsRun (byte ∷ text)
IsRun-more byte text h r = record { some = λ e. cc; all = (h, r.all) }

IsComponent-more : {text : List ℕ} (byte : ℕ) → IsTrue (stands_in_run byte) → IsComponent text → IsComponent (byte ∷ text)
IsComponent-more byte h (run r) = run (IsRun-more byte _ h r)
IsComponent-more byte h (joined e r s c) = joined (ap (λ xs. byte ∷ xs) e) (IsRun-more byte _ h r) s c

-- a letter or a digit before a name
pub IsName-more : {text : List ℕ} (byte : ℕ) → IsTrue (stands_in_run byte) → IsName text → IsName (byte ∷ text)
IsName-more byte h (component c) = component (IsComponent-more byte h c)
IsName-more byte h (path e c n) = path (ap (λ xs. byte ∷ xs) e) (IsComponent-more byte h c) n

-- a letter or a digit and a separator before a name
pub IsName-joined : {text : List ℕ} (between : List ℕ) (byte : ℕ) → IsTrue (stands_in_run byte) → IsSeparator between
    → IsName text → IsName (byte ∷ (between ++ text))
IsName-joined between byte h s (component c) = component (joined refl (IsRun-one byte h) s c)
IsName-joined between byte h s (path {first = first} {rest = rest} e c n) =
    path (ap (λ xs. byte ∷ (between ++ xs)) e ∙ ap (λ xs. byte ∷ xs) (sym (append_assoc between first (47 ∷ rest))))
    (joined refl (IsRun-one byte h) s c) n

-- a letter or a digit and `/` before a name
pub IsName-path : {text : List ℕ} (byte : ℕ) → IsTrue (stands_in_run byte) → IsName text → IsName (byte ∷ 47 ∷ text)
IsName-path byte h n = path refl (run (IsRun-one byte h)) n
