-- Laws of names by the `/` between their components.
use Rattle.std.proofs.Common.{◌≡◌, ◌≢◌, ◌⊎◌, [], ◌∷◌, ◌++◌, inl, inr, refl, sym, ap, ◌∙◌, subst, append_assoc, arith}
use Rattle.std.specs.Prelude.{IsTrue}
use Rattle.std.specs.List.{AllByRecursion}
use Rattle.hr_base.specs.Bytes.{Text}
use Rattle.hr_name.specs.Alphabet.{stands_in_run}
use Rattle.hr_name.specs.Name.{RepoName, IsSeparator, IsComponent, IsName}
use Rattle.hr_name.specs.Name.IsSeparator.{dot, underscore, underscores, dashes}
use Rattle.hr_name.specs.Name.IsComponent.{run, joined}
use Rattle.hr_name.specs.Name.IsName.{component, path}

-- no byte is a `/`
abbrev HasNoSlash : Text → Type 0
HasNoSlash text = AllByRecursion (λ byte. byte ≢ 47) text

no_slash-append : (front back : Text) → HasNoSlash front → HasNoSlash back → HasNoSlash (front ++ back)
no_slash-append [] back f b = b
no_slash-append (byte ∷ front) back f b = (f.0, no_slash-append front back f.1 b)

no_slash-run : (text : Text) → AllByRecursion (λ byte. IsTrue (stands_in_run byte)) text → HasNoSlash text
no_slash-run [] all = tt
no_slash-run (byte ∷ text) all =
    (λ e. let stands : IsTrue (stands_in_run 47) = subst (λ b. IsTrue (stands_in_run b)) e all.0 in cc, no_slash-run text all.1)

no_slash-dashes : (text : Text) → AllByRecursion (λ byte. byte ≡ 45) text → HasNoSlash text
no_slash-dashes [] all = tt
no_slash-dashes (byte ∷ text) all = (λ e. let first = all.0 in omega (arith, first, e), no_slash-dashes text all.1)

no_slash-separator : {text : Text} → IsSeparator text → HasNoSlash text
no_slash-separator (dot e) = subst HasNoSlash (sym e) (λ e. omega arith, tt)
no_slash-separator (underscore e) = subst HasNoSlash (sym e) (λ e. omega arith, tt)
no_slash-separator (underscores e) = subst HasNoSlash (sym e) (λ e. omega arith, (λ e. omega arith, tt))
no_slash-separator {text} (dashes d) = no_slash-dashes text d.all

no_slash-component : {text : Text} → IsComponent text → HasNoSlash text
no_slash-component {text} (run r) = no_slash-run text r.all
no_slash-component (joined {first = first} {between = between} {rest = rest} e r s c) =
    subst HasNoSlash (sym e)
    (no_slash-append first (between ++ rest) (no_slash-run first r.all)
    (no_slash-append between rest (no_slash-separator s) (no_slash-component c)))

-- a text with a `/` has one
no_slash-none : (front back : Text) → HasNoSlash (front ++ 47 ∷ back) → ⊥
no_slash-none [] back h = h.0 refl
no_slash-none (byte ∷ front) back h = no_slash-none front back h.1

-- a `/` of a text is the first one, or stands behind it
slash_cases : (first rest front back : Text) → HasNoSlash first → first ++ 47 ∷ rest ≡ front ++ 47 ∷ back
    → (rest ≡ back) ⊎ ((more : Text) × (rest ≡ more ++ 47 ∷ back))
slash_cases [] rest [] back h e = inl (cc)
slash_cases [] rest (byte ∷ front) back h e = inr (front, cc)
slash_cases (byte ∷ first) rest [] back h e = absurd (h.0 (cc))
slash_cases (byte ∷ first) rest (other ∷ front) back h e = slash_cases first rest front back h.1 (cc)

name_behind : {text : Text} (front back : Text) → IsName text → text ≡ front ++ 47 ∷ back → IsName back
name_behind front back (component c) e = absurd (no_slash-none front back (subst HasNoSlash e (no_slash-component c)))
name_behind front back (path {first = first} {rest = rest} cut c n) e =
    elim (slash_cases first rest front back (no_slash-component c) (sym cut ∙ e)) [
      | inl same ↦ subst IsName same n
      | inr more ↦ name_behind more.0 back n more.1
    ]

-- what stands behind a `/` of a name is a name
pub name_behind_slash : (front back : RepoName) → IsName (front ++ 47 ∷ back) → IsName back
name_behind_slash front back n = name_behind front back n refl

-- two names with a `/` between them are a name
pub names_joined : {front : RepoName} (back : RepoName) → IsName front → IsName back → IsName (front ++ 47 ∷ back)
names_joined back (component c) b = path refl c b
names_joined back (path {first = first} {rest = rest} e c n) b =
    path (ap (λ t. t ++ 47 ∷ back) e ∙ append_assoc first (47 ∷ rest) (47 ∷ back)) c (names_joined back n b)
