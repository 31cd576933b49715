-- The grammar of repository names (OCI Distribution 1.1, "Pulling manifests"), by joining texts.
use Rattle.std.specs.Prelude.{◌≡◌, ◌≢◌, [], ◌∷◌, ◌++◌, codes, IsTrue}
use Rattle.std.specs.List.{AllByRecursion}
use Rattle.hr_base.specs.Bytes.{Text}
use Rattle.hr_name.specs.Alphabet.{stands_in_run}

-- the text of a repository's name
abbrev pub RepoName : Type 0
RepoName = Text

-- one or more lower-case letters and digits
pub record IsRun (text : Text) : Type 0 where
  pub some : text ≢ []
  pub all : AllByRecursion (λ byte. IsTrue (stands_in_run byte)) text

-- one or more bytes `-`
pub record IsDashes (text : Text) : Type 0 where
  pub some : text ≢ []
  pub all : AllByRecursion (λ byte. byte ≡ 45) text

-- a separator: `.`, `_`, `__` or one or more `-`
pub data IsSeparator (text : Text) : Type 0 where
  dot : text ≡ codes "." → IsSeparator text
  underscore : text ≡ codes "_" → IsSeparator text
  underscores : text ≡ codes "__" → IsSeparator text
  dashes : IsDashes text → IsSeparator text

-- a component: runs joined by separators
pub data IsComponent : Text → Type 0 where
  run : {text : Text} → IsRun text → IsComponent text
  joined : {text first between rest : Text} → text ≡ first ++ (between ++ rest)
      → IsRun first → IsSeparator between → IsComponent rest → IsComponent text

-- a name: components joined by `/`
pub data IsName : RepoName → Type 0 where
  component : {text : Text} → IsComponent text → IsName text
  path : {text first rest : Text} → text ≡ first ++ 47 ∷ rest
      → IsComponent first → IsName rest → IsName text
