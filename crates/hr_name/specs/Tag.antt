-- The grammar of tags (OCI Distribution 1.1, "Pulling manifests").
use Rattle.std.specs.Prelude.{◌≡◌, ◌≤◌, ◌==◌, ◌&&◌, if◌then◌else◌, nat_lt, ℕ, Bool, ◌∷◌, length, IsTrue}
use Rattle.std.specs.List.{AllByRecursion}
use Rattle.hr_base.specs.Bytes.{Text}
use Rattle.hr_name.specs.Alphabet.{begins_tag, goes_on_tag}
use Rattle.hr_name.specs.declared.tag.TheConstants.{TAG_LIMIT}

-- the text of a manifest's tag
abbrev pub TagName : Type 0
TagName = Text

-- a tag: a byte of `[a-zA-Z0-9_]` and any of `[a-zA-Z0-9._-]`, which are at most 128 together
pub record IsTag (text : TagName) : Type 0 where
  pub first : ℕ
  pub rest : Text
  pub whole : text ≡ first ∷ rest
  pub begins : IsTrue (begins_tag first)
  pub goes_on : AllByRecursion (λ byte. IsTrue (goes_on_tag byte)) rest
  pub short : length text ≤ TAG_LIMIT

-- whether a tag may have this byte at this place
abbrev pub may_stand : ℕ → ℕ → Bool
may_stand at byte = if at == 0 then begins_tag byte else (nat_lt at TAG_LIMIT && goes_on_tag byte)
