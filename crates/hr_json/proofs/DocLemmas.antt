-- Documents of texts, and of what is none.
use Rattle.std.proofs.Common.{◌≡◌, ℕ, List, Bool, true, false, cond, Option, None, refl, sym, ap, ◌∙◌}
use Rattle.std.specs.Str.{IsUtf8, is_utf8}
use Rattle.std.proofs.lemmas.Str.{IsUtf8-from_is_utf8, is_utf8-from_IsUtf8}
use Rattle.serde_json.specs.Data.{Data}
use Rattle.serde_json.specs.Read.{read}
use Rattle.hr_json.specs.Doc.{document_of}

-- a text is the document that it reads as
pub document_of-text : (bytes text : List ℕ) (found : Option Data) → IsUtf8 bytes → text ≡ bytes → read text ≡ found → document_of bytes ≡ found
document_of-text bytes text found u same e = rw (is_utf8-from_IsUtf8 bytes u) (ap read (sym same) ∙ e)

unless : (bytes : List ℕ) (b : Bool) (found : Option Data) → is_utf8 bytes ≡ b → (IsUtf8 bytes → ⊥) → cond b found None ≡ None
unless bytes true found e not_text = absurd (not_text (IsUtf8-from_is_utf8 bytes e))
unless bytes false found e not_text = refl

-- what is no text is no document
pub document_of-no_text : (bytes : List ℕ) → (IsUtf8 bytes → ⊥) → document_of bytes ≡ None
document_of-no_text bytes not_text = unless bytes _ _ refl not_text
