-- Which texts are base addresses.
use Rattle.std.proofs.Common.{◌≡◌, ◌&&◌, ℕ, Bool, true, false, List, inl, inr, refl, ap, ◌∙◌}
use Rattle.std.specs.Str.{IsUtf8, is_utf8}
use Rattle.std.proofs.lemmas.Bool.{cases_Bool}
use Rattle.std.proofs.lemmas.Str.{IsUtf8-from_is_utf8, is_utf8-from_IsUtf8}
use Rattle.hr_setting.specs.Address.{are_base_bytes, is_base, is_url}

all-three : (a b c x y : Bool) → true ≡ a → b ≡ x → c ≡ y → (x && y) ≡ (a && (b && c))
all-three a b c x y e f g = rw (← e, f, g) refl

not_utf8 : (text : List ℕ) → (IsUtf8 text → ⊥) → is_utf8 text ≡ false
not_utf8 text refused = elim (cases_Bool (is_utf8 text)) [ inl e ↦ absurd (refused (IsUtf8-from_is_utf8 text e)) | inr e ↦ e ]

-- bytes that are no text are no address
pub no_text : (text : List ℕ) → true ≡ are_base_bytes text → (IsUtf8 text → ⊥) → false ≡ is_base text
no_text text bytes refused = all-three (are_base_bytes text) (is_utf8 text) (is_url text) false (is_url text) bytes (not_utf8 text refused) refl

-- and a text of the right bytes is one where it is a URL
pub url_decides : (bytes text : List ℕ) (answer : Bool) → true ≡ are_base_bytes bytes → IsUtf8 bytes → text ≡ bytes → answer ≡ is_url text → answer ≡ is_base bytes
url_decides bytes text answer b u same is = is ∙ ap is_url same ∙ all-three (are_base_bytes bytes) (is_utf8 bytes) (is_url bytes) true (is_url bytes) b (is_utf8-from_IsUtf8 bytes u) refl
