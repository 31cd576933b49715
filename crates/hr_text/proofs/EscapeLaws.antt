-- A text of which a test finds no byte that JSON escapes has none.
use Rattle.std.proofs.Common.{◌≡◌, Bool, true, false, ◌||◌, [], ◌∷◌, refl}
use Rattle.std.specs.List.{list_any}
use Rattle.std.proofs.lemmas.List.Elements.{All-cons, All-nil}
use Rattle.hr_base.specs.Bytes.{Text}
use Rattle.hr_text.specs.Escaping.{IsUnescaped, is_escaped}

neither : (a b : Bool) → (a || b) ≡ false → (a ≡ false) × (b ≡ false)
neither true b h = cc h
neither false b h = (refl, h)

pub unescaped_text : (text : Text) → list_any is_escaped text ≡ false → IsUnescaped text
unescaped_text [] h = All-nil (λ b. is_escaped b ≡ false)
unescaped_text (b ∷ bs) h =
    let parts = neither (is_escaped b) (list_any is_escaped bs) h in
    All-cons (λ b. is_escaped b ≡ false) b bs parts.0 (unescaped_text bs parts.1)
