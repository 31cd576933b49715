-- Lemmas on the values of the lines with one name.
use Rattle.std.proofs.Common.{◌≡◌, ℕ, ◌+◌, ◌<◌, true, false, List, [], ◌∷◌, ◌++◌, length, get_or, take, map, flat_map, sym, ap, ◌∙◌, append-nil}
use Rattle.std.specs.Prelude.{if◌then◌else◌}
use Rattle.std.specs.Char.{to_ascii_lowercase}
use Rattle.std.proofs.lemmas.Bool.{false_from_ne_true}
use Rattle.std.proofs.lemmas.Grind.{flat_map-append}
use Rattle.std.proofs.lemmas.List.{take_more}
use Rattle.std.proofs.lemmas.Slice.Eq.{bytes_eq-Decides}
use Rattle.hr_base.specs.Bytes.{Text}
use Rattle.hr_frame.specs.declared.head.Head.{Head}
use Rattle.hr_frame.specs.Named.{is_named, named_value, values_named}

-- the lines up to one, and with it
pub values_more : (name : Text) (heads : List Head) (i : ℕ) (head : Head) → i < length heads → head ≡ get_or heads i head
    → values_named name (take (i + 1) heads) ≡ values_named name (take i heads) ++ named_value name head
unfolding values_named
values_more name heads i head inside is =
    ap (flat_map (named_value name)) (take_more heads i head inside ∙ ap (λ h. take i heads ++ h ∷ []) (sym is))
    ∙ flat_map-append (named_value name) (take i heads) (head ∷ [])
    ∙ ap (λ l. flat_map (named_value name) (take i heads) ++ l) (append-nil (named_value name head))

pub one_value : (name : Text) (head : Head) → map to_ascii_lowercase head.name ≡ map to_ascii_lowercase name → named_value name head ≡ head.value ∷ []
one_value name head same =
    let t : is_named name head ≡ true = (bytes_eq-Decides (map to_ascii_lowercase head.name) (map to_ascii_lowercase name)).1 same in
    ap (λ t. if t then head.value ∷ [] else []) t

pub no_value : (name : Text) (head : Head) → (map to_ascii_lowercase head.name ≡ map to_ascii_lowercase name → ⊥) → named_value name head ≡ []
no_value name head other =
    let t : is_named name head ≡ false =
    false_from_ne_true (is_named name head) (λ t. other ((bytes_eq-Decides (map to_ascii_lowercase head.name) (map to_ascii_lowercase name)).0 t)) in
    ap (λ t. if t then head.value ∷ [] else []) t
