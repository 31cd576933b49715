-- Items of lists, members of objects, and names that are no text.
use Rattle.std.proofs.Common.{◌≡◌, ◌≢◌, ℕ, List, [], ◌∷◌, map, Some, None, option_map, String, Global, string_bytes, refl, sym, ap, ◌∙◌, subst}
use Rattle.std.specs.Str.{IsUtf8}
use Rattle.std.proofs.lemmas.Str.{IsUtf8-string_bytes}
use Rattle.serde_json.specs.Data.{Data}
use Rattle.serde_json.specs.Find.{get_member, as_array}
use Rattle.serde_json.specs.View.{view, items_of, items_view, members_view}
use Rattle.serde_json.specs.declared.value.Value.{Value}
use Rattle.serde_json.proofs.Views.{member_later}
use Rattle.hr_json.specs.Node.{items_in, list_of}

pub list_of-items_of : (ds : List Data) → list_of (items_of ds) ≡ ds
list_of-items_of [] = refl
list_of-items_of (d ∷ ds) = ap (λ r. d ∷ r) (list_of-items_of ds)

-- the values of a list are its items
pub items_in-list : (d : Data) (vs : List Value) → Some (items_view vs) ≡ as_array d → Some (map view vs) ≡ items_in d
items_in-list d vs e = ap Some (sym (list_of-items_of (map view vs))) ∙ ap (option_map list_of) e

-- a name that is no text is no member's name
pub get_member-no_text : (name : List ℕ) (es : List (String Global × Value)) → (IsUtf8 name → ⊥) → get_member name (members_view es) ≡ None
get_member-no_text name [] not_text = refl
get_member-no_text name (e ∷ es) not_text =
    let other : name ≢ string_bytes e.0 = λ same. not_text (subst IsUtf8 (sym same) (IsUtf8-string_bytes e.0)) in
    member_later name e es other ∙ get_member-no_text name es not_text
