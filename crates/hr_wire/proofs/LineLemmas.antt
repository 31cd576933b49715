-- The values of the lines with one name.
use Rattle.std.proofs.Common.{◌≡◌, ℕ, ◌+◌, ◌<◌, Bor, List, [], ◌∷◌, ◌++◌, Option, length, get_or, take, flat_map, sym, ap, ◌∙◌, append-nil, subst}
use Rattle.std.proofs.lemmas.Grind.{flat_map-append}
use Rattle.std.proofs.lemmas.List.{take_more}
use Rattle.hr_base.specs.Bytes.{Text}
use Rattle.hr_frame.specs.declared.head.Head.{Head}
use Rattle.hr_frame.specs.Named.{named_value, values_named}
use Rattle.hr_route.specs.Found.{IsFound, as_list}
use Rattle.hr_route.specs.declared.found.Found.{Found}
use Rattle.hr_route.specs.declared.found.Found.TheVariants.{One}

-- the lines up to one, and with it
values_more : (name : Text) (heads : List Head) (i : ℕ) (head : Head) → i < length heads → head ≡ get_or heads i head
    → values_named name (take (i + 1) heads) ≡ values_named name (take i heads) ++ named_value name head
unfolding values_named
values_more name heads i head inside is =
    ap (flat_map (named_value name)) (take_more heads i head inside ∙ ap (λ h. take i heads ++ h ∷ []) (sym is))
    ∙ flat_map-append (named_value name) (take i heads) (head ∷ [])
    ∙ ap (λ l. flat_map (named_value name) (take i heads) ++ l) (append-nil (named_value name head))

-- what is found with one line more
pub found_line : (name : Text) (heads : List Head) (i : ℕ) (head : Head) (value : Option Text) (before after : Found) → i < length heads → head ≡ get_or heads i head
    → as_list value ≡ named_value name head
    → ((values : List Text) → IsFound values before → IsFound (values ++ as_list value) after)
    → IsFound (values_named name (take i heads)) before → IsFound (values_named name (take (i + 1) heads)) after
found_line name heads i head value before after inside is one step so =
    subst (λ (values : List Text). IsFound values after)
    (ap (λ l. values_named name (take i heads) ++ l) one ∙ sym (values_more name heads i head inside is))
    (step (values_named name (take i heads)) so)

-- the values of some lines and of further ones
pub values_joined : (name : Text) (heads more : List Head) → values_named name (heads ++ more) ≡ values_named name heads ++ values_named name more
unfolding values_named
values_joined name heads more = flat_map-append (named_value name) heads more

-- the one value that was found
pub one_value : (values : List Text) (value : Bor Text) → IsFound values (One value) → values ≡ value.now ∷ []
one_value [] value is = absurd is
one_value (first ∷ []) value is = ap (λ (t : Text). t ∷ []) (sym is)
one_value (first ∷ other ∷ values) value is = absurd is
