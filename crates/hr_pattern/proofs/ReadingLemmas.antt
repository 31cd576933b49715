-- How what is read so far goes before what is left.
use Rattle.std.proofs.Common.{◌≡◌, ℕ, List, [], ◌∷◌, ◌++◌, refl, sym, ap, ◌∙◌, append_assoc, append-nil}
use Rattle.hr_pattern.specs.declared.item.Item.{Item}
use Rattle.hr_pattern.specs.declared.part.Part.{Part}
use Rattle.hr_pattern.specs.declared.part.Reading.{Reading}
use Rattle.hr_pattern.specs.declared.sign.Placed.{Placed}
use Rattle.hr_pattern.specs.declared.sign.Sign.{Sign}
use Rattle.hr_pattern.specs.declared.sign.Sign.TheVariants.{Stands, Open, Comma, Close, Wrong}
use Rattle.hr_pattern.specs.Reading.{Group, Broken, Whole, inside, with_item, with_choice}

-- parts before a reading
abbrev pub after_parts : List Part → Reading → Reading
after_parts parts rest = record { parts = parts ++ rest.parts; fault = rest.fault }

-- whole alternatives, and the front of the one that is being read, before a group
abbrev pub after_choices : List (List Item) → List Item → Group → Group
after_choices choices items (Broken fault) = Broken fault
after_choices choices items (Whole [] rest) = Whole (choices ++ items ∷ []) rest
after_choices choices items (Whole (first ∷ more) rest) = Whole (choices ++ (items ++ first) ∷ more) rest

pub item_more : (choices : List (List Item)) (items : List Item) (item : Item) (group : Group) → after_choices choices items (with_item item group) ≡ after_choices choices (items ++ item ∷ []) group
item_more choices items item (Broken fault) = refl
item_more choices items item (Whole [] rest) = refl
item_more choices items item (Whole (first ∷ more) rest) = ap (λ (all : List Item). Whole (choices ++ all ∷ more) rest) (sym (append_assoc items (item ∷ []) first))

-- a group has an alternative, so that nothing before it changes nothing
one_more : (item : Item) (group : Group) → after_choices [] [] (with_item item group) ≡ with_item item group
one_more item (Broken fault) = refl
one_more item (Whole [] rest) = refl
one_more item (Whole (first ∷ more) rest) = refl

one_choice : (group : Group) → after_choices [] [] (with_choice group) ≡ with_choice group
one_choice (Broken fault) = refl
one_choice (Whole choices rest) = refl

pub after_nothing : (brace : ℕ) (signs : List Placed) → after_choices [] [] (inside brace signs) ≡ inside brace signs
after_nothing brace [] = refl
after_nothing brace (placed ∷ signs) =
    let step : (sign : Sign) → after_choices [] [] (inside brace (record { at = placed.at; sign = sign } ∷ signs)) ≡ inside brace (record { at = placed.at; sign = sign } ∷ signs) =
    elim [
      | Stands item ↦ one_more item (inside brace signs)
      | Comma ↦ one_choice (inside brace signs)
      | Close ↦ refl
      | Open ↦ refl
      | Wrong why ↦ refl
    ]
    in step placed.sign

pub choice_more : (choices : List (List Item)) (items : List Item) (group : Group) → after_choices [] [] group ≡ group → after_choices choices items (with_choice group) ≡ after_choices (choices ++ items ∷ []) [] group
choice_more choices items (Broken fault) h = refl
choice_more choices items (Whole [] rest) h = absurd (cc)
choice_more choices items (Whole (first ∷ more) rest) h =
    ap (λ (all : List (List Item)). Whole all rest) (ap (λ (all : List Item). choices ++ all ∷ first ∷ more) (append-nil items) ∙ sym (append_assoc choices (items ∷ []) (first ∷ more)))

-- a comma ends an alternative
comma_read : (brace : ℕ) (placed : Placed) (rest : List Placed) → placed.sign ≡ Comma → inside brace (placed ∷ rest) ≡ with_choice (inside brace rest)
comma_read brace placed rest comma = rw comma refl

pub choice_ends : (brace : ℕ) (choices : List (List Item)) (items : List Item) (signs : List Placed) (placed : Placed) (rest : List Placed) → signs ≡ placed ∷ rest → placed.sign ≡ Comma → after_choices (choices ++ items ∷ []) [] (inside brace rest) ≡ after_choices choices items (inside brace signs)
choice_ends brace choices items signs placed rest is comma =
    sym (choice_more choices items (inside brace rest) (after_nothing brace rest)) ∙ ap (after_choices choices items) (sym (comma_read brace placed rest comma) ∙ ap (inside brace) (sym is))
