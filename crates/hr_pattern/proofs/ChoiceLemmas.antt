-- How the alternatives of a group are met in turn, and how one of them is put behind a form.
use Rattle.std.proofs.Common.{◌≡◌, ◌≢◌, ℕ, ◌+◌, zero, suc, List, [], ◌∷◌, ◌++◌, length, get_or, drop, refl, sym, ap, ◌∙◌, arith, append_assoc, append-nil}
use Rattle.hr_pattern.specs.declared.item.Item.{Item}
use Rattle.hr_pattern.specs.declared.sign.Placed.{Placed}
use Rattle.hr_pattern.specs.declared.sign.Sign.{Sign}
use Rattle.hr_pattern.specs.declared.sign.Sign.TheVariants.{Stands, Comma}
use Rattle.hr_pattern.specs.Reading.{inside, with_item}
use Rattle.hr_pattern.specs.Sign.{signs_from}
use Rattle.hr_pattern.proofs.ReadingLemmas.{after_choices, item_more, choice_ends, after_nothing}

-- the signs of a text from a place on
abbrev pub signs_at : List ℕ → ℕ → List Placed
signs_at text at = signs_from at (drop at text)

-- a sign stands at a place, and others from another place on
abbrev pub Next : List ℕ → ℕ → Sign → ℕ → Type 0
Next text at sign next = signs_at text at ≡ record { at = at; sign = sign } ∷ signs_at text next

-- one sign more within a group
pub group_item : (brace place next : ℕ) (text : List ℕ) (choices : List (List Item)) (items : List Item) (sign : Sign) (item : Item) → Next text place sign next → sign ≡ Stands item → after_choices choices (items ++ item ∷ []) (inside brace (signs_at text next)) ≡ after_choices choices items (inside brace (signs_at text place))
group_item brace place next text choices items sign item is stands =
    let read : inside brace (signs_at text place) ≡ with_item item (inside brace (signs_at text next)) = ap (inside brace) is ∙ rw stands refl in
    sym (item_more choices items item (inside brace (signs_at text next))) ∙ sym (ap (after_choices choices items) read)

pub group_comma : (brace place next : ℕ) (text : List ℕ) (choices : List (List Item)) (items : List Item) (sign : Sign) → Next text place sign next → sign ≡ Comma → after_choices (choices ++ items ∷ []) [] (inside brace (signs_at text next)) ≡ after_choices choices items (inside brace (signs_at text place))
group_comma brace place next text choices items sign is comma = choice_ends brace choices items (signs_at text place) (record { at = place; sign = sign }) (signs_at text next) is comma

-- a group whose alternatives were met up to a place
pub record Met (text : List ℕ) (brace start place count : ℕ) : Type 0 where
  pub whole : List (List Item)
  pub items : List Item
  pub is : after_choices whole items (inside brace (signs_at text place)) ≡ inside brace (signs_at text start)
  pub counted_all : length whole ≡ count

pub met_none : (text : List ℕ) (brace start : ℕ) → Met text brace start start 0
met_none text brace start = record { whole = []; items = []; is = after_nothing brace (signs_at text start); counted_all = refl }

pub met_item : (text : List ℕ) (brace start place count next : ℕ) (sign : Sign) (item : Item) → Met text brace start place count → Next text place sign next → sign ≡ Stands item → Met text brace start next count
met_item text brace start place count next sign item met is stands = record {
  whole = met.whole;
  items = met.items ++ item ∷ [];
  is = group_item brace place next text met.whole met.items sign item is stands ∙ met.is;
  counted_all = met.counted_all;
}

length-more : {X : Type 0} (xs : List X) (x : X) → length (xs ++ x ∷ []) ≡ length xs + 1
length-more [] x = refl
length-more (y ∷ xs) x = omega (arith, length-more xs x)

pub met_comma : (text : List ℕ) (brace start place count next : ℕ) (sign : Sign) → Met text brace start place count → Next text place sign next → sign ≡ Comma → Met text brace start next (count + 1)
met_comma text brace start place count next sign met is comma = record {
  whole = met.whole ++ met.items ∷ [];
  items = [];
  is = group_comma brace place next text met.whole met.items sign is comma ∙ met.is;
  counted_all = length-more met.whole met.items ∙ ap (λ n. n + 1) met.counted_all;
}

-- a group of which one alternative is put behind a form
pub record Put (text : List ℕ) (brace start place met choice : ℕ) (before form : List Item) : Type 0 where
  pub so_far : Met text brace start place met
  pub put : form ≡ before ++ get_or (so_far.whole ++ so_far.items ∷ []) choice []

at_last : {X : Type 0} (xs : List X) (x d : X) → get_or (xs ++ x ∷ []) (length xs) d ≡ x
at_last [] x d = refl
at_last (y ∷ xs) x d = at_last xs x d

not_last : {X : Type 0} (xs : List X) (x y d : X) (k : ℕ) → k ≢ length xs → get_or (xs ++ x ∷ []) k d ≡ get_or (xs ++ y ∷ []) k d
not_last [] x y d zero other = absurd (other refl)
not_last [] x y d (suc k) other = refl
not_last (z ∷ xs) x y d zero other = refl
not_last (z ∷ xs) x y d (suc k) other = not_last xs x y d k (λ e. other (ap suc e))

default_last : {X : Type 0} (xs : List X) (d : X) (k : ℕ) → get_or (xs ++ d ∷ []) k d ≡ get_or xs k d
default_last [] d zero = refl
default_last [] d (suc k) = refl
default_last (x ∷ xs) d zero = refl
default_last (x ∷ xs) d (suc k) = default_last xs d k

pub put_none : (text : List ℕ) (brace start choice : ℕ) (before : List Item) → Put text brace start start 0 choice before before
unfolding met_none
put_none text brace start choice before = record {
  so_far = met_none text brace start;
  put = sym (ap (λ (items : List Item). before ++ items) (default_last [] [] choice) ∙ append-nil before);
}

pub put_item : (text : List ℕ) (brace start place met choice next : ℕ) (before form form' : List Item) (sign : Sign) (item : Item) → Put text brace start place met choice before form → Next text place sign next → sign ≡ Stands item → met ≡ choice → form' ≡ form ++ item ∷ [] → Put text brace start next met choice before form'
unfolding met_item
put_item text brace start place met choice next before form form' sign item old is stands here more =
    let whole : List (List Item) = old.so_far.whole in
    let items : List Item = old.so_far.items in
    let place_is : choice ≡ length whole = sym here ∙ sym old.so_far.counted_all in
    let was : get_or (whole ++ items ∷ []) choice [] ≡ items = ap (λ k. get_or (whole ++ items ∷ []) k []) place_is ∙ at_last whole items [] in
    let now : get_or (whole ++ (items ++ item ∷ []) ∷ []) choice [] ≡ items ++ item ∷ [] = ap (λ k. get_or (whole ++ (items ++ item ∷ []) ∷ []) k []) place_is ∙ at_last whole (items ++ item ∷ []) [] in
    record {
      so_far = met_item text brace start place met next sign item old.so_far is stands;
      put = more ∙ ap (λ (f : List Item). f ++ item ∷ []) (old.put ∙ ap (λ (i : List Item). before ++ i) was) ∙ append_assoc before items (item ∷ []) ∙ sym (ap (λ (i : List Item). before ++ i) now);
    }

pub put_other : (text : List ℕ) (brace start place met choice next : ℕ) (before form form' : List Item) (sign : Sign) (item : Item) → Put text brace start place met choice before form → Next text place sign next → sign ≡ Stands item → met ≢ choice → form' ≡ form → Put text brace start next met choice before form'
unfolding met_item
put_other text brace start place met choice next before form form' sign item old is stands other same =
    let whole : List (List Item) = old.so_far.whole in
    let items : List Item = old.so_far.items in
    let place_is : choice ≢ length whole = λ e. other (sym (e ∙ old.so_far.counted_all)) in
    record {
      so_far = met_item text brace start place met next sign item old.so_far is stands;
      put = same ∙ old.put ∙ ap (λ (i : List Item). before ++ i) (not_last whole items (items ++ item ∷ []) [] choice place_is);
    }

pub put_comma : (text : List ℕ) (brace start place met choice next : ℕ) (before form form' : List Item) (sign : Sign) → Put text brace start place met choice before form → Next text place sign next → sign ≡ Comma → form' ≡ form → Put text brace start next (met + 1) choice before form'
unfolding met_comma
put_comma text brace start place met choice next before form form' sign old is comma same = record {
  so_far = met_comma text brace start place met next sign old.so_far is comma;
  put = same ∙ old.put ∙ sym (ap (λ (i : List Item). before ++ i) (default_last (old.so_far.whole ++ old.so_far.items ∷ []) [] choice));
}
