-- The pieces of queries, one after the other.
use Rattle.std.proofs.Common.{◌≡◌, ℕ, List, [], ◌∷◌, ◌++◌, Option, Some, None, Bor, is_some, option_copied, true, false, refl, sym, ap, ◌∙◌, append_assoc, append-nil, subst, cond}
use Rattle.hr_base.specs.Bytes.{Text}
use Rattle.hr_route.specs.Found.{IsFound, as_list}
use Rattle.hr_route.specs.Query.{marked, others, value_of, values_in}
use Rattle.hr_route.specs.declared.found.Found.{Found}

pub values_more : (key piece : Text) (rest : List Text) → values_in key (piece ∷ rest) ≡ as_list (value_of key piece) ++ values_in key rest
unfolding values_in
values_more key piece rest = refl

pub values_none : (key : Text) → values_in key [] ≡ []
unfolding values_in
values_none key = refl

-- what was found so far, of values of which the rest is still to come
pub record IsFoundSoFar (all rest : List Text) (found : Found) : Type 0 where
  pub done : List Text
  pub is : IsFound done found
  pub joined : all ≡ done ++ rest

pub found_more : (all : List Text) (key piece : Text) (parts more : List Text) (found next : Found) (value : Option Text)
    → IsFoundSoFar all (values_in key parts) found → parts ≡ piece ∷ more → value ≡ value_of key piece
    → ((values : List Text) → IsFound values found → IsFound (values ++ as_list value) next)
    → IsFoundSoFar all (values_in key more) next
found_more all key piece parts more found next value so is one step = record {
  done = so.done ++ as_list value;
  is = step so.done so.is;
  joined = so.joined ∙ ap (λ ps. so.done ++ values_in key ps) is ∙ ap (λ l. so.done ++ l) (values_more key piece more)
      ∙ ap (λ v. so.done ++ (as_list v ++ values_in key more)) (sym one)
      ∙ sym (append_assoc so.done (as_list value) (values_in key more));
}

pub others_kept : (key piece : Text) (rest : List Text) → is_some (value_of key piece) ≡ true → others key (piece ∷ rest) ≡ others key rest
unfolding others
others_kept key piece rest e = ap (λ t. cond t (others key rest) (piece ∷ others key rest)) e

pub others_put : (key piece : Text) (rest : List Text) → is_some (value_of key piece) ≡ false → others key (piece ∷ rest) ≡ piece ∷ others key rest
unfolding others
others_put key piece rest e = ap (λ t. cond t (others key rest) (piece ∷ others key rest)) e

pub others_none : (key : Text) → others key [] ≡ []
unfolding others
others_none key = refl

some_copied : {A : Type 0} (value : Option (Bor A)) → is_some (option_copied value) ≡ is_some value
some_copied None = refl
some_copied (Some x) = refl

pub kept_other : (key piece : Text) (rest : List Text) (out : Text) (mark : ℕ) (value : Option (Bor Text)) → option_copied value ≡ value_of key piece → is_some value ≡ true
    → out ++ marked mark (others key rest) ≡ out ++ marked mark (others key (piece ∷ rest))
kept_other key piece rest out mark value is some =
    ap (λ ps. out ++ marked mark ps) (sym (others_kept key piece rest (ap is_some (sym is) ∙ some_copied value ∙ some)))

pub put_next : (key piece : Text) (rest : List Text) (out mid new : Text) (mark : ℕ) (value : Option (Bor Text)) → option_copied value ≡ value_of key piece → is_some value ≡ false
    → mid ≡ out ++ mark ∷ [] → new ≡ mid ++ piece
    → new ++ marked 38 (others key rest) ≡ out ++ marked mark (others key (piece ∷ rest))
put_next key piece rest out mid new mark value is none first second =
    let after = marked 38 (others key rest) in
    ap (λ (t : Text). t ++ after) (second ∙ ap (λ (t : Text). t ++ piece) first)
    ∙ append_assoc (out ++ mark ∷ []) piece after ∙ append_assoc out (mark ∷ []) (piece ++ after)
    ∙ ap (λ ps. out ++ marked mark ps) (sym (others_put key piece rest (ap is_some (sym is) ∙ some_copied value ∙ none)))

-- all pieces were looked at
pub found_all : (key : Text) (all rest : List Text) (found : Found) → rest ≡ [] → IsFoundSoFar all (values_in key rest) found → IsFound all found
found_all key all rest found none so =
    subst (λ (vs : List Text). IsFound vs found)
    (sym (so.joined ∙ ap (λ ps. so.done ++ values_in key ps) none ∙ ap (λ l. so.done ++ l) (values_none key) ∙ append-nil so.done)) so.is
