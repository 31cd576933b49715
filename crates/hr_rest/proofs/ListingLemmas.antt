-- The values of replies have no float, and lists of them are turned round.
use Rattle.std.proofs.Common.{◌≡◌, false, List, [], ◌∷◌, ◌++◌, map, reverse, refl, sym, ap, ◌∙◌}
use Rattle.std.proofs.lemmas.List.{map-append, reverse-append}
use Rattle.serde_json.specs.Data.{Data}
use Rattle.serde_json.specs.View.{items_of}
use Rattle.serde_json.specs.Written.{has_float, items_have_float}
use Rattle.hr_event.specs.declared.view.ExecView.{ExecView}
use Rattle.hr_event.specs.declared.view.RowView.{RowView}
use Rattle.hr_policy.specs.declared.config.Policy.{Policy}
use Rattle.hr_rest.specs.Replying.{policy_value}
use Rattle.hr_rest.specs.Value.{exec_value, list_value, row_value}

list-float : {A : Type 0} (value : A → Data) → ((x : A) → has_float (value x) ≡ false) → (xs : List A) → items_have_float (items_of (map value xs)) ≡ false
list-float value none [] = refl
list-float value none (x ∷ xs) = rw (none x) (list-float value none xs)

pub exec-float : (exec : ExecView) → has_float (exec_value exec) ≡ false
exec-float exec = refl

pub policies-float : (policies : List Policy) → has_float (list_value (map policy_value policies)) ≡ false
policies-float policies = list-float policy_value (λ policy. refl) policies

pub execs-float : (execs : List ExecView) → has_float (list_value (map exec_value execs)) ≡ false
execs-float execs = list-float exec_value (λ exec. refl) execs

pub rows-float : (rows : List RowView) → has_float (list_value (map row_value rows)) ≡ false
rows-float rows = list-float row_value (λ row. refl) rows

pub map_reverse : {A B : Type 0} (f : A → B) (xs : List A) → map f (reverse xs) ≡ reverse (map f xs)
map_reverse f [] = refl
map_reverse f (x ∷ xs) =
    ap (map f) (reverse-append (x ∷ []) xs)
    ∙ map-append f (reverse xs) (x ∷ [])
    ∙ ap (λ ys. ys ++ f x ∷ []) (map_reverse f xs)
    ∙ sym (reverse-append (f x ∷ []) (map f xs))
