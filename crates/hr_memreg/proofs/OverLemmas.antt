-- An entry put where its key stands already, among entries in the order of their keys.
use Rattle.std.proofs.Common.{◌≡◌, refl, sym, ap, ◌∙◌, cond, List, [], ◌∷◌, Some, None}
use Rattle.std.specs.Map.{keys_of, lookup, set_value}
use Rattle.std.specs.BTreeMap.{insert_entry, is_at}
use Rattle.std.specs.Cmp.{IsTotalOrder}
use Rattle.std.specs.List.Sorted.{IsStrictlySortedBy}
use Rattle.std.specs.Ordering.{is_eq, match_ordering}
use Rattle.std.specs.declared.cmp.Ordering.{Ordering}
use Rattle.std.specs.declared.cmp.Ordering.TheVariants.{Less, Equal, Greater}
use Rattle.std.proofs.lemmas.Map.{lookup-none}
use Rattle.std.proofs.lemmas.Map.Entries.{none_below_head}
use Rattle.std.proofs.lemmas.Map.Keys.{sorted_tail}

-- the step below: the key compares to the first entry's by r
over_step : {K X : Type 0} {R : K → K → Ordering} → IsTotalOrder R → (e : K × X) (es : List (K × X)) (k : K) (old v : X)
    → IsStrictlySortedBy R (keys_of (e ∷ es)) → lookup (is_at (R k)) (e ∷ es) ≡ Some old
    → (lookup (is_at (R k)) es ≡ Some old → insert_entry R es k v ≡ set_value (is_at (R k)) es v) → (r : Ordering) → R k e.0 ≡ r
    → match_ordering r ((k, v) ∷ e ∷ es) ((e.0, v) ∷ es) (e ∷ insert_entry R es k v)
    ≡ cond (is_eq r) ((e.0, v) ∷ es) (e ∷ set_value (is_at (R k)) es v)
over_step {R = R} o e es k old v sorted there rest Less is =
    let none : lookup (is_at (R k)) (e ∷ es) ≡ None = lookup-none (is_at (R k)) (e ∷ es) (none_below_head o k e es
    sorted is) in cc
over_step o e es k old v sorted there rest Equal is = refl
over_step {R = R} o e es k old v sorted there rest Greater is =
    ap (λ t. e ∷ t) (rest (ap (λ r. cond (is_eq r) (Some e.1) (lookup (is_at (R k)) es)) (sym is) ∙ there))

pub insert_over : {K X : Type 0} {R : K → K → Ordering} → IsTotalOrder R → (es : List (K × X)) (k : K) (old v : X)
    → IsStrictlySortedBy R (keys_of es) → lookup (is_at (R k)) es ≡ Some old
    → insert_entry R es k v ≡ set_value (is_at (R k)) es v
insert_over o [] k old v sorted there = cc
insert_over {R = R} o (e ∷ es) k old v sorted there =
    over_step o e es k old v sorted there
    (λ more. insert_over o es k old v (sorted_tail R e.0 (keys_of es) sorted) more) (R k e.0) refl
