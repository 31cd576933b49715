-- Policies in the order of their numbers, and those of them that are due.
use Rattle.std.proofs.Common.{◌≡◌, ℕ, suc, ◌+◌, ◌<◌, ◌≤◌, List, [], ◌∷◌, ◌++◌, length, get_or, drop, Option, Some, None, option_map, option_to_list, refl, sym, ap, ◌∙◌, subst, arith, append_assoc, append-nil, add-one, drop-cons}
use Rattle.std.proofs.Math.ListN.{drop_of_length-le}
use Rattle.std.specs.List.{AllByRecursion}
use Rattle.std.specs.List.Sorted.{IsNonDecreasingBy}
use Rattle.std.proofs.lemmas.List.Elements.{recursion_from_All}
use Rattle.hr_base.specs.declared.number.PolicyNo.{PolicyNo}
use Rattle.hr_base.specs.declared.number.Moment.{Moment}
use Rattle.hr_periodic.specs.declared.cron.Cron.{Cron}
use Rattle.hr_periodic.specs.Cron.{FindsNext}
use Rattle.hr_periodic.specs.Periodic.{Ascends, AreDue}

abbrev number_of : {X : Type 0} → PolicyNo × X → ℕ
number_of x = x.0.0

-- numbers that don't fall ascend
pub Ascends-from_sorted : {X : Type 0} (xs : List (PolicyNo × X)) → IsNonDecreasingBy (λ x. x.0.0) xs → Ascends xs
Ascends-from_sorted [] h = tt
Ascends-from_sorted (x ∷ xs) h = (
  recursion_from_All (λ y. x.0.0 ≤ y.0.0) xs (λ k d within. h 0 (suc k) d (omega arith) (omega arith)),
  Ascends-from_sorted xs (λ i j d le within. h (suc i) (suc j) d (omega arith) (omega arith)),
)

-- a loop's step: one more policy was asked
pub due_more : (moment now : ℕ) (entries : List (PolicyNo × Cron)) (i : ℕ) (d : PolicyNo × Cron) (found : Option Moment) (due more : List (PolicyNo × Moment)) → i < length entries → FindsNext (get_or entries i d).1 moment now found → more ≡ due ++ option_to_list (option_map (λ at. ((get_or entries i d).0, at)) found)
    → ((rest : List (PolicyNo × Moment)) → AreDue moment now (drop i entries) rest → AreDue moment now entries (due ++ rest))
    → (rest : List (PolicyNo × Moment)) → AreDue moment now (drop (i + 1) entries) rest → AreDue moment now entries (more ++ rest)
due_more moment now entries i d found due more within finds is so_far rest others =
    let entry : PolicyNo × Cron = get_or entries i d in
    let tail = option_to_list (option_map (λ (at : Moment). (entry.0, at)) found) in
    let P : List (PolicyNo × Cron) → Type 0 = λ left. AreDue moment now left (tail ++ rest) in
    let Q : List (PolicyNo × Moment) → Type 0 = λ due. AreDue moment now entries due in
    let next : drop i entries ≡ entry ∷ drop (i + 1) entries = rw add-one (drop-cons entries i d within) in
    let first : AreDue moment now (entry ∷ drop (i + 1) entries) (tail ++ rest) = record { found = found; finds = finds; rest = rest; others = others; is = refl } in
    subst Q (sym (append_assoc due tail rest) ∙ ap (λ l. l ++ rest) (sym is)) (so_far (tail ++ rest) (subst P (sym next) first))

-- the loop's end: all policies were asked
pub due_all : (moment now : ℕ) (entries : List (PolicyNo × Cron)) (i : ℕ) (due : List (PolicyNo × Moment)) → length entries ≤ i → ((rest : List (PolicyNo × Moment)) → AreDue moment now (drop i entries) rest → AreDue moment now entries (due ++ rest)) → AreDue moment now entries due
due_all moment now entries i due end so_far =
    let P : List (PolicyNo × Cron) → Type 0 = λ left. AreDue moment now left [] in
    let Q : List (PolicyNo × Moment) → Type 0 = λ due. AreDue moment now entries due in
    let none : drop i entries ≡ [] = drop_of_length-le entries end in
    subst Q (append-nil due) (so_far [] (subst P (sym none) refl))

-- what holds of each policy holds of each that is due
due_keeps : (P : ℕ → Type 0) (moment now : ℕ) (entries : List (PolicyNo × Cron)) (due : List (PolicyNo × Moment)) → AreDue moment now entries due → AllByRecursion (λ y. P y.0.0) entries → AllByRecursion (λ y. P y.0.0) due
due_keeps P moment now [] due is all = rw is tt
due_keeps P moment now (entry ∷ entries) due is all =
    let rest = due_keeps P moment now entries is.rest is.others all.1 in
    rw is.is (elim is.found as (λ found. AllByRecursion (λ y. P y.0.0) (option_to_list (option_map (λ at. (entry.0, at)) found) ++ is.rest)) [
      | None ↦ rest
      | Some at ↦ (all.0, rest)
    ])

-- policies that are due stand in the order of their numbers
pub Ascends-due : (moment now : ℕ) (entries : List (PolicyNo × Cron)) (due : List (PolicyNo × Moment)) → AreDue moment now entries due → Ascends entries → Ascends due
Ascends-due moment now [] due is order = rw is tt
Ascends-due moment now (entry ∷ entries) due is order =
    let rest = Ascends-due moment now entries is.rest is.others order.1 in
    let above = due_keeps (λ n. entry.0.0 ≤ n) moment now entries is.rest is.others order.0 in
    rw is.is (elim is.found as (λ found. Ascends (option_to_list (option_map (λ at. (entry.0, at)) found) ++ is.rest)) [
      | None ↦ rest
      | Some at ↦ (above, rest)
    ])
