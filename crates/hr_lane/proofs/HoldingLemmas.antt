-- Revisions in a map under the numbers of their jobs are found as in the list of them.
use Rattle.std.proofs.Common.{◌≡◌, refl, sym, ap, ◌∙◌, ℕ, ◌-◌, Bool, true, false, cond, List, [], ◌∷◌, length, arith}
use Rattle.std.proofs.lemmas.List.Elements.{All-cons, All-get_or, All-head, All-nil, All-set, All-tail, All-take}
use Rattle.std.specs.Cmp.{nat_eq_equiv}
use Rattle.std.specs.Prelude.{Option, Some, None, if◌then◌else◌, nat_eq, slice_index_or}
use Rattle.std.specs.List.{position, swap_remove}
use Rattle.std.specs.Option.{option_map_or}
use Rattle.std.specs.Map.{keys_of, lookup, values_of}
use Rattle.indexmap.specs.IndexMap.{insert_entry, swap_remove_entry}
use Rattle.hr_line.specs.State.{HeldAfter, held_at}
use Rattle.hr_line.specs.declared.held.Held.{Held}
use Rattle.hr_lane.specs.Holding.{AreKeyed}

abbrev IsKeyed : ℕ × Held → Type 0
IsKeyed e = e.1.by.job.0 ≡ e.0

if_cond : (b : Bool) (h : Held) (o : Option Held) → (if b then Some h else o) ≡ cond b (Some h) o
if_cond true h o = refl
if_cond false h o = refl

-- a revision is found in the list as in the map
pub found_as : (entries : List (ℕ × Held)) (job : ℕ) → AreKeyed entries
    → held_at (values_of entries) job ≡ lookup (nat_eq job) entries
found_as [] job keyed = refl
found_as (e ∷ es) job keyed =
    let here : e.1.by.job.0 ≡ e.0 = All-head IsKeyed e es keyed in
    let same : nat_eq e.1.by.job.0 job ≡ nat_eq job e.0 = ap (λ n. nat_eq n job) here ∙ nat_eq_equiv.symm e.0 job in
    ap (λ b. if b then Some e.1 else held_at (values_of es) job) same
    ∙ ap (λ o. if nat_eq job e.0 then Some e.1 else o) (found_as es job (All-tail IsKeyed e es keyed))
    ∙ if_cond (nat_eq job e.0) e.1 (lookup (nat_eq job) es)

-- a map with one entry changed is a list with one revision changed
pub after_update : (before after : List (ℕ × Held)) (job : ℕ) (now : Option Held) → AreKeyed before → AreKeyed after
    → ((other : ℕ) → lookup (nat_eq other) after ≡ cond (nat_eq job other) now (lookup (nat_eq other) before))
    → HeldAfter job now (values_of before) (values_of after)
after_update before after job now keyed keyed_after updates = λ other.
    found_as after other keyed_after ∙ updates other
    ∙ ap (λ b. cond b now (lookup (nat_eq other) before)) (nat_eq_equiv.symm job other)
    ∙ ap (λ o. cond (nat_eq other job) now o) (sym (found_as before other keyed))
    ∙ as_if (nat_eq other job) now (held_at (values_of before) other)
  where
    as_if : (b : Bool) (x y : Option Held) → cond b x y ≡ (if b then x else y)
    as_if true x y = refl
    as_if false x y = refl

-- what is left is under its number
removed_at : (e : ℕ × Held) (es : List (ℕ × Held)) (i : ℕ) → AreKeyed (e ∷ es) → AreKeyed (swap_remove (e ∷ es) i e)
removed_at e es i keyed =
    All-take IsKeyed (length (e ∷ es) - 1) _
    (All-set IsKeyed (e ∷ es) i (slice_index_or (e ∷ es) (length (e ∷ es) - 1) e)
    (All-get_or IsKeyed (e ∷ es) (length (e ∷ es) - 1) e (omega arith) keyed) keyed)

pub removed_keyed : (test : ℕ → Bool) (entries : List (ℕ × Held)) → AreKeyed entries
    → AreKeyed (swap_remove_entry test entries)
removed_keyed test [] keyed = keyed
removed_keyed test (e ∷ es) keyed = by (position test (keys_of (e ∷ es)))
  where
    by : (at : Option ℕ) → AreKeyed (option_map_or (λ i. swap_remove (e ∷ es) i e) at (e ∷ es))
    by None = keyed
    by (Some i) = removed_at e es i keyed

-- what is put there is under its number
new_at : (b : Bool) (e : ℕ × Held) (es rest : List (ℕ × Held)) (h : Held) → AreKeyed (e ∷ es) → b ≡ false
    → AreKeyed rest → AreKeyed (if b then (e.0, h) ∷ es else e ∷ rest)
new_at true e es rest h keyed absent later = cc
new_at false e es rest h keyed absent later = All-cons IsKeyed e rest (All-head IsKeyed e es keyed) later

absent_at : (b : Bool) (h : Held) (o : Option Held) → cond b (Some h) o ≡ None → (b ≡ false) × (o ≡ None)
absent_at true h o is = cc
absent_at false h o is = (refl, is)

pub inserted_keyed : (entries : List (ℕ × Held)) (h : Held) → AreKeyed entries
    → lookup (nat_eq h.by.job.0) entries ≡ None → AreKeyed (insert_entry nat_eq entries h.by.job.0 h)
inserted_keyed [] h keyed absent = All-cons IsKeyed (h.by.job.0, h) [] refl (All-nil IsKeyed)
inserted_keyed (e ∷ es) h keyed absent =
    let apart = absent_at (nat_eq h.by.job.0 e.0) e.1 (lookup (nat_eq h.by.job.0) es) absent in
    new_at (nat_eq h.by.job.0 e.0) e es (insert_entry nat_eq es h.by.job.0 h) h keyed apart.0
    (inserted_keyed es h (All-tail IsKeyed e es keyed) apart.1)

pub some_or_none : (h : Held) → Some h ≡ None → ⊥
some_or_none h e = cc
