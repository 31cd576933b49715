-- Lemmas on what stands behind a place of a list.
use Rattle.std.proofs.Common.{◌≡◌, ◌-◌, ◌≤◌, ℕ, List, [], length, drop, ap, sym, ◌∙◌, arith, length-drop}

-- nothing stands behind a place only from the end on
pub end_behind : {X : Type 0} → (xs : List X) (at : ℕ) → drop at xs ≡ [] → length xs ≤ at
end_behind {X} xs at none =
    let no_more : length xs - at ≡ 0 = sym (length-drop at xs) ∙ ap (λ (ys : List X). length ys) none in
    omega arith
