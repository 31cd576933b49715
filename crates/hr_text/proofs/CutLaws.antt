-- What a cut leaves, and where it is made.
use Rattle.std.proofs.Common.{◌≡◌, ℕ, false, eqb, eq-eqb, [], ◌∷◌, ◌++◌, Some, refl, ap, inl, inr}
use Rattle.std.specs.List.{All, onto_first}
use Rattle.std.proofs.lemmas.Bool.{cases_Bool}
use Rattle.std.proofs.lemmas.List.Elements.{All-head, All-tail}
use Rattle.hr_base.specs.Bytes.{Text}
use Rattle.hr_text.specs.Cutting.{cut_at, pieces_left, split_at_byte}

-- the pieces of a text are the one before its first cut, and the pieces of the rest
pub pieces_at_cut : (byte : ℕ) (text : Text) → split_at_byte byte text ≡ (cut_at byte text).0 ∷ pieces_left byte (cut_at byte text).1
pieces_at_cut byte [] = refl
pieces_at_cut byte (x ∷ xs) = elim (cases_Bool (eqb x byte)) [
  | inl here ↦ rw here refl
  | inr other ↦ rw other (ap (onto_first x) (pieces_at_cut byte xs))
]

-- a text is cut at the byte behind a front that has no such byte
pub cut_at_front : (byte : ℕ) (front back : Text) → All (λ b. eqb b byte ≡ false) front → cut_at byte (front ++ byte ∷ back) ≡ (front, Some back)
cut_at_front byte [] back free = rw (eq-eqb byte byte refl) refl
cut_at_front byte (x ∷ xs) back free =
    rw (All-head (λ b. eqb b byte ≡ false) x xs free)
    (ap (λ p. (x ∷ p.0, p.1)) (cut_at_front byte xs back (All-tail (λ b. eqb b byte ≡ false) x xs free)))
